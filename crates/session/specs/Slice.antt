-- Received bytes in a slice: the byte call repeated, up to and with the first byte whose number is not 0.
use Rattle.std.specs.Prelude.{ℕ, suc, ◌≡◌, cond, List, [], ◌∷◌, eqb, take, Ok, Err}
use Rattle.state.specs.State.{consistent}
use Rattle.session.specs.Receive.{Step, fed_of, received_by}
use Rattle.session.specs.declared.Took.{Took}
use Rattle.words.specs.Number.{received_number}
use Rattle.words.specs.Values.{Received, no_state}
use Rattle.words.specs.declared.Heard.TheVariants.{Nothing}

-- what the call answers, how many bytes it took, and the state and the calibration memory after it
pub record Slice : Type 0 where
  pub received : Received
  pub taken : ℕ
  pub state : List ℕ
  pub cal : List ℕ

abbrev pub taking : Received → ℕ → List ℕ → List ℕ → Slice
taking r n s cal = record { received = r; taken = n; state = s; cal = cal }

-- a byte, and what those behind it come to: they are taken only if its number is 0
abbrev pub then : Step → Slice → Slice
then t o =
    cond (eqb (received_number t.received) 0)
    (taking o.received (suc o.taken) o.state o.cal)
    (taking t.received 1 t.state t.cal)

-- bytes in a consistent state
abbrev pub bytes_of : List ℕ → List ℕ → List ℕ → List ℕ → Slice
bytes_of s cal meas [] = taking (Ok Nothing) 0 s cal
bytes_of s cal meas (b ∷ bs) =
    then (received_by (fed_of s b) s cal meas)
    (bytes_of (received_by (fed_of s b) s cal meas).state (received_by (fed_of s b) s cal meas).cal meas bs)

-- no more than this, since C gets the number of bytes taken in 32 bits
abbrev pub taken_most : ℕ
taken_most = 4294967295

unfoldable pub receive_bytes_of : List ℕ → List ℕ → List ℕ → List ℕ → Slice
receive_bytes_of s cal meas bs = cond (consistent s) (bytes_of s cal meas (take taken_most bs)) (taking (Err no_state) 0 s cal)

-- a function that answers r and leaves s and cal does what o says
pub record ReceivesBytes (o : Slice) (r : Took) (s cal : List ℕ) : Type 0 where
  pub result : r.received ≡ o.received
  pub taken : r.taken ≡ o.taken
  pub state : s ≡ o.state
  pub memory : cal ≡ o.cal
