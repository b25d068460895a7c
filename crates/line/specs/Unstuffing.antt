-- How a received byte is read, over any reader of message bytes. It knows nothing of LEN, CTR or checksum.
use Rattle.std.specs.Prelude.{◌≡◌, ℕ, Bool, cond, List, ◌==◌, None, Ok, Err}
use Rattle.line.specs.Stuffing.{SYNC, ESC}
use Rattle.line.specs.declared.Place.{Place}
use Rattle.line.specs.declared.Place.TheVariants.{Outside, Inside, Escaped}
use Rattle.line.specs.Values.{Outcome}
use Rattle.line.specs.declared.Taken.{Taken}
use Rattle.line.specs.declared.Fault.TheVariants.{BadEscape, CutOff}

-- what a byte leads to: the place, the outcome, and the message buffer after it
pub record Fed : Type 0 where
  pub taken : Taken
  pub message : List ℕ

-- the message goes on
abbrev pub on : Place → List ℕ → Fed
on p m = record { taken = record { place = p; outcome = Ok None }; message = m }

-- the message has ended or is dropped: the reader waits for SYNC
abbrev pub over : Outcome → List ℕ → Fed
over o m = record { taken = record { place = Outside; outcome = o }; message = m }

-- a reader of message bytes: whether k bytes of a message may have come, given the buffer, and what the next one leads to
pub record Messages : Type 0 where
  pub begun : ℕ → List ℕ → Bool
  pub put : ℕ → List ℕ → ℕ → Fed

-- a place as it reads: one that no message can have is outside
abbrev pub place_by : Messages → Place → List ℕ → Place
place_by r Outside m = Outside
place_by r (Inside k) m = cond (r.begun k m) (Inside k) Outside
place_by r (Escaped k) m = cond (r.begun k m) (Escaped k) Outside

-- SYNC cuts off a message with at least one byte, ESC counted, after its SYNC
abbrev pub cut_of : Place → Outcome
cut_of Outside = Ok None
cut_of (Inside k) = cond (k == 0) (Ok None) (Err CutOff)
cut_of (Escaped k) = Err CutOff

-- a byte other than SYNC
abbrev pub inside_by : Messages → Place → List ℕ → ℕ → Fed
inside_by r Outside m b = on Outside m
inside_by r (Inside k) m b = cond (b == ESC) (on (Escaped k) m) (r.put k m b)
inside_by r (Escaped k) m b =
    cond (b == 0) (r.put k m ESC)
    (cond (b == 1) (r.put k m SYNC)
    (over (Err BadEscape) m))

-- SYNC always begins a new message
abbrev pub take_by : Messages → Place → List ℕ → ℕ → Fed
take_by r p m b =
    cond (b == SYNC)
    (record { taken = record { place = Inside 0; outcome = cut_of (place_by r p m) }; message = m })
    (inside_by r (place_by r p m) m b)

-- a function that answers t and leaves m in the buffer does what f says
pub record Does (f : Fed) (t : Taken) (m : List ℕ) : Type 0 where
  pub result : t ≡ f.taken
  pub bytes : m ≡ f.message
