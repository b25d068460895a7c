-- Bytes by slices: what is lent at once is taken as if each byte had come by a call of its own, however the wire is cut.
use Rattle.std.specs.Prelude.{ℕ, zero, suc, ◌+◌, ◌≤◌, ◌≡◌, true, false, List, [], ◌∷◌, ◌++◌, length, take, drop, replicate, Ok, Err}
use Rattle.state.specs.State.{consistent}
use Rattle.session.specs.Slice.{Slice, taking}
use Rattle.words.specs.Number.{received_number}
use Rattle.words.specs.declared.Heard.TheVariants.{Nothing}
use Rattle.words.specs.Values.{no_state}
use Rattle.demands.specs.Slave.{AnySlave}
use Rattle.demands.specs.Runs.{Call, Byte, run}

-- a call over a slice: of a state, the two memories, and the bytes
abbrev pub SliceCall : Type 0
SliceCall = List ℕ → List ℕ → List ℕ → List ℕ → Slice

-- ---- the byte call, repeated
-- the number that each byte gives, and what is left of the state and of the calibration memory
pub record Repeated : Type 0 where
  pub numbers : List ℕ
  pub state : List ℕ
  pub cal : List ℕ

abbrev pub before : ℕ → Repeated → Repeated
before n r = record { numbers = n ∷ r.numbers; state = r.state; cal = r.cal }

abbrev pub repeated : AnySlave → List ℕ → List ℕ → List ℕ → List ℕ → Repeated
repeated v s cal meas [] = record { numbers = []; state = s; cal = cal }
repeated v s cal meas (b ∷ bs) =
    before (received_number (v.receive s cal meas b).received) (repeated v (v.receive s cal meas b).state (v.receive s cal meas b).cal meas bs)

-- the same as calls of a run, of which the demands speak: each is lent what the one before left of the calibration memory
abbrev pub by_bytes : AnySlave → List ℕ → List ℕ → List ℕ → List ℕ → List Call
by_bytes v s cal meas [] = []
by_bytes v s cal meas (b ∷ bs) = Byte cal meas b ∷ by_bytes v (v.receive s cal meas b).state (v.receive s cal meas b).cal meas bs

-- ---- what a slice tells of each byte that it took: 0, but of the last one its number
abbrev pub told_of : ℕ → ℕ → List ℕ
told_of zero number = []
told_of (suc n) number = replicate n 0 ++ number ∷ []

abbrev pub told : Slice → Repeated
told o = record { numbers = told_of o.taken (received_number o.received); state = o.state; cal = o.cal }

-- ---- a host that hands on what has come, bs, by slices of the sizes ns, each behind what the one before took
pub record Drained : Type 0 where
  pub taken : ℕ
  pub numbers : List ℕ
  pub state : List ℕ
  pub cal : List ℕ

abbrev pub behind : Slice → Drained → Drained
behind o d = record { taken = o.taken + d.taken; numbers = (told o).numbers ++ d.numbers; state = d.state; cal = d.cal }

abbrev pub drained : SliceCall → List ℕ → List ℕ → List ℕ → List ℕ → List ℕ → Drained
drained call s cal meas bs [] = record { taken = 0; numbers = []; state = s; cal = cal }
drained call s cal meas bs (n ∷ ns) =
    behind (call s cal meas (take n bs))
    (drained call (call s cal meas (take n bs)).state (call s cal meas (take n bs)).cal meas (drop (call s cal meas (take n bs)).taken bs) ns)

-- ---- what is promised of a slice call beside a slave's byte call
pub record BySlices (v : AnySlave) (call : SliceCall) : Type 0 where
  -- a state that is not consistent: number 10, no byte is taken and nothing changes
  pub refuses : (s cal meas bs : List ℕ) → consistent s ≡ false → call s cal meas bs ≡ taking (Err no_state) 0 s cal
  -- an empty slice changes nothing
  pub empty : (s cal meas : List ℕ) → consistent s ≡ true → call s cal meas [] ≡ taking (Ok Nothing) 0 s cal
  -- of a slice that is not empty at least one byte is taken, and never more than there are, nor than 2^32 - 1
  pub some : (s cal meas bs : List ℕ) → consistent s ≡ true → 1 ≤ length bs → 1 ≤ (call s cal meas bs).taken
  pub most : (s cal meas bs : List ℕ) → ((call s cal meas bs).taken ≤ length bs) × ((call s cal meas bs).taken ≤ 4294967295)
  -- up to and with the first byte whose number is not 0, or all
  pub whole : (s cal meas bs : List ℕ) → consistent s ≡ true → length bs ≤ 4294967295 → received_number (call s cal meas bs).received ≡ 0
      → (call s cal meas bs).taken ≡ length bs
  -- what it tells and leaves is what the byte call gives for these bytes, one after the other
  pub same : (s cal meas bs : List ℕ) → consistent s ≡ true → repeated v s cal meas (take (call s cal meas bs).taken bs) ≡ told (call s cal meas bs)
  -- so a slice stands for a run of byte calls, and all that is proved of runs is proved of it
  pub runs : (s cal meas bs : List ℕ) → consistent s ≡ true → run v s (by_bytes v s cal meas (take (call s cal meas bs).taken bs)) ≡ (call s cal meas bs).state
  -- and it does not matter how the wire is cut
  pub cuts : (s cal meas bs ns : List ℕ) → consistent s ≡ true
      → repeated v s cal meas (take (drained call s cal meas bs ns).taken bs)
      ≡ record { numbers = (drained call s cal meas bs ns).numbers; state = (drained call s cal meas bs ns).state; cal = (drained call s cal meas bs ns).cal }

-- a slave has a slice call
pub record TakesSlices (v : AnySlave) : Type 0 where
  pub call : SliceCall
  pub by_slices : BySlices v call
