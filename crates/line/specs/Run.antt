-- The reader over many bytes.
use Rattle.std.specs.Prelude.{ℕ, List, [], ◌∷◌}
use Rattle.line.specs.Unstuffing.{Fed}
use Rattle.line.specs.Form.{Form}
use Rattle.line.specs.Reader.{take_in, take_of}
use Rattle.line.specs.declared.Place.{Place}
use Rattle.line.specs.Values.{Outcome}

-- the outcome of each byte, and the place and the message buffer after the last
pub record Ran : Type 0 where
  pub outcomes : List Outcome
  pub place : Place
  pub message : List ℕ

-- one byte, and then a run
abbrev pub then : Fed → Ran → Ran
then f r = record { outcomes = f.taken.outcome ∷ r.outcomes; place = r.place; message = r.message }

abbrev pub run_by : (Place → List ℕ → ℕ → Fed) → Place → List ℕ → List ℕ → Ran
run_by take p m [] = record { outcomes = []; place = p; message = m }
run_by take p m (b ∷ bs) = then (take p m b) (run_by take (take p m b).taken.place (take p m b).message bs)

abbrev pub run_in : Form → Place → List ℕ → List ℕ → Ran
run_in f = run_by (take_in f)

abbrev pub run_of : Place → List ℕ → List ℕ → Ran
run_of = run_by take_of
