-- Runs of the reader: one after another, the buffer's length, the place, and bytes that are passed over. Assumes nothing.
use Rattle.std.proofs.Common.{◌≡◌, ℕ, ◌≤◌, Bool, true, false, cond, eqb, List, [], ◌∷◌, ◌++◌, length, sym, refl, ap, ◌∙◌, arith}
use Rattle.line.specs.Stuffing.{SYNC}
use Rattle.line.specs.Form.{Form}
use Rattle.line.specs.Message.{longest_in}
use Rattle.line.specs.Unstuffing.{Fed, on, take_by}
use Rattle.line.specs.Reader.{messages_in, take_in}
use Rattle.line.specs.Run.{Ran, then, run_by, run_in}
use Rattle.line.specs.Wire.{has, and_then, unheard}
use Rattle.line.specs.declared.Place.{Place}
use Rattle.line.specs.declared.Place.TheVariants.{Outside}
use Rattle.line.proofs.Laws.{false_true}
use Rattle.line.proofs.Steps.{take_long_in}
use Rattle.line.proofs.After.{take_length_in, take_outside}

-- a run over two lists of bytes is a run over each
pub run_append : (take : Place → List ℕ → ℕ → Fed) (p : Place) (m xs ys : List ℕ)
    → run_by take p m (xs ++ ys) ≡ and_then (run_by take p m xs) (run_by take (run_by take p m xs).place (run_by take p m xs).message ys)
run_append take p m [] ys = refl
run_append take p m (x ∷ xs) ys = ap (λ (r : Ran). then (take p m x) r) (run_append take (take p m x).taken.place (take p m x).message xs ys)

module _ (f : Form) where
  -- a run keeps the buffer's length
  pub run_length : (p : Place) (m bs : List ℕ) → length (run_in f p m bs).message ≡ length m
  run_length p m [] = refl
  run_length p m (b ∷ bs) = run_length (take_in f p m b).taken.place (take_in f p m b).message bs ∙ take_length_in f p m b

  -- with a buffer long enough a run is one of the stuffing over messages
  pub run_long : (p : Place) (m bs : List ℕ) → longest_in f ≤ length m → run_in f p m bs ≡ run_by (take_by (messages_in f)) p m bs
  run_long p m [] fits = refl
  run_long p m (b ∷ bs) fits =
      ap (λ (r : Ran). then (take_in f p m b) r) (run_long (take_in f p m b).taken.place (take_in f p m b).message bs (omega (arith, take_length_in f p m b)))
      ∙ ap (λ (d : Fed). then d (run_by (take_by (messages_in f)) d.taken.place d.message bs)) (take_long_in f p m b fits)

  -- outside, bytes with no SYNC among them are passed over
  pub passed_over : (m bs : List ℕ) → longest_in f ≤ length m → has SYNC bs ≡ false → run_in f Outside m bs ≡ unheard m bs
  passed_over m [] fits n = refl
  passed_over m (b ∷ bs) fits n = go (eqb b SYNC) refl n (λ h. passed_over m bs fits h)
    where
      go : (t : Bool) → eqb b SYNC ≡ t → cond t true (has SYNC bs) ≡ false → (has SYNC bs ≡ false → run_in f Outside m bs ≡ unheard m bs) → run_in f Outside m (b ∷ bs) ≡ unheard m (b ∷ bs)
      go true e h k = absurd (false_true (sym h))
      go false e h k = rw (take_outside f m b fits e) (ap (λ (r : Ran). then (on Outside m) r) (k h))
