-- What a change leaves: all but its own bytes, and states that begin alike begin alike after the same stores. Assumes nothing.
use Rattle.std.proofs.Common.{ℕ, suc, List, [], ◌∷◌, set, le_refl}
use Rattle.std.proofs.Math.Seq.{sets}
use Rattle.fields.proofs.Frames.{Only, only_take, only_drop}
use Rattle.fields.proofs.Readers.{Same, same_set}
use Rattle.demands.specs.Waiting.{SameOutside}

pub all_but : {lo hi : ℕ} {s t : List ℕ} → Only lo hi s t → SameOutside lo hi s t
all_but {lo} {hi} w = record { long = w.long; front = only_take lo (le_refl lo) w; back = only_drop hi (le_refl hi) w }

-- ---- the first n bytes
-- the same stores in both
pub same_sets : {a b : ℕ} {s t : List ℕ} (i : ℕ) (xs : List ℕ) → Same a b s t → Same a b (sets s i xs) (sets t i xs)
same_sets i [] w = w
same_sets {s = s} {t = t} i (x ∷ xs) w = same_sets {s = set s i x} {t = set t i x} (suc i) xs (same_set i x w)
