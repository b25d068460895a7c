-- Bytes put at the front of a list: what is read there, and what past them. Assumes nothing.
use Rattle.std.proofs.Common.{◌≡◌, ℕ, ◌≤◌, List, [], ◌∷◌, ◌++◌, length, take, drop, refl, ap, arith}
use Rattle.std.proofs.Math.Seq.{take-append_seam, drop-append_seam}
use Rattle.line.specs.Writer.{at_front}

pub front_split : (xs l : List ℕ) → length xs ≤ length l → at_front xs l ≡ xs ++ drop (length xs) l
front_split [] l h = refl
front_split (x ∷ xs) [] h = absurd (omega arith)
front_split (x ∷ xs) (y ∷ l) h = ap (λ (r : List ℕ). x ∷ r) (front_split xs l (omega arith))

pub take_front : (xs l : List ℕ) → length xs ≤ length l → take (length xs) (at_front xs l) ≡ xs
take_front xs l h = rw (front_split xs l h) (take-append_seam xs (drop (length xs) l))

pub drop_front : (xs l : List ℕ) → length xs ≤ length l → drop (length xs) (at_front xs l) ≡ drop (length xs) l
drop_front xs l h = rw (front_split xs l h) (drop-append_seam xs (drop (length xs) l))
