-- Laws of the line that a slot prints. Assumes nothing.
use Rattle.std.proofs.Common.{◌≡◌, ℕ, suc, ◌+◌, ◌*◌, ◌<◌, ◌≤◌, List, [], ◌∷◌, length, get_or, drop, set, refl, ◌∙◌, add-one, arith, drop_of_length-le, drop-cons}
use Rattle.std.proofs.lemmas.List.Edits.{sets}
use Rattle.digits.specs.Digits.{pair_of}
use Rattle.replay.specs.Text.{rest_of, line_of, Stored}

pub rest_length : (bs : List ℕ) → length (rest_of bs) ≡ 3 * length bs + 1
unfolding rest_of
rest_length [] = refl
rest_length (b ∷ bs) = omega (arith, rest_length bs)

pub line_length_lem : (bs : List ℕ) → length (line_of bs) ≤ 3 * length bs + 2
unfolding line_of
line_length_lem [] = omega arith
line_length_lem (b ∷ bs) = omega (arith, rest_length bs)

-- byte i is written, and what is left begins three characters further
pub rest_next : (l bs : List ℕ) (to i : ℕ) → i < length bs → sets (sets (set l to 32) (to + 1) (pair_of (get_or bs i 0))) (to + 3) (rest_of (drop (i + 1) bs)) ≡ sets l to (rest_of (drop i bs))
unfolding rest_of
rest_next l bs to i h =
    let e : to + 3 ≡ suc (suc (suc to)) = omega arith in
    rw (e, add-one, add-one, drop-cons bs i 0 h)

-- two digits for the first byte, and then the rest
pub line_cons : (b : ℕ) (bs l l' l'' : List ℕ) (at r : ℕ) → l' ≡ sets l at (pair_of b) → Stored l' (at + 2) (rest_of bs) l'' r → Stored l at (line_of (b ∷ bs)) l'' r
unfolding line_of
line_cons b bs l l' l'' at r p q =
    let e : at + 2 ≡ suc (suc at) = omega arith in
    record { next = omega (arith, q.next); bytes = q.bytes ∙ rw (p, e) }

-- every byte is written, and the line feed is left
pub rest_last : (bs l l₀ : List ℕ) (at to i : ℕ) → length bs ≤ i → i ≤ length bs → to ≡ at + 3 * i → sets l to (rest_of (drop i bs)) ≡ sets l₀ at (rest_of bs) → Stored l₀ at (rest_of bs) (set l to 10) (to + 1)
unfolding rest_of
rest_last bs l l₀ at to i g h e p = record { next = omega (arith, rest_length bs); bytes = rw (drop_of_length-le bs {i = i} g) at p }

-- no frame
pub line_none : (bs l : List ℕ) (at : ℕ) → length bs ≡ 0 → Stored l at (line_of bs) (set (set l at 45) (at + 1) 10) (at + 2)
unfolding line_of
line_none [] l at e = record { next = refl; bytes = rw add-one }
line_none (b ∷ bs) l at e = absurd (omega (arith, e))
