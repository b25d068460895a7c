-- A line of printable signs is read up to its ending, which is a newline, or a carriage return and a newline. Assumes nothing.
use Rattle.std.proofs.Common.{◌≡◌, refl, ap, sym, List, [], ◌∷◌, ◌++◌, ℕ, suc, ◌<◌, ◌≤◌, arith, leb, length, leb-true, ne_eqb, eq-eqb}
use Rattle.line.proofs.Laws.{cond_ind}
use Rattle.syntax.specs.Form.{ending_at, line_length, plain_of}
use Rattle.syntax.proofs.Lists.{ending_other}

-- the first sign is printable, and so are those behind it
printable : (c : ℕ) (cs : List ℕ) → plain_of (c ∷ cs) ≡ suc (length cs) → (32 ≤ c) × (plain_of cs ≡ length cs)
unfolding plain_of
printable c cs =
    cond_ind (λ (n : ℕ). n ≡ suc (length cs) → (32 ≤ c) × (plain_of cs ≡ length cs)) (leb 32 c)
    (λ t. cond_ind (λ (n : ℕ). n ≡ suc (length cs) → (32 ≤ c) × (plain_of cs ≡ length cs)) (leb c 126)
    (λ _ e. (leb-true 32 c t, omega (arith, e)))
    (λ _ e. absurd (omega (arith, e))))
    (λ _ e. absurd (omega (arith, e)))

-- no line ends at a printable sign
goes_on_lem : (c : ℕ) (cs : List ℕ) → 32 ≤ c → ending_at (c ∷ cs) 0 ≡ 0
goes_on_lem c cs h = sym (ending_other (c ∷ cs) 0 (λ e. omega (arith, h, e)) (λ e. omega (arith, h, e)))

ends_here : (t : List ℕ) → 0 < ending_at t 0 → line_length t ≡ 0
unfolding line_length
ends_here [] h = refl
ends_here (c ∷ cs) h = rw (ne_eqb (ending_at (c ∷ cs) 0) 0 (λ z. omega (arith, h, z)))

ended : (s t : List ℕ) → plain_of s ≡ length s → 0 < ending_at t 0 → line_length (s ++ t) ≡ length s
unfolding line_length
ended [] t p h = ends_here t h
ended (c ∷ cs) t p h = rw (eq-eqb (ending_at (c ∷ (cs ++ t)) 0) 0 (goes_on_lem c (cs ++ t) (printable c cs p).0)) (ap suc (ended cs t (printable c cs p).1 h))

-- a newline ends a line
pub ended_by_one : (s r : List ℕ) → plain_of s ≡ length s → line_length (s ++ 10 ∷ r) ≡ length s
unfolding ending_at
ended_by_one s r p = ended s (10 ∷ r) p (omega arith)

-- and so do a carriage return and a newline: the carriage return is no part of the line
pub ended_by_two : (s r : List ℕ) → plain_of s ≡ length s → line_length (s ++ 13 ∷ 10 ∷ r) ≡ length s
unfolding ending_at
ended_by_two s r p = ended s (13 ∷ 10 ∷ r) p (omega arith)

-- where no newline stands behind it, it is a part of the line
pub lone_return : line_length (13 ∷ []) ≡ 1
unfolding line_length ending_at
lone_return = refl
