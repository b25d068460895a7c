-- A step's line is used to its end: its bytes spelled, and behind an = sign those to expect, are all that stands there. Assumes
-- nothing.
use Rattle.std.proofs.Common.{Option, Some, None, Result, Ok, Err, ◌≡◌, refl, ap, ◌∙◌, Bool, true, false, List, [], ◌∷◌, ◌++◌, append-nil, ℕ, zero, suc, ◌+◌, ◌-◌, ◌*◌, arith, eqb, leb, ltb, length, get_or, drop, drop-cons, eqb-true, leb-true, leb-false, ne_eqb, lt-ltb}
use Rattle.std.proofs.Math.ListN.{get_or-eq_default}
use Rattle.std.proofs.Math.Seq.{drop-length}
use Rattle.std.proofs.lemmas.Bool.{eqb-false}
use Rattle.line.specs.Message.{room}
use Rattle.line.proofs.Laws.{false_true, cond_ind}
use Rattle.syntax.specs.declared.Step.{Step}
use Rattle.syntax.specs.declared.Wrong.{Wrong}
use Rattle.syntax.specs.Hex.{space, pairs_from}
use Rattle.syntax.specs.Columns.{bytes_at}
use Rattle.syntax.specs.Form.{plain_of, step_for, bytes_fit, expected_fits, fitted_of, dashes, first_end, sign_at, expecting_of, expected_of, lists_of, end_of, step_of, lettered, line_of, first_text, expected_text, Used}
use Rattle.syntax.proofs.Spelled.{by_test, Back, spelled_back}

-- a sign that is not 0 stands inside
sign_there : (s : List ℕ) (k c : ℕ) → get_or s k 0 ≡ suc c → drop k s ≡ suc c ∷ drop (k + 1) s
sign_there s k c e =
    let f : k + 1 ≡ suc k = omega arith in
    by_test (leb (length s) k) (λ t. absurd (omega (arith, e, get_or-eq_default s 0 (leb-true (length s) k t))))
    (λ g. rw f (drop-cons s k 0 (leb-false (length s) k g) ∙ rw e))

-- the bytes of a step, or its -
first_back : (step : Step) (s : List ℕ) (n : ℕ) → pairs_from room s bytes_at ≡ n → eqb (first_end step s n) bytes_at ≡ false → drop bytes_at s ≡ first_text n s ++ drop (first_end step s n) s
unfolding first_end first_text
first_back step s zero e =
    cond_ind (λ (k : ℕ). eqb k bytes_at ≡ false → drop bytes_at s ≡ 45 ∷ drop k s) (eqb (get_or s bytes_at 0) 45)
    (λ t. cond_ind (λ (k : ℕ). eqb k bytes_at ≡ false → drop bytes_at s ≡ 45 ∷ drop k s) (dashes step)
    (λ _ _. sign_there s bytes_at 44 (eqb-true _ _ t))
    (λ _ f. absurd (eqb-false bytes_at bytes_at f refl)))
    (λ _ f. absurd (eqb-false bytes_at bytes_at f refl))
first_back step s (suc j) e =
    let b : Back s bytes_at j = spelled_back room s bytes_at j e in
    let q : bytes_at + 3 * suc j - 1 ≡ bytes_at + 3 * j + 2 = omega arith in
    let z : eqb (suc j) 0 ≡ false = ne_eqb (suc j) 0 (λ y. omega arith) in
    λ _. rw (lt-ltb 0 (suc j) (omega arith), q, z) b

-- an = sign between spaces
sign_back : (s : List ℕ) (k : ℕ) → sign_at s k ≡ true → drop k s ≡ space ∷ 61 ∷ space ∷ drop (k + 3) s
unfolding sign_at
sign_back s k =
    cond_ind (λ (t : Bool). t ≡ true → drop k s ≡ space ∷ 61 ∷ space ∷ drop (k + 3) s) (eqb (get_or s k 0) space)
    (λ a. cond_ind (λ (t : Bool). t ≡ true → drop k s ≡ space ∷ 61 ∷ space ∷ drop (k + 3) s) (eqb (get_or s (k + 1) 0) 61)
    (λ b c. sign_there s k 31 (eqb-true _ _ a) ∙ ap (λ (l : List ℕ). space ∷ l) (sign_there s (k + 1) 60 (eqb-true _ _ b) ∙ ap (λ (l : List ℕ). 61 ∷ l) (second s k (eqb-true _ _ c))))
    (λ _ e. absurd (false_true e)))
    (λ _ e. absurd (false_true e))
  where
    second : (s : List ℕ) (k : ℕ) → get_or s (k + 2) 0 ≡ space → drop (k + 1 + 1) s ≡ space ∷ drop (k + 3) s
    second s k e =
        let f : k + 1 + 1 ≡ k + 2 = omega arith in
        let g : k + 3 ≡ k + 2 + 1 = omega arith in
        rw (f, g) (sign_there s (k + 2) 31 e)

-- what is to be expected, up to the line's end
expected_back : (step : Step) (s : List ℕ) (m : ℕ) → sign_at s (end_of step s) ≡ true → pairs_from room s (end_of step s + 3) ≡ m → eqb m 0 ≡ false → end_of step s + 2 + 3 * m ≡ length s → drop (end_of step s) s ≡ expected_text step m s
unfolding expected_text
expected_back step s zero t e z l = absurd (eqb-false 0 0 z refl)
expected_back step s (suc j) t e z l =
    let b : Back s (end_of step s + 3) j = spelled_back room s (end_of step s + 3) j e in
    let q : end_of step s + 3 + 3 * j + 2 ≡ length s = omega (arith, l) in
    let r : drop (end_of step s + 3 + 3 * j + 2) s ≡ [] = rw q (drop-length s) in
    rw z (sign_back s (end_of step s) t ∙ ap (λ (x : List ℕ). space ∷ 61 ∷ space ∷ x) (b ∙ rw (r, append-nil)))

nothing_back : (step : Step) (s : List ℕ) → end_of step s ≡ length s → drop (end_of step s) s ≡ expected_text step 0 s
unfolding expected_text
nothing_back step s e = rw e (drop-length s)

fitted_used : (step : Step) (s : List ℕ) (n m : ℕ) → drop bytes_at s ≡ first_text n s ++ expected_text step m s → Used s (fitted_of step s n m)
unfolding fitted_of Used
fitted_used step s n m e =
    cond_ind (Used s) (bytes_fit step s n)
    (λ _. cond_ind (Used s) (expected_fits step n m) (λ _. e) (λ _. tt))
    (λ _. tt)

-- what a step needs to be used to its end, of so many bytes to expect
Expects : Step → List ℕ → Result ℕ Wrong → Type 0
Expects step s (Ok m) = drop (end_of step s) s ≡ expected_text step m s
Expects step s (Err w) = Unit {0}

expecting_back : (step : Step) (s : List ℕ) → Expects step s (expecting_of s (end_of step s))
unfolding expecting_of Expects
expecting_back step s =
    cond_ind (Expects step s) (eqb (end_of step s) (length s)) (λ l. nothing_back step s (eqb-true _ _ l))
    (λ _. cond_ind (Expects step s) (sign_at s (end_of step s))
    (λ t. cond_ind (Expects step s) (eqb (pairs_from room s (end_of step s + 3)) 0) (λ _. tt)
    (λ z. cond_ind (Expects step s) (eqb (end_of step s + 2 + 3 * pairs_from room s (end_of step s + 3)) (length s))
    (λ l. expected_back step s (pairs_from room s (end_of step s + 3)) t refl z (eqb-true _ _ l))
    (λ _. tt)))
    (λ _. tt))

expected_used : (step : Step) (s : List ℕ) (n : ℕ) (r : Result ℕ Wrong) → drop bytes_at s ≡ first_text n s ++ drop (end_of step s) s → Expects step s r → Used s (expected_of step s n r)
unfolding Expects Used
expected_used step s n (Ok m) e f = fitted_used step s n m (e ∙ ap (λ (x : List ℕ). first_text n s ++ x) f)
expected_used step s n (Err w) e f = tt

step_used : (step : Step) (s : List ℕ) → Used s (step_of step s)
unfolding step_of lists_of Used
step_used step s =
    let n : ℕ = pairs_from room s bytes_at in
    cond_ind (Used s) (eqb (get_or s (bytes_at - 1) 0) space)
    (λ _. cond_ind (Used s) (eqb (end_of step s) bytes_at) (λ _. tt)
    (λ f. expected_used step s n (expecting_of s (end_of step s)) (first_back step s n refl f) (expecting_back step s)))
    (λ _. tt)

lettered_used : (o : Option Step) (s : List ℕ) → Used s (lettered o s)
unfolding Used
lettered_used (Some step) s = step_used step s
lettered_used None s = tt

-- a line that is taken for a step is used to its end
pub used : (s : List ℕ) → Used s (line_of s)
unfolding line_of Used
used s =
    cond_ind (Used s) (eqb (length s) 0) (λ _. tt)
    (λ _. cond_ind (Used s) (ltb (plain_of s) (length s)) (λ _. tt)
    (λ _. cond_ind (Used s) (eqb (get_or s 1 0) space)
    (λ _. cond_ind (Used s) (eqb (get_or s 0 0) 35) (λ _. tt) (λ _. lettered_used (step_for (get_or s 0 0)) s))
    (λ _. tt)))
