-- Bytes that were read are what stands there: spelled again they give the text back. Assumes nothing.
use Rattle.std.proofs.Common.{Option, Some, None, ◌≡◌, refl, ap, sym, ◌∙◌, Bool, true, false, List, [], ◌∷◌, ◌++◌, ℕ, zero, suc, ◌+◌, ◌-◌, ◌*◌, ◌/◌, ◌%◌, ◌<◌, ◌≤◌, arith, div-add-mod', mod-lt, eqb, leb, ltb, lit<, length, get_or, drop, drop-cons, ltb-false, leb-true, leb-false, eqb-true, lt-ltb, le-ltb}
use Rattle.std.proofs.Math.ListN.{get_or-eq_default}
use Rattle.digits.specs.Digits.{digit_of, pair_of}
use Rattle.line.proofs.Laws.{cond_ind}
use Rattle.syntax.specs.Hex.{space, hex_of, both, byte_at, value_at, counted, pairs_from, values_from, behind, spelled}
use Rattle.syntax.proofs.Lists.{digit_low}

-- what follows from each outcome of a test holds
pub by_test : {P : Type 0} (t : Bool) → (t ≡ true → P) → (t ≡ false → P) → P
by_test true f g = f refl
by_test false f g = g refl

low_digit : (c : ℕ) → 48 ≤ c → c ≤ 57 → digit_of (c - 48) ≡ c
low_digit c g h = rw (lt-ltb (c - 48) 10 (omega arith)) (omega arith)

high_digit : (c : ℕ) → 65 ≤ c → c ≤ 70 → digit_of (c - 65 + 10) ≡ c
high_digit c g h = rw (le-ltb (c - 65 + 10) 10 (omega arith)) (omega arith)

-- a digit that was read is the sign that stands there
digit_back : (c d : ℕ) → hex_of c ≡ Some d → digit_of d ≡ c
unfolding hex_of
digit_back c d =
    cond_ind (λ (x : Option ℕ). x ≡ Some d → digit_of d ≡ c) (ltb c 48) (λ _ e. cc)
    (λ a. cond_ind (λ (x : Option ℕ). x ≡ Some d → digit_of d ≡ c) (leb c 57) (λ b e. let f : d ≡ c - 48 = cc in rw f (low_digit c (ltb-false c 48 a) (leb-true c 57 b)))
    (λ _. cond_ind (λ (x : Option ℕ). x ≡ Some d → digit_of d ≡ c) (ltb c 65) (λ _ e. cc)
    (λ g. cond_ind (λ (x : Option ℕ). x ≡ Some d → digit_of d ≡ c) (leb c 70) (λ h e. let f : d ≡ c - 65 + 10 = cc in rw f (high_digit c (ltb-false c 65 g) (leb-true c 70 h)))
    (λ _ e. cc))))

-- past the end there is no digit
no_digit_lem : hex_of 0 ≡ None
unfolding hex_of
no_digit_lem = refl

digit_inside : (s : List ℕ) (k d : ℕ) → hex_of (get_or s k 0) ≡ Some d → k < length s
digit_inside s k d e =
    by_test (leb (length s) k) (λ t. absurd (let z = ap hex_of (get_or-eq_default s 0 (leb-true (length s) k t)) in cc (no_digit_lem, z)))
    (λ f. leb-false (length s) k f)

halves : (h l : ℕ) → h < 16 → l < 16 → pair_of (h * 16 + l) ≡ digit_of h ∷ digit_of l ∷ []
halves h l g k =
    let q : (h * 16 + l) / 16 ≡ h = omega (arith, div-add-mod' (h * 16 + l) 16, mod-lt (h * 16 + l) {m = 16} (lit< tt)) in
    let r : (h * 16 + l) % 16 ≡ l = omega (arith, div-add-mod' (h * 16 + l) 16, mod-lt (h * 16 + l) {m = 16} (lit< tt)) in
    rw (q, r)

-- the two digits of a byte that stands at k
pub record Stands (s : List ℕ) (k b : ℕ) : Type 0 where
  pub h : ℕ
  pub l : ℕ
  pub high : hex_of (get_or s k 0) ≡ Some h
  pub low : hex_of (get_or s (k + 1) 0) ≡ Some l
  pub value : b ≡ h * 16 + l

byte_stands : (s : List ℕ) (k b : ℕ) → byte_at s k ≡ Some b → Stands s k b
unfolding byte_at
byte_stands s k b e = both_stand (hex_of (get_or s k 0)) (hex_of (get_or s (k + 1) 0)) refl refl e
  where
    both_stand : (x y : Option ℕ) → hex_of (get_or s k 0) ≡ x → hex_of (get_or s (k + 1) 0) ≡ y → both x y ≡ Some b → Stands s k b
    both_stand (Some h) (Some l) p q e = record { h = h; l = l; high = p; low = q; value = cc }
    both_stand (Some h) None p q e = cc
    both_stand None y p q e = cc

value_is : (s : List ℕ) (k b : ℕ) → byte_at s k ≡ Some b → value_at s k ≡ b
unfolding value_at
value_is s k b e = rw e

byte_back : (s : List ℕ) (k b : ℕ) → Stands s k b → pair_of b ≡ get_or s k 0 ∷ get_or s (k + 1) 0 ∷ []
byte_back s k b t =
    rw t.value (halves t.h t.l (digit_low _ t.h t.high) (digit_low _ t.l t.low) ∙ rw (digit_back (get_or s k 0) t.h t.high, digit_back (get_or s (k + 1) 0) t.l t.low))

-- ... so what stands from k on begins with them
pub stands_back : (s : List ℕ) (k b : ℕ) → byte_at s k ≡ Some b → drop k s ≡ pair_of (value_at s k) ++ drop (k + 2) s
stands_back s k b v =
    let t : Stands s k b = byte_stands s k b v in
    let e : k + 2 ≡ suc (suc k) = omega arith in
    let f : k + 1 ≡ suc k = omega arith in
    let i : k < length s = digit_inside s k t.h t.high in
    let j : k + 1 < length s = digit_inside s (k + 1) t.l t.low in
    let two : drop k s ≡ get_or s k 0 ∷ get_or s (k + 1) 0 ∷ drop (k + 2) s = rw (e, f) (drop-cons s k 0 i ∙ ap (λ (l : List ℕ). get_or s k 0 ∷ l) (drop-cons s (suc k) 0 (omega arith))) in
    let pair : pair_of (value_at s k) ≡ get_or s k 0 ∷ get_or s (k + 1) 0 ∷ [] = rw (value_is s k b v) (byte_back s k b t) in
    two ∙ sym (ap (λ (l : List ℕ). l ++ drop (k + 2) s) pair)

space_inside : (s : List ℕ) (k : ℕ) → get_or s k 0 ≡ space → k < length s
space_inside s k e =
    by_test (leb (length s) k) (λ t. absurd (omega (arith, e, get_or-eq_default s 0 (leb-true (length s) k t))))
    (λ f. leb-false (length s) k f)

-- the space behind two digits
more_space : (s : List ℕ) (k : ℕ) → get_or s (k + 2) 0 ≡ space → drop (k + 2) s ≡ space ∷ drop (k + 3) s
more_space s k e =
    let f : k + 3 ≡ suc (k + 2) = omega arith in
    rw f (drop-cons s (k + 2) 0 (space_inside s (k + 2) e) ∙ rw e)

-- what stands from k on, if m and one more bytes were counted there: those bytes, spelled, and then the rest
abbrev pub Back : List ℕ → ℕ → ℕ → Type 0
Back s k m = drop k s ≡ spelled (values_from (suc m) s k) ++ drop (k + 3 * m + 2) s

one_back : (s : List ℕ) (k m b : ℕ) → byte_at s k ≡ Some b → m ≡ 0 → Back s k m
unfolding spelled behind values_from
one_back s k m b v e =
    let f : k + 3 * 0 + 2 ≡ k + 2 = omega arith in
    rw (e, f) (stands_back s k b v)

next_back : (s : List ℕ) (k m j b : ℕ) → byte_at s k ≡ Some b → get_or s (k + 2) 0 ≡ space → m ≡ suc j → Back s (k + 3) j → Back s k m
unfolding spelled behind values_from
next_back s k m j b v p e r =
    let f : k + 3 * suc j + 2 ≡ k + 3 + 3 * j + 2 = omega arith in
    rw (e, f) (stands_back s k b v ∙ ap (λ (l : List ℕ). pair_of (value_at s k) ++ l) (more_space s k p ∙ ap (λ (l : List ℕ). space ∷ l) r))

spelled_step : (n : ℕ) (s : List ℕ) (k m : ℕ) (v : Option ℕ) (t : Bool) → byte_at s k ≡ v → eqb (get_or s (k + 2) 0) space ≡ t → counted v t (pairs_from n s (k + 3)) ≡ suc m → ((j : ℕ) → pairs_from n s (k + 3) ≡ suc j → Back s (k + 3) j) → Back s k m
spelled_step n s k m None t p q e h = absurd (omega (arith, e))
spelled_step n s k m (Some b) false p q e h = one_back s k m b p (omega (arith, e))
spelled_step n s k zero (Some b) true p q e h = one_back s k zero b p refl
spelled_step n s k (suc j) (Some b) true p q e h = next_back s k (suc j) j b p (eqb-true _ _ q) refl (h j (omega (arith, e)))

-- n at most are counted, and m and one more there are
pub spelled_back : (n : ℕ) (s : List ℕ) (k m : ℕ) → pairs_from n s k ≡ suc m → Back s k m
unfolding pairs_from
spelled_back zero s k m e = absurd (omega (arith, e))
spelled_back (suc n) s k m e = spelled_step n s k m (byte_at s k) (eqb (get_or s (k + 2) 0) space) refl refl e (λ j f. spelled_back n s (k + 3) j f)
