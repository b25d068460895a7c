-- Laws of lists of bytes in capital hex, of the printable front of a line, and of its end. Assumes nothing.
use Rattle.std.proofs.Common.{Option, Some, None, is_some, ◌≡◌, refl, ap, sym, ◌∙◌, Bool, true, false, cond, List, [], ◌∷◌, ℕ, zero, suc, ◌+◌, ◌-◌, ◌*◌, ◌<◌, ◌≤◌, add-one, arith, not-suc-le-zero, length, get_or, set, drop, length-drop, drop_of_length-le, drop-drop, get_or-drop, eqb, leb, ltb, leb-true, eq-eqb, ne_eqb}
use Rattle.std.proofs.lemmas.Bool.Decides.{nat_tests}
use Rattle.line.specs.Message.{room}
use Rattle.line.proofs.Laws.{false_true, cond_ind}
use Rattle.std.specs.List.{position}
use Rattle.std.proofs.lemmas.List.Recursion.{is_position_or_len}
use Rattle.std.proofs.lemmas.List.Edits.{sets}
use Rattle.syntax.specs.Hex.{space, hex_of, byte_at, counted, pairs_from, value_at, values_from}
use Rattle.syntax.specs.Form.{newline, carriage_return, ending_at, line_length, plain_of, odd}

-- no byte stands at k
pub pairs_none : (s : List ℕ) (k n : ℕ) → 0 < n → is_some (byte_at s k) ≡ false → pairs_from n s k ≡ 0
unfolding pairs_from
pairs_none s k zero h e = absurd (not-suc-le-zero h)
pairs_none s k (suc n) h e = none_counted (byte_at s k) _ _ e
  where
    none_counted : (b : Option ℕ) (spaced : Bool) (m : ℕ) → is_some b ≡ false → counted b spaced m ≡ 0
    none_counted None spaced m e = refl
    none_counted (Some b) spaced m e = absurd (false_true (sym e))

-- with nothing else than a space behind it, it is the last
last_counted : (b : Option ℕ) (m : ℕ) → is_some b ≡ true → counted b false m ≡ 1
last_counted None m e = absurd (false_true e)
last_counted (Some b) m e = refl

more_counted : (b : Option ℕ) (m : ℕ) → is_some b ≡ true → counted b true m ≡ suc m
more_counted None m e = absurd (false_true e)
more_counted (Some b) m e = refl

-- one stands there, and it is the last
pub pairs_last : (s : List ℕ) (k n : ℕ) → 0 < n → is_some (byte_at s k) ≡ true → (get_or s (k + 2) 0 ≡ space → ⊥) → pairs_from n s k ≡ 1
unfolding pairs_from
pairs_last s k zero h e f = absurd (not-suc-le-zero h)
pairs_last s k (suc n) h e f = rw (ne_eqb (get_or s (k + 2) 0) space f) (last_counted (byte_at s k) _ e)

pairs_more : (s : List ℕ) (k n m : ℕ) → n ≡ suc m → is_some (byte_at s k) ≡ true → get_or s (k + 2) 0 ≡ space → pairs_from n s k ≡ suc (pairs_from m s (k + 3))
unfolding pairs_from
pairs_more s k n m h e f = rw (h, eq-eqb (get_or s (k + 2) 0) space f) (more_counted (byte_at s k) _ e)

-- one stands there, and others may follow
pub pairs_next : (s : List ℕ) (k n : ℕ) → n < room → is_some (byte_at s (k + 3 * n)) ≡ true → get_or s (k + 3 * n + 2) 0 ≡ space → pairs_from (room - n) s (k + 3 * n) ≡ suc (pairs_from (room - (n + 1)) s (k + 3 * (n + 1)))
pairs_next s k n h e f =
    let p : k + 3 * n + 3 ≡ k + 3 * (n + 1) = omega arith in
    pairs_more s (k + 3 * n) (room - n) (room - (n + 1)) (omega arith) e f ∙ ap (λ (j : ℕ). suc (pairs_from (room - (n + 1)) s j)) p

-- none is counted yet
pub pairs_first : (s : List ℕ) (k : ℕ) → 0 + pairs_from (room - 0) s (k + 3 * 0) ≡ pairs_from room s k
pairs_first s k =
    let p : k + 3 * 0 ≡ k = omega arith in
    rw p (omega arith)

-- no more are counted
pub pairs_end : (s : List ℕ) (k n : ℕ) → n ≡ 0 → pairs_from n s k ≡ 0
unfolding pairs_from
pairs_end s k n e = rw e

values_more : (s : List ℕ) (k n m : ℕ) → n ≡ suc m → values_from n s k ≡ value_at s k ∷ values_from m s (k + 3)
unfolding values_from
values_more s k n m h = rw h

-- none is stored yet
pub list_first : (l s : List ℕ) (k n : ℕ) → sets l 0 (values_from (n - 0) s (k + 3 * 0)) ≡ sets l 0 (values_from n s k)
list_first l s k n =
    let p : k + 3 * 0 ≡ k = omega arith in
    let q : n - 0 ≡ n = omega arith in
    rw (p, q)

-- byte i is stored, and those behind it are left
pub list_next : (l l₀ s : List ℕ) (k n i v : ℕ) → i < n → v ≡ value_at s (k + 3 * i) → sets l i (values_from (n - i) s (k + 3 * i)) ≡ l₀ → sets (set l i v) (i + 1) (values_from (n - (i + 1)) s (k + 3 * (i + 1))) ≡ l₀
list_next l l₀ s k n i v h e p =
    let q : k + 3 * (i + 1) ≡ k + 3 * i + 3 = omega arith in
    rw (q, e, add-one) (rw (values_more s (k + 3 * i) (n - i) (n - (i + 1)) (omega arith), add-one) at p)

-- every byte is stored
pub list_last : (l l₀ s : List ℕ) (k i n : ℕ) → n ≡ 0 → sets l i (values_from n s k) ≡ l₀ → l ≡ l₀
unfolding values_from
list_last l l₀ s k i n e p = rw e at p

one_plain : (c n : ℕ) → cond (leb 32 c) (cond (leb c 126) (suc n) 0) 0 ≡ cond (odd c) 0 (1 + n)
one_plain c n = grind (arith, nat_tests)

-- the printable front ends at the first sign that is not printable
odd_is : (s : List ℕ) → position odd s ≡ cond (ltb (plain_of s) (length s)) (Some (plain_of s)) None
unfolding plain_of
odd_is s = rw (is_position_or_len plain_of odd refl (λ c cs. one_plain c (plain_of cs)) s)

pub odd_at : (s : List ℕ) (k : ℕ) → position odd s ≡ Some k → (ltb (plain_of s) (length s) ≡ true) × (plain_of s ≡ k)
odd_at s k =
    rw (odd_is s) (cond_ind (λ (o : Option ℕ). o ≡ Some k → (ltb (plain_of s) (length s) ≡ true) × (plain_of s ≡ k)) (ltb (plain_of s) (length s)) (λ t e. (t, cc))
    (λ _ e. cc))

pub odd_nowhere : (s : List ℕ) → position odd s ≡ None → ltb (plain_of s) (length s) ≡ false
odd_nowhere s =
    rw (odd_is s) (cond_ind (λ (o : Option ℕ). o ≡ None → ltb (plain_of s) (length s) ≡ false) (ltb (plain_of s) (length s)) (λ _ e. cc)
    (λ f _. f))

-- a byte that is not 0 stands inside
pub stands_inside : (s : List ℕ) (k c : ℕ) → get_or s k 0 ≡ suc c → k < length s
stands_inside [] k c e = absurd (omega (arith, e))
stands_inside (b ∷ bs) zero c e = omega arith
stands_inside (b ∷ bs) (suc k) c e = omega (arith, stands_inside bs k c e)

pub ending_other : (s : List ℕ) (k : ℕ) → (get_or s k 0 ≡ newline → ⊥) → (get_or s k 0 ≡ carriage_return → ⊥) → 0 ≡ ending_at s k
unfolding ending_at
ending_other s k e f = rw (ne_eqb (get_or s k 0) newline e, ne_eqb (get_or s k 0) carriage_return f)

-- what ends a line stands at the front of the rest
ending_front : (s : List ℕ) (i : ℕ) → ending_at (drop i s) 0 ≡ ending_at s i
unfolding ending_at
ending_front s i =
    let p : i + 0 ≡ i = omega arith in
    rw (get_or-drop i s 0 0, get_or-drop i s 1 0, p)

-- a line ends here, further on, or with the text
line_front : (s : List ℕ) → 0 < length s → line_length s ≡ cond (eqb (ending_at s 0) 0) (suc (line_length (drop 1 s))) 0
unfolding line_length
line_front [] h = absurd (not-suc-le-zero h)
line_front (c ∷ cs) h = refl

line_at : (s : List ℕ) (i : ℕ) → i < length s → line_length (drop i s) ≡ cond (eqb (ending_at s i) 0) (suc (line_length (drop (i + 1) s))) 0
line_at s i h = line_front (drop i s) (omega (arith, length-drop i s)) ∙ rw (ending_front s i, drop-drop 1 i s)

pub line_here : (s : List ℕ) (i : ℕ) → i < length s → 0 < ending_at s i → line_length (drop i s) ≡ 0
line_here s i h e = line_at s i h ∙ rw (ne_eqb (ending_at s i) 0 (λ z. omega (arith, e, z)))

pub line_next : (s : List ℕ) (i : ℕ) → i < length s → ending_at s i ≡ 0 → line_length (drop i s) ≡ suc (line_length (drop (i + 1) s))
line_next s i h e = line_at s i h ∙ rw (eq-eqb (ending_at s i) 0 e)

pub line_end : (s : List ℕ) (i : ℕ) → length s ≤ i → line_length (drop i s) ≡ 0
unfolding line_length
line_end s i g = rw (drop_of_length-le s {i = i} g)

-- what a digit is worth
pub digit_low : (c d : ℕ) → hex_of c ≡ Some d → d < 16
unfolding hex_of
digit_low c d =
    cond_ind (λ (x : Option ℕ). x ≡ Some d → d < 16) (ltb c 48) (λ _ e. cc)
    (λ a. cond_ind (λ (x : Option ℕ). x ≡ Some d → d < 16) (leb c 57) (λ b e. let f : c - 48 ≡ d = cc in omega (arith, leb-true c 57 b))
    (λ _. cond_ind (λ (x : Option ℕ). x ≡ Some d → d < 16) (ltb c 65) (λ _ e. cc)
    (λ _. cond_ind (λ (x : Option ℕ). x ≡ Some d → d < 16) (leb c 70) (λ b e. let f : c - 65 + 10 ≡ d = cc in omega (arith, leb-true c 70 b))
    (λ _ e. cc))))
