-- Laws of things that lie one behind the other in a pool, whatever their counts are. Assumes nothing.
use Rattle.std.proofs.Common.{◌≡◌, ℕ, zero, suc, ◌+◌, ◌-◌, ◌<◌, ◌≤◌, min, Bool, true, false, ltb, ◌≢◌, refl, subst, add-zero, add-suc, arith, ltb-false, ltb-true}
use Rattle.state.specs.Ranges.{start_in, count_in}

-- a number is below another or not
by_test : {C : Type 0} (t : Bool) → (t ≡ true → C) → (t ≡ false → C) → C
by_test true f g = f refl
by_test false f g = g refl

pub by_lt : {C : Type 0} (a b : ℕ) → (a < b → C) → (b ≤ a → C) → C
by_lt a b f g = by_test (ltb a b) (λ e. f (ltb-true a b e)) (λ e. g (ltb-false a b e))

module _ (pool : ℕ) (f : ℕ → ℕ) where
  pub start_zero : start_in pool f 0 ≡ 0
  unfolding start_in
  start_zero = refl

  pub start_suc : (n : ℕ) → start_in pool f (suc n) ≡ min pool (start_in pool f n + f n)
  unfolding start_in
  start_suc n = refl

  -- inside the pool
  pub start_most : (n : ℕ) → start_in pool f n ≤ pool
  start_most zero = omega (arith, start_zero)
  start_most (suc n) = omega (arith, start_suc n)

  start_step : (n : ℕ) → start_in pool f n ≤ start_in pool f (suc n)
  start_step n = omega (arith, start_suc n, start_most n)

  -- one behind the other
  pub start_next : (n : ℕ) → start_in pool f (suc n) ≡ start_in pool f n + count_in pool f n
  start_next n = omega (arith, start_step n)

  start_add : (n d : ℕ) → start_in pool f n ≤ start_in pool f (n + d)
  start_add n zero = rw add-zero (omega arith)
  start_add n (suc d) = rw add-suc (omega (arith, start_add n d, start_step (n + d)))

  pub start_mono : (n m : ℕ) → n ≤ m → start_in pool f n ≤ start_in pool f m
  start_mono n m h = let e : n + (m - n) ≡ m = omega arith in subst (λ (x : ℕ). start_in pool f n ≤ start_in pool f x) e (start_add n (m - n))

  -- those of one number lie inside what is there of all
  pub count_inside : (n m : ℕ) → n < m → start_in pool f n + count_in pool f n ≤ start_in pool f m
  count_inside n m h = omega (arith, start_next n, start_mono (suc n) m h)

  -- those of two numbers share no place
  pub apart_of : (n m i j : ℕ) → n ≢ m → i < count_in pool f n → j < count_in pool f m → start_in pool f n + i ≢ start_in pool f m + j
  apart_of n m i j ne p q e =
      by_lt n m (λ h. omega (arith, count_inside n m h)) (λ h. by_lt m n (λ g. omega (arith, count_inside m n g)) (λ g. ne (omega arith)))

-- cut at each step or once at the end, it is the same
abbrev pub sum_to : (ℕ → ℕ) → ℕ → ℕ
sum_to f zero = 0
sum_to f (suc n) = sum_to f n + f n

pub cut_once : (pool : ℕ) (f : ℕ → ℕ) (n : ℕ) → start_in pool f n ≡ min pool (sum_to f n)
cut_once pool f zero = omega (arith, start_zero pool f)
cut_once pool f (suc n) = omega (arith, start_suc pool f n, cut_once pool f n)

-- equal counts, equal places
pub start_same : (pool : ℕ) (f g : ℕ → ℕ) (n : ℕ) → ((i : ℕ) → i < n → g i ≡ f i) → start_in pool g n ≡ start_in pool f n
start_same pool f g zero h = omega (arith, start_zero pool f, start_zero pool g)
start_same pool f g (suc n) h =
    omega (arith, start_suc pool f n, start_suc pool g n, start_same pool f g n (λ (i : ℕ) (l : i < n). h i (omega arith)), h n (omega arith))

-- nothing of any number
pub start_none : (pool : ℕ) (f : ℕ → ℕ) (n : ℕ) → ((i : ℕ) → i < n → f i ≡ 0) → start_in pool f n ≡ 0
start_none pool f zero h = start_zero pool f
start_none pool f (suc n) h = omega (arith, start_suc pool f n, start_none pool f n (λ i p. h i (omega arith)), h n (omega arith))

-- a count of 0 becomes c, and the pool holds it: the places before stay, c are there, those behind move on by c
module _ (pool : ℕ) (f g : ℕ → ℕ) (l c m : ℕ) (inside : l < m) (was : count_in pool f l ≡ 0) (now-is : g l ≡ c)
    (others : (i : ℕ) → i < m → i ≢ l → g i ≡ f i) (fits : start_in pool f m + c ≤ pool) where
  pub grown_before : (n : ℕ) → n ≤ l → start_in pool g n ≡ start_in pool f n
  grown_before n h = start_same pool f g n (λ (i : ℕ) (h' : i < n). others i (omega arith) (λ e. no i h' e))
    where
      no : (i : ℕ) → i < n → i ≡ l → ⊥
      no i h' e = omega arith

  grown_on : (d : ℕ) → suc l + d ≤ m → start_in pool g (suc l + d) ≡ start_in pool f (suc l + d) + c
  grown_on zero h = rw add-zero (omega (arith, start_suc pool g l, grown_before l (omega arith), now-is, start_next pool f l, start_mono pool f (suc l) m inside, was))
  grown_on (suc d) h =
      rw add-suc (omega (arith, start_suc pool g (suc l + d), start_suc pool f (suc l + d), grown_on d (omega arith), others (suc l + d) (omega arith) (λ e. omega arith), start_mono pool f (suc (suc l + d)) m (omega arith)))

  pub grown_behind : (n : ℕ) → l < n → n ≤ m → start_in pool g n ≡ start_in pool f n + c
  grown_behind n h h' = let e : suc l + (n - suc l) ≡ n = omega arith in subst (λ (x : ℕ). start_in pool g x ≡ start_in pool f x + c) e (grown_on (n - suc l) (omega arith))

  pub grown_here : count_in pool g l ≡ c
  grown_here = omega (arith, grown_before l (omega arith), grown_behind (suc l) (omega arith) inside, start_next pool f l, was)

  pub grown_others : (n : ℕ) → n < m → n ≢ l → count_in pool g n ≡ count_in pool f n
  grown_others n h ne =
      by_lt n l (λ b. omega (arith, grown_before n (omega arith), grown_before (suc n) b))
      (λ b. omega (arith, grown_behind n (omega arith) (omega arith), grown_behind (suc n) (omega arith) h))
