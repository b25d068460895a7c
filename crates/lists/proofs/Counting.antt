-- A test over the first n lists, or over n ODTs, once decided, stays so. Assumes nothing.
use Rattle.std.proofs.Common.{◌≡◌, ℕ, zero, suc, ◌+◌, ◌-◌, ◌<◌, ◌≤◌, Bool, true, false, cond, ◌&&◌, ◌||◌, sym, refl, ap, ◌∙◌, subst, add-zero, zero-add, add-suc, arith}
use Rattle.std.specs.List.{list_any, list_all, range_with_len}
use Rattle.model.specs.Model.{DaqList, Session, each_fits}
use Rattle.model.specs.Judge.{all_startable}

-- the library's tests of n numbers from a on, at one number more
any_more : (p : ℕ → Bool) (a n : ℕ) → list_any p (range_with_len a (suc n)) ≡ cond (list_any p (range_with_len a n)) true (p (a + n))
any_more p a zero = rw (add-zero a) (by (p a)) where
  by : (b : Bool) → (b || false) ≡ b
  by true = refl
  by false = refl
any_more p a (suc n) =
    let e : a + 1 + n ≡ a + suc n = omega arith in
    by (p a) (list_any p (range_with_len (a + 1) n)) (p (a + suc n)) (any_more p (a + 1) n ∙ rw e)
  where
    by : (b c d : Bool) {r : Bool} → r ≡ cond c true d → (b || r) ≡ cond (b || c) true d
    by true c d e = refl
    by false c d e = e

all_more : (p : ℕ → Bool) (n a : ℕ) → list_all p (range_with_len a (suc n)) ≡ cond (list_all p (range_with_len a n)) (p (a + n)) false
all_more p zero a = rw (add-zero a) (by (p a)) where
  by : (b : Bool) → (b && true) ≡ b
  by true = refl
  by false = refl
all_more p (suc n) a =
    let e : a + 1 + n ≡ a + suc n = omega arith in
    by (p a) (list_all p (range_with_len (a + 1) n)) (p (a + suc n)) (all_more p n (a + 1) ∙ rw e)
  where
    by : (b c d : Bool) {r : Bool} → r ≡ cond c d false → (b && r) ≡ cond (b && c) d false
    by true c d e = e
    by false c d e = refl

-- so they answer what a definition answers that takes one number more at a time
pub any_from : (f p : ℕ → Bool) (a n : ℕ) → f 0 ≡ false → ((k : ℕ) → k < n → f (suc k) ≡ cond (f k) true (p (a + k))) → list_any p (range_with_len a n) ≡ f n
any_from f p a zero z h = sym z
any_from f p a (suc n) z h =
    any_more p a n ∙ ap (λ (b : Bool). cond b true (p (a + n))) (any_from f p a n z (λ k i. h k (omega arith))) ∙ sym (h n (omega arith))

pub any_below : (f p : ℕ → Bool) (n : ℕ) → f 0 ≡ false → ((k : ℕ) → k < n → f (suc k) ≡ cond (f k) true (p k)) → list_any p (range_with_len 0 n) ≡ f n
any_below f p n z h = any_from f p 0 n z (λ k i. rw (zero-add k) (h k i))

pub all_below : (f p : ℕ → Bool) (n : ℕ) → f 0 ≡ true → ((k : ℕ) → k < n → f (suc k) ≡ cond (f k) (p k) false) → list_all p (range_with_len 0 n) ≡ f n
all_below f p zero z h = sym z
all_below f p (suc n) z h =
    let e : 0 + n ≡ n = omega arith in
    all_more p n 0 ∙ rw e (ap (λ (b : Bool). cond b (p n) false) (all_below f p n z (λ k i. h k (omega arith)))) ∙ sym (h n (omega arith))

stays : (f : ℕ → Bool) (b : Bool) → ((n : ℕ) → f n ≡ b → f (suc n) ≡ b) → (l n : ℕ) → l ≤ n → f l ≡ b → f n ≡ b
stays f b h l n le e =
    let there : l + (n - l) ≡ n = omega arith in
    subst (λ (m : ℕ). f m ≡ b) there (go (n - l))
  where
    go : (k : ℕ) → f (l + k) ≡ b
    go zero = rw add-zero e
    go (suc k) = rw add-suc (h (l + k) (go k))

all_next : (c : Session) (k : ℕ) → all_startable c k ≡ false → all_startable c (suc k) ≡ false
unfolding all_startable
all_next c k e = rw e

pub all_stays : (c : Session) (l n : ℕ) → l ≤ n → all_startable c l ≡ false → all_startable c n ≡ false
all_stays c = stays (all_startable c) false (all_next c)

fit_next : (x : DaqList) (n : ℕ) → each_fits x n ≡ false → each_fits x (suc n) ≡ false
unfolding each_fits
fit_next x n e = rw e

pub fit_stays : (x : DaqList) (j n : ℕ) → j ≤ n → each_fits x j ≡ false → each_fits x n ≡ false
fit_stays x = stays (each_fits x) false (fit_next x)

-- no, whatever is asked before
pub both_no : (b c : Bool) → c ≡ false → cond b false c ≡ false
both_no true c e = refl
both_no false c e = e
