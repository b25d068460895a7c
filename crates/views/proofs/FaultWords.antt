-- The words of the table of checks, which shares none with the model, mean what the model's do. Assumes nothing.
use Rattle.std.proofs.Common.{◌≡◌, ℕ, zero, suc, ◌+◌, ◌*◌, ◌/◌, ◌%◌, ◌^◌, ◌<◌, ◌≤◌, Bool, true, false, cond, not, ◌&&◌, ◌||◌, eqb, ltb, leb, sym, refl, ap, ◌∙◌, ap₂, mod-lt, div-add-mod', arith, lit<, ltb-false, ltb-true, lt-ltb, eq-eqb, ne_eqb, le-leb}
use Rattle.std.proofs.lemmas.Bool.{lt-leb}
use Rattle.std.proofs.Math.Pow.{low}
use Rattle.state.specs.Generator.{addend, rotated_left8, key_of, next_of}
use Rattle.state.specs.Layout.{odt_most}
use Rattle.state.specs.Memory.{inside_of}
use Rattle.words.specs.declared.Resource.{Resource}
use Rattle.words.specs.declared.Resource.TheVariants.{Calibration, Lists}
use Rattle.model.specs.Model.{Odt, DaqList, Session, odts_before, odts_taken, entries_of, entries_before, entries_taken, sizes_of, bytes_in, all_bytes, each_fits, fits, runs, runs_in, some_started}
use Rattle.model.specs.Judge.{all_startable}
use Rattle.model.proofs.Bounded.{either}
use Rattle.views.specs.Words.{any, total, outside, next_seed, key_number, rotated, key_for, bytes_of_odt, too_long, unfit, running, odts_in_all, entries_in_all}

-- ---- tests
pub at_most_lem : (a b : ℕ) → leb a b ≡ not (ltb b a)
at_most_lem a b =
    either (ltb b a)
    (λ t. lt-leb a b (ltb-true b a t) ∙ sym (ap not t))
    (λ t. le-leb a b (ltb-false b a t) ∙ sym (ap not t))

-- a number is 0 exactly if it is not above
pub is_none : (n : ℕ) → eqb n 0 ≡ not (ltb 0 n)
is_none n =
    either (ltb 0 n)
    (λ t. ne_eqb n 0 (λ e. omega (arith, ltb-true 0 n t, e)) ∙ sym (ap not t))
    (λ t. let low : n ≤ 0 = ltb-false 0 n t in eq-eqb n 0 (omega arith) ∙ sym (ap not t))

-- two tests: either, and neither
pub or_is : (a b : Bool) → cond a true b ≡ (a || b)
or_is true b = refl
or_is false b = refl

neither : (a b : Bool) → cond (not a) (not b) false ≡ not (a || b)
neither true b = refl
neither false b = refl

-- ---- of the first n
pub any_same : (n : ℕ) {f g : ℕ → Bool} → ((i : ℕ) → f i ≡ g i) → any n f ≡ any n g
any_same zero e = refl
any_same (suc n) e = ap₂ ◌||◌ (any_same n e) (e n)

pub total_same : (n : ℕ) {f g : ℕ → ℕ} → ((i : ℕ) → f i ≡ g i) → total n f ≡ total n g
total_same zero e = refl
total_same (suc n) e = ap₂ ◌+◌ (total_same n e) (e n)

or_sum : (a b : ℕ) → (ltb 0 a || ltb 0 b) ≡ ltb 0 (a + b)
or_sum a b =
    either (ltb 0 a)
    (λ t. ap (λ (x : Bool). x || ltb 0 b) t ∙ sym (lt-ltb 0 (a + b) (omega (arith, ltb-true 0 a t))))
    (λ t. let same : b ≡ a + b = omega (arith, ltb-false 0 a t) in ap (λ (x : Bool). x || ltb 0 b) t ∙ ap (ltb 0) same)

-- one is above 0 exactly if their sum is
any_some : (n : ℕ) (f : ℕ → ℕ) → any n (λ i. ltb 0 (f i)) ≡ ltb 0 (total n f)
any_some zero f = refl
any_some (suc n) f = ap (λ (x : Bool). x || ltb 0 (f n)) (any_some n f) ∙ or_sum (total n f) (f n)

-- ---- the pool
pub odts_sum : (f : ℕ → DaqList) (n : ℕ) → odts_before f n ≡ total n (λ l. (f l).odts)
unfolding odts_before
odts_sum f zero = refl
odts_sum f (suc n) = ap (λ (x : ℕ). x + (f n).odts) (odts_sum f n)

pub entries_sum : (x : DaqList) (n : ℕ) → entries_of x n ≡ total n (λ o. (x.odt o).entries)
unfolding entries_of
entries_sum x zero = refl
entries_sum x (suc n) = ap (λ (y : ℕ). y + (x.odt n).entries) (entries_sum x n)

pub odts_total : (c : Session) → odts_taken c ≡ odts_in_all c
odts_total c = odts_sum c.list c.lists

pub entries_total : (c : Session) → entries_taken c ≡ entries_in_all c
unfolding entries_before
entries_total c = go c.lists where
  go : (n : ℕ) → entries_before c.list n ≡ total n (λ l. total (c.list l).odts (λ o. ((c.list l).odt o).entries))
  go zero = refl
  go (suc n) = ap₂ ◌+◌ (go n) (entries_sum (c.list n) (c.list n).odts)

-- ---- what can be started
bytes_total : (y : Odt) → bytes_in y ≡ bytes_of_odt y
unfolding sizes_of
bytes_total y = go y.entries where
  go : (n : ℕ) → sizes_of y n ≡ total n (λ e. (y.entry e).size)
  go zero = refl
  go (suc n) = ap (λ (x : ℕ). x + (y.entry n).size) (go n)

module _ (x : DaqList) where
  some_bytes : eqb (all_bytes x x.odts) 0 ≡ not (any x.odts (λ o. any (x.odt o).entries (λ e. ltb 0 ((x.odt o).entry e).size)))
  unfolding all_bytes
  some_bytes = is_none (all_bytes x x.odts) ∙ ap not (ap (ltb 0) (sums x.odts) ∙ sym (any_some x.odts (λ o. bytes_of_odt (x.odt o))) ∙ sym (any_same x.odts (λ o. any_some (x.odt o).entries (λ e. ((x.odt o).entry e).size))))
    where
      sums : (n : ℕ) → all_bytes x n ≡ total n (λ o. bytes_of_odt (x.odt o))
      sums zero = refl
      sums (suc n) = ap₂ ◌+◌ (sums n) (bytes_total (x.odt n))

  one_fits : (o : ℕ) → leb (bytes_in (x.odt o)) (odt_most o) ≡ not (too_long x o)
  one_fits zero = at_most_lem (bytes_in (x.odt 0)) 61 ∙ ap (λ (n : ℕ). not (ltb 61 n)) (bytes_total (x.odt 0))
  one_fits (suc o) = ap (leb (bytes_in (x.odt (suc o)))) (later o) ∙ at_most_lem (bytes_in (x.odt (suc o))) 63 ∙ ap (λ (n : ℕ). not (ltb 63 n)) (bytes_total (x.odt (suc o)))
    where
      later : (o : ℕ) → odt_most (suc o) ≡ 63
      later o = ap (λ (t : Bool). cond t 61 63) (ne_eqb (suc o) 0 (λ e. omega (arith, e)))

  each_fits_lem : (n : ℕ) → each_fits x n ≡ not (any n (too_long x))
  unfolding each_fits
  each_fits_lem zero = refl
  each_fits_lem (suc n) = ap₂ (λ (a b : Bool). cond a b false) (each_fits_lem n) (one_fits n) ∙ neither (any n (too_long x)) (too_long x n)

  pub fit_is : fits x ≡ not (unfit x)
  unfolding fits
  fit_is =
      ap₂ (λ (a b : Bool). cond (eqb x.mode 0) false (cond a false b)) some_bytes (each_fits_lem x.odts)
      ∙ none_of (eqb x.mode 0) (not (any x.odts (λ o. any (x.odt o).entries (λ e. ltb 0 ((x.odt o).entry e).size)))) (any x.odts (too_long x))
    where
      none_of : (a b d : Bool) → cond a false (cond b false (not d)) ≡ not (a || (b || d))
      none_of true b d = refl
      none_of false true d = refl
      none_of false false d = refl

-- ---- what runs
pub running_is : (c : Session) (l : ℕ) → runs_in c l ≡ running c l
unfolding runs
running_is c l = both c.opened (c.list l).started (ltb 0 (c.list l).odts) where
  both : (a b d : Bool) → cond a (cond b d false) false ≡ (a && (b && d))
  both true true d = refl
  both true false d = refl
  both false b d = refl

pub started_is : (c : Session) (n : ℕ) → some_started c n ≡ any n (λ l. (c.list l).started)
unfolding some_started
started_is c zero = refl
started_is c (suc n) = ap (λ (a : Bool). cond a true (c.list n).started) (started_is c n) ∙ or_is (any n (λ l. (c.list l).started)) (c.list n).started

pub ready_is : (c : Session) (n : ℕ) → all_startable c n ≡ not (any n (λ l. (c.list l).selected && (not (running c l) && unfit (c.list l))))
unfolding all_startable
ready_is c zero = refl
ready_is c (suc n) =
    ap₂ (λ (a b : Bool). cond a b false) (ready_is c n) (one n)
    ∙ neither (any n (λ l. (c.list l).selected && (not (running c l) && unfit (c.list l)))) ((c.list n).selected && (not (running c n) && unfit (c.list n)))
  where
    one : (l : ℕ) → cond (c.list l).selected (cond (runs_in c l) true (fits (c.list l))) true ≡ not ((c.list l).selected && (not (running c l) && unfit (c.list l)))
    one l = ap₂ (λ (a b : Bool). cond (c.list l).selected (cond a true b) true) (running_is c l) (fit_is (c.list l)) ∙ go (c.list l).selected (running c l) (unfit (c.list l))
      where
        go : (a r u : Bool) → cond a (cond r true (not u)) true ≡ not (a && (not r && u))
        go true true u = refl
        go true false u = refl
        go false r u = refl

-- ---- blocks
pub outside_is : (a n lent : ℕ) → outside a n lent ≡ not (inside_of a n lent)
unfolding inside_of
outside_is a n lent =
    either (ltb lent (a + n))
    (λ t. ap (λ (x : Bool). x || ltb 4096 (a + n)) t ∙ sym (ap not (lt-leb (a + n) _ (omega (arith, ltb-true lent (a + n) t)))))
    (λ t. ap (λ (x : Bool). x || ltb 4096 (a + n)) t ∙ either (ltb 4096 (a + n))
    (λ u. u ∙ sym (ap not (lt-leb (a + n) _ (omega (arith, ltb-true 4096 (a + n) u)))))
    (λ u. u ∙ sym (ap not (le-leb (a + n) _ (omega (arith, ltb-false lent (a + n) t, ltb-false 4096 (a + n) u))))))

-- ---- keys: rotated left 8, of the four bytes the highest becomes the lowest
turned : (x : ℕ) → x < 2 ^ 32 → rotated_left8 x ≡ rotated x
turned x h =
    let d : ℕ = x / 16777216 in
    let r : ℕ = x % 16777216 in
    let up : x * 2 ^ 8 ≡ d * 2 ^ 32 + 256 * r = omega (arith, div-add-mod' x 16777216) in
    let fits : 256 * r < 2 ^ 32 = omega (arith, mod-lt x {m = 16777216} (lit< tt)) in
    let rest : (x * 2 ^ 8) % 2 ^ 32 ≡ 256 * r = ap (λ (n : ℕ). n % 2 ^ 32) up ∙ low d 32 fits in
    omega (arith, rest)

number_is : (r : Resource) → addend r ≡ key_number r
number_is Calibration = refl
number_is Lists = refl

pub next_is : (x : ℕ) → next_of x ≡ next_seed x
unfolding next_of
next_is x = refl

pub key_is : (r : Resource) (seed : ℕ) → key_of r seed ≡ key_for r seed
unfolding key_of
key_is r seed = turned ((seed + addend r) % 2 ^ 32) (mod-lt _ (lit< tt)) ∙ ap (λ (n : ℕ). rotated ((seed + n) % 4294967296)) (number_is r)
