-- A list that a packet names: where there is such a list.
use Rattle.std.proofs.Common.{◌≡◌, ◌+◌, Option, None, Some, Bor, lt_irrefl, subst, ◌≢◌, ℕ, ◌<◌, ◌≤◌, Bool, true, false, cond, ltb, List, length, ◌++◌, take, drop, refl, ◌∙◌, arith, ltb-false, take_all}
use Rattle.std.specs.Option.{MatchOption}
use Rattle.std.proofs.lemmas.List.{drop_all, append-nil}
use Rattle.state.specs.Layout.{size}
use Rattle.state.specs.State.{consistent}
use Rattle.state.proofs.Consistent.{consistent_size}
use Rattle.state.specs.Pool.{list_count}
use Rattle.lists.specs.Lists.{is_state, is_list}

-- where there is no such list, what is so of none is so
pub nothing_named : (s : List ℕ) (l : ℕ) (b : Bool) → is_list s l ≡ false → (list_count s ≤ l → b ≡ false) → cond (is_state s) b false ≡ false
nothing_named s l b = by (is_state s) where
  by : (t : Bool) → cond t (ltb l (list_count s)) false ≡ false → (list_count s ≤ l → b ≡ false) → cond t b false ≡ false
  by true h none = none (ltb-false l (list_count s) h)
  by false h none = refl

-- bytes of another size are no consistent state
pub other_size : (s : List ℕ) → length s ≢ size → consistent s ≡ false
other_size s n = by (consistent s) refl where
  by : (b : Bool) → consistent s ≡ b → b ≡ false
  by true e = absurd (n (consistent_size s e))
  by false e = refl

pub too_short : (s : List ℕ) → length s < size → consistent s ≡ false
too_short s h = other_size s (λ e. omega (arith, h, e))

-- the front of a state is the state, and behind it is nothing
pub front_whole : (s y : List ℕ) → length s ≡ size → y ≡ take size s → y ≡ s
front_whole s y whole e = e ∙ take_all size s (omega (arith, whole))

pub rest_none : (s r ws : List ℕ) → length s ≡ size → r ≡ drop size s → ws ++ r ≡ ws
rest_none s r ws whole e = rw (e, drop_all size s (omega (arith, whole))) (append-nil ws)

pub whole_front : (s : List ℕ) (r : Option (Bor (List ℕ) × Bor (List ℕ))) → length s ≡ size
    → MatchOption r (length s < size) (λ p. (p.0.now ≡ take size s) × (p.1.now ≡ drop size s) × (length p.1.now + size ≡ length s))
    → MatchOption r (is_state s ≡ false) (λ p. (length s ≡ size) × (p.0.now ≡ s))
whole_front s None whole h = absurd (lt_irrefl size (subst (λ n. n < size) whole h))
whole_front s (Some p) whole h = (whole, front_whole s p.0.now whole h.0)
