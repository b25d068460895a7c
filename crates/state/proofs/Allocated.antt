-- Any bytes read as lists inside the pool: their ODTs and entries lie one behind the other. Assumes nothing, not even the length.
use Rattle.std.proofs.Common.{◌≡◌, ℕ, suc, ◌+◌, ◌<◌, ◌≤◌, ltb, List, get_or, ap, ◌∙◌, arith, ltb-false, ltb-true}
use Rattle.line.proofs.Laws.{cond_ind}
use Rattle.state.specs.Layout.{lists, all_odts, all_entries, round_at, phase_at, odts_at, counts_at, mode_at}
use Rattle.state.specs.Pool.{phase_of, list_count, round_of, odts_in, first_odt, odt_count, odt_total, entries_in, first_entry, entry_count, entry_total}
use Rattle.state.proofs.Ranges.{start_next, start_most, start_same, count_inside}

module _ (s : List ℕ) where
  pub phase_most : phase_of s ≤ lists + 1
  unfolding phase_of
  phase_most = cond_ind (λ (p : ℕ). p ≤ lists + 1) (ltb (lists + 1) (get_or s phase_at 0)) (λ _. omega arith) (λ e. ltb-false _ _ e)

  pub lists_most : list_count s ≤ lists
  lists_most = omega (arith, phase_most)

  -- the round begins with a list that there is
  pub round_there : 0 < list_count s → round_of s < list_count s
  unfolding round_of
  round_there h = cond_ind (λ (l : ℕ). l < list_count s) (ltb (get_or s round_at 0) (list_count s)) (λ e. ltb-true _ _ e) (λ _. h)

  pub round_most : round_of s < lists
  unfolding round_of
  round_most =
      cond_ind (λ (l : ℕ). l < lists) (ltb (get_or s round_at 0) (list_count s)) (λ e. omega (arith, lists_most, ltb-true (get_or s round_at 0) (list_count s) e)) (λ _. omega arith)

  -- ---- ODTs
  pub odt_next : (l : ℕ) → first_odt s (suc l) ≡ first_odt s l + odt_count s l
  odt_next l = start_next all_odts (odts_in s) l

  pub first_most_lem : (l : ℕ) → first_odt s l ≤ all_odts
  first_most_lem l = start_most all_odts (odts_in s) l

  pub odt_most_lem : (l : ℕ) → first_odt s l + odt_count s l ≤ all_odts
  odt_most_lem l = omega (arith, odt_next l, first_most_lem (suc l))

  pub odt_inside : (l : ℕ) → l < list_count s → first_odt s l + odt_count s l ≤ odt_total s
  odt_inside l h = count_inside all_odts (odts_in s) l (list_count s) h

  pub odt_before : (l m : ℕ) → l < m → first_odt s l + odt_count s l ≤ first_odt s m
  odt_before l m h = count_inside all_odts (odts_in s) l m h

  -- ---- entries
  pub entry_next : (k : ℕ) → first_entry s (suc k) ≡ first_entry s k + entry_count s k
  entry_next k = start_next all_entries (entries_in s) k

  pub entry_most_lem : (k : ℕ) → first_entry s k + entry_count s k ≤ all_entries
  entry_most_lem k = omega (arith, entry_next k, start_most all_entries (entries_in s) (suc k))

  pub entry_inside : (k : ℕ) → k < odt_total s → first_entry s k + entry_count s k ≤ entry_total s
  entry_inside k h = count_inside all_entries (entries_in s) k (odt_total s) h

  pub entry_before : (k m : ℕ) → k < m → first_entry s k + entry_count s k ≤ first_entry s m
  entry_before k m h = count_inside all_entries (entries_in s) k m h

-- ---- equal bytes, equal allocations
module _ (t s : List ℕ) where
  pub phase_same : get_or t phase_at 0 ≡ get_or s phase_at 0 → phase_of t ≡ phase_of s
  unfolding phase_of
  phase_same e = rw e

  pub lists_same : get_or t phase_at 0 ≡ get_or s phase_at 0 → list_count t ≡ list_count s
  lists_same e = rw (phase_same e)

  pub round_same : get_or t phase_at 0 ≡ get_or s phase_at 0 → get_or t round_at 0 ≡ get_or s round_at 0 → round_of t ≡ round_of s
  unfolding round_of
  round_same e r = rw (phase_same e, r)

  module _ (same : (j : ℕ) → odts_at ≤ j → j < counts_at → get_or t j 0 ≡ get_or s j 0) where
    pub first_odt_same : (l : ℕ) → l ≤ lists → first_odt t l ≡ first_odt s l
    first_odt_same l h = start_same all_odts (odts_in s) (odts_in t) l (λ i p. same (odts_at + i) (omega arith) (omega arith))

    pub odt_count_same : (l : ℕ) → l < lists → odt_count t l ≡ odt_count s l
    odt_count_same l h = omega (arith, first_odt_same l (omega arith), first_odt_same (suc l) h)

    pub odt_total_same : get_or t phase_at 0 ≡ get_or s phase_at 0 → odt_total t ≡ odt_total s
    odt_total_same e = ap (first_odt t) (lists_same e) ∙ first_odt_same (list_count s) (lists_most s)

  module _ (same : (j : ℕ) → counts_at ≤ j → j < mode_at 0 → get_or t j 0 ≡ get_or s j 0) where
    pub first_entry_same : (k : ℕ) → k ≤ all_odts → first_entry t k ≡ first_entry s k
    first_entry_same k h = start_same all_entries (entries_in s) (entries_in t) k (λ i p. same (counts_at + i) (omega arith) (omega arith))

    pub entry_count_same : (k : ℕ) → k < all_odts → entry_count t k ≡ entry_count s k
    entry_count_same k h = omega (arith, first_entry_same k (omega arith), first_entry_same (suc k) h)
