-- An event takes the lists one after the other, and each one's step changes its own store alone. Assumes nothing.
use Rattle.std.proofs.Common.{◌≡◌, ◌≢◌, ℕ, zero, suc, ◌+◌, ◌-◌, ◌≤◌, ◌<◌, List, ◌∷◌, length, refl, sym, ap₂, ◌∙◌, subst, arith, lit≤}
use Rattle.state.specs.Layout.{size, all_odts, sample_at, phase_at, mode_at}
use Rattle.state.specs.Pool.{list_count, odts_in, first_odt, odt_count, odt_total}
use Rattle.state.proofs.Ranges.{start_zero, start_mono}
use Rattle.state.proofs.Allocated.{lists_most, odt_next, odt_most_lem}
use Rattle.lists.specs.Event.{sampling_of, contents_of, stored, captured_odts, captured, sampled_state, tally}
use Rattle.model.specs.declared.Sampling.{Sampling}
use Rattle.model.specs.declared.Sampling.TheVariants.{Idle, Sampled, Missed}
use Rattle.lists.proofs.Entries.{contents_alike}
use Rattle.fields.proofs.Frames.{Only, only_none, only_then, only_wider}
use Rattle.fields.proofs.Readers.{Same, before, behind, same_then, same_part, list_count_reads, first_odt_reads, odt_count_reads}
use Rattle.fields.proofs.Captures.{only_tally}
use Rattle.views.proofs.Calls.{captured_only}
use Rattle.views.proofs.Happening.{event_turn}
use Rattle.demands.proofs.Unchanged.{same_sets}

-- the bytes of list l's own store, which s has
abbrev pub SameStore : List ℕ → ℕ → List ℕ → List ℕ → Type 0
SameStore s l t u = Same (sample_at (first_odt s l)) (sample_at (first_odt s l + odt_count s l)) t u

-- ---- one list
sampled_only : (s : List ℕ) (l event clock : ℕ) (cal meas : List ℕ) → length s ≡ size → l < list_count s
    → Only (sample_at (first_odt s l)) (sample_at (first_odt s l + odt_count s l)) s (sampled_state (sampling_of s l event) s l clock cal meas)
unfolding sampled_state
sampled_only s l event clock cal meas long h = go (sampling_of s l event) refl where
  go : (c : Sampling) → sampling_of s l event ≡ c → Only (sample_at (first_odt s l)) (sample_at (first_odt s l + odt_count s l)) s (sampled_state c s l clock cal meas)
  go Idle e = only_none
  go Sampled e = captured_only s l clock cal meas long h
  go Missed e = only_none

unsampled : (c : Sampling) (s : List ℕ) (l clock : ℕ) (cal meas : List ℕ) → c ≢ Sampled → sampled_state c s l clock cal meas ≡ s
unfolding sampled_state
unsampled Idle s l clock cal meas n = refl
unsampled Sampled s l clock cal meas n = absurd (n refl)
unsampled Missed s l clock cal meas n = refl

-- the same packet stored in states that have the same bytes
stored_same : {a b : ℕ} {s t : List ℕ} (k : ℕ) (bs : List ℕ) → Same a b s t → Same a b (stored s k bs) (stored t k bs)
unfolding stored
stored_same k bs w = same_sets (sample_at k) (length bs ∷ bs) w

-- the same contents give the same stores
captures_alike : (t s : List ℕ) (clock : ℕ) (cal meas : List ℕ) (k n : ℕ) {a b : ℕ} → ((j : ℕ) → j < n → contents_of t k j clock cal meas ≡ contents_of s k j clock cal meas)
    → Same a b s t → Same a b (captured_odts s k clock cal meas n) (captured_odts t k clock cal meas n)
unfolding captured_odts
captures_alike t s clock cal meas k zero each w = w
captures_alike t s clock cal meas k (suc n) each w =
    rw (each n (omega arith)) (stored_same (k + n) (contents_of s k n clock cal meas) (captures_alike t s clock cal meas k n (λ j h. each j (omega arith)) w))

-- ---- all of them
module _ (s : List ℕ) (event clock : ℕ) (cal meas : List ℕ) (long : length s ≡ size) where
  abbrev L : ℕ
  L = list_count s

  -- the state when the first n lists have had their turn
  abbrev up_to : ℕ → List ℕ
  up_to n = (tally s event clock cal meas n).state

  up_to_long : (n : ℕ) → n ≤ L → length (up_to n) ≡ size
  up_to_long n h = (only_tally s event clock cal meas n h).long ∙ long

  -- it has the same lists and ODTs
  front_before : (n : ℕ) → n ≤ L → Same 0 (sample_at 0) s (up_to n)
  front_before n h = before (lit≤ tt) (only_tally s event clock cal meas n h)

  stays : (n : ℕ) → n ≤ L → Same phase_at (mode_at 0) s (up_to n)
  stays n h = same_part (lit≤ tt) (lit≤ tt) (front_before n h)

  first_stays : (n : ℕ) → n < L → first_odt (up_to n) n ≡ first_odt s n
  first_stays n h = first_odt_reads (stays n (omega arith)) n (omega (arith, lists_most s))

  count_stays : (n : ℕ) → n < L → odt_count (up_to n) n ≡ odt_count s n
  count_stays n h = odt_count_reads (stays n (omega arith)) n (omega (arith, lists_most s))

  -- list n's turn changes its own store
  turn_only : (n : ℕ) → n < L → Only (sample_at (first_odt s n)) (sample_at (first_odt s (suc n))) (up_to n) (up_to (suc n))
  unfolding tally
  turn_only n h =
      only_wider (omega (arith, first_stays n h)) (omega (arith, first_stays n h, count_stays n h, odt_next s n))
      (sampled_only (up_to n) n event clock cal meas (up_to_long n (omega arith)) (rw (list_count_reads (stays n (omega arith))) h))

  -- and the lists from m up to n theirs
  pub up_to_only : (m d n : ℕ) → m + d ≡ n → n ≤ L → Only (sample_at (first_odt s m)) (sample_at (first_odt s n)) (up_to m) (up_to n)
  up_to_only m zero n e h =
      let same : m ≡ n = omega arith in
      subst (λ (k : ℕ). Only (sample_at (first_odt s m)) (sample_at (first_odt s k)) (up_to m) (up_to k)) same only_none
  up_to_only m (suc d) zero e h = absurd (omega arith)
  up_to_only m (suc d) (suc n) e h =
      only_then (only_wider (omega arith) (omega (arith, odt_next s n)) (up_to_only m d n (omega arith) (omega arith)))
      (only_wider (omega (arith, start_mono all_odts (odts_in s) m n (omega arith))) (omega arith) (turn_only n h))

  pub all_only : Only (sample_at 0) (sample_at (odt_total s)) s (up_to L)
  unfolding tally
  all_only = only_wider (omega (arith, start_zero all_odts (odts_in s))) (omega arith) (up_to_only 0 L L (omega arith) (omega arith))

  -- before its turn a list finds its store as it was
  store_before : (l : ℕ) → l < L → SameStore s l s (up_to l)
  unfolding tally
  store_before l h = behind (omega arith) (up_to_only 0 l l (omega arith) (omega arith))

  turn : (l : ℕ) → l < L → sampling_of (up_to l) l event ≡ sampling_of s l event
  turn l h = event_turn s event clock cal meas long l (omega arith)

  -- and after it that stays
  store_later : (l : ℕ) → l < L → SameStore s l (up_to (suc l)) (up_to L)
  store_later l h = before (omega (arith, odt_next s l)) (up_to_only (suc l) (L - suc l) L (omega arith) (omega arith))

  -- a list that is not sampled keeps its store
  pub unsampled_store : (l : ℕ) → l < L → sampling_of s l event ≢ Sampled → SameStore s l s (up_to L)
  unfolding tally
  unsampled_store l h n =
      let own : up_to (suc l) ≡ up_to l = rw (turn l h) (unsampled (sampling_of s l event) (up_to l) l clock cal meas n) in
      same_then (subst (λ (t : List ℕ). SameStore s l s t) (sym own) (store_before l h)) (store_later l h)

  contents_before : (l j : ℕ) → l < L → j < odt_count s l → contents_of (up_to l) (first_odt s l) j clock cal meas ≡ contents_of s (first_odt s l) j clock cal meas
  contents_before l j h q =
      contents_alike (up_to l) s (λ i r. (front_before l (omega arith)).byte i (omega arith) r) (first_odt s l) j clock cal meas (omega (arith, odt_most_lem s l))

  -- captured when its turn came or at once, it has the same store
  captured_before : (l : ℕ) → l < L → SameStore s l s (up_to l) → SameStore s l (captured s l clock cal meas) (captured (up_to l) l clock cal meas)
  captured_before l h o =
      subst (SameStore s l (captured s l clock cal meas)) (sym (ap₂ (λ (k n : ℕ). captured_odts (up_to l) k clock cal meas n) (first_stays l h) (count_stays l h)))
      (captures_alike (up_to l) s clock cal meas (first_odt s l) (odt_count s l) (λ j q. contents_before l j h q) o)

  pub sampled_store : (l : ℕ) → l < L → sampling_of s l event ≡ Sampled → SameStore s l (captured s l clock cal meas) (up_to L)
  unfolding tally sampled_state
  sampled_store l h e =
      let own : up_to (suc l) ≡ captured (up_to l) l clock cal meas = rw (turn l h, e) refl in
      same_then (subst (λ (t : List ℕ). SameStore s l (captured s l clock cal meas) t) (sym own) (captured_before l h (store_before l h))) (store_later l h)
