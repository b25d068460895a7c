-- An event changes the packets in store alone. Assumes nothing.
use Rattle.std.proofs.Common.{ℕ, zero, suc, ◌+◌, ◌<◌, ◌≤◌, leb, List, ◌∷◌, length, arith}
use Rattle.line.proofs.Laws.{cond_ind}
use Rattle.state.specs.Layout.{size, sample_at, all_odts, events, stored_most}
use Rattle.state.specs.Pool.{list_count, first_odt, odt_count}
use Rattle.state.specs.State.{consistent}
use Rattle.state.proofs.Allocated.{odt_most_lem}
use Rattle.lists.specs.Event.{sampling_of, contents_of, stored, captured_odts, captured, sampled_state, tally, Happened, event_of}
use Rattle.model.specs.declared.Sampling.{Sampling}
use Rattle.model.specs.declared.Sampling.TheVariants.{Idle, Sampled, Missed}
use Rattle.lists.proofs.Gathered.{contents_most}
use Rattle.fields.proofs.Frames.{Only, only_none, only_then, only_sets}

only_stored : (s : List ℕ) (k : ℕ) (bs : List ℕ) → k < all_odts → length bs ≤ stored_most → Only (sample_at 0) size s (stored s k bs)
unfolding stored
only_stored s k bs h q = only_sets s (sample_at k) (length bs ∷ bs) (omega arith) (omega arith)

-- of a list that is sampled
module _ (s : List ℕ) (l clock : ℕ) (cal meas : List ℕ) where
  only_odts : (n : ℕ) → n ≤ odt_count s l → Only (sample_at 0) size s (captured_odts s (first_odt s l) clock cal meas n)
  unfolding captured_odts
  only_odts zero q = only_none
  only_odts (suc n) q =
      let k : ℕ = first_odt s l in
      only_then (only_odts n (omega arith))
      (only_stored (captured_odts s k clock cal meas n) (k + n) (contents_of s k n clock cal meas) (omega (arith, odt_most_lem s l)) (contents_most s k n clock cal meas))

  only_captured : Only (sample_at 0) size s (captured s l clock cal meas)
  only_captured = only_odts (odt_count s l) (omega arith)

only_sampled : (c : Sampling) (s : List ℕ) (l clock : ℕ) (cal meas : List ℕ) → Only (sample_at 0) size s (sampled_state c s l clock cal meas)
unfolding sampled_state
only_sampled Idle s l clock cal meas = only_none
only_sampled Sampled s l clock cal meas = only_captured s l clock cal meas
only_sampled Missed s l clock cal meas = only_none

pub only_tally : (s : List ℕ) (event clock : ℕ) (cal meas : List ℕ) (n : ℕ) → n ≤ list_count s → Only (sample_at 0) size s (tally s event clock cal meas n).state
unfolding tally
only_tally s event clock cal meas zero h = only_none
only_tally s event clock cal meas (suc n) h =
    let t : List ℕ = (tally s event clock cal meas n).state in
    only_then (only_tally s event clock cal meas n (omega arith)) (only_sampled (sampling_of t n event) t n clock cal meas)

pub only_event : (s cal meas : List ℕ) (event clock : ℕ) → Only (sample_at 0) size s (event_of s cal meas event clock).state
unfolding event_of
only_event s cal meas event clock =
    let P : Happened → Type 0 = λ (o : Happened). Only (sample_at 0) size s o.state in
    cond_ind P (consistent s) (λ _. cond_ind P (leb events event) (λ _. only_none) (λ _. only_tally s event clock cal meas (list_count s) (omega arith))) (λ _. only_none)
