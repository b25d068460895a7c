-- One list more at an event. Assumes nothing.
use Rattle.std.proofs.Common.{◌≡◌, ℕ, zero, suc, ◌+◌, List, refl, ◌∙◌}
use Rattle.state.specs.Pool.{first_odt, odt_count}
use Rattle.model.specs.declared.Sampling.{Sampling}
use Rattle.model.specs.declared.Sampling.TheVariants.{Idle, Sampled, Missed}
use Rattle.lists.proofs.Entries.{Alike}
use Rattle.lists.proofs.Gathered.{captured_alike}
use Rattle.lists.specs.Event.{sampling_of, sampled_state, sampled_by, missed_by, tally, Counts}

pub counts_next : (s₀ : List ℕ) (event clock : ℕ) (cal meas : List ℕ) (l : ℕ) {s t : List ℕ} {n m : ℕ} {c : Sampling}
    → Counts (tally s₀ event clock cal meas l) s n m → c ≡ sampling_of s l event → t ≡ sampled_state c s l clock cal meas
    → Counts (tally s₀ event clock cal meas (suc l)) t (n + sampled_by c) (m + missed_by c)
unfolding tally
counts_next s₀ event clock cal meas l r e f = record {
  state = f ∙ rw (e, r.state);
  sampled = rw (r.sampled, e, r.state);
  missed = rw (r.missed, e, r.state);
}

-- an event changes packets alone
sampled_alike : (c : Sampling) (s : List ℕ) (l clock : ℕ) (cal meas : List ℕ) → Alike (sampled_state c s l clock cal meas) s
unfolding sampled_state
sampled_alike Idle s l clock cal meas j b = refl
sampled_alike Sampled s l clock cal meas j b = captured_alike s (first_odt s l) clock cal meas (odt_count s l) j b
sampled_alike Missed s l clock cal meas j b = refl

pub tally_alike : (s : List ℕ) (event clock : ℕ) (cal meas : List ℕ) (n : ℕ) → Alike (tally s event clock cal meas n).state s
unfolding tally
tally_alike s event clock cal meas zero j b = refl
tally_alike s event clock cal meas (suc n) j b =
    let t : List ℕ = (tally s event clock cal meas n).state in
    sampled_alike (sampling_of t n event) t n clock cal meas j b ∙ tally_alike s event clock cal meas n j b
