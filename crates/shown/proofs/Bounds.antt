-- A run of ours from power-up in which every premise of demand 3 is met, and its bounds are just enough. That a smaller one fails is in `TooFew`. Assumes nothing.
use Rattle.std.proofs.Common.{◌≡◌, ℕ, Bool, true, List, [], ◌∷◌, map, get_or, refl, sym, ap, ◌∙◌}
use Rattle.state.specs.State.{consistent}
use Rattle.model.specs.View.{session_of}
use Rattle.views.specs.Events.{takes_sample}
use Rattle.demands.specs.Slave.{ours}
use Rattle.demands.specs.Runs.{frames, slots}
use Rattle.demands.specs.Heard.{stops_at}
use Rattle.demands.specs.Waiting.{sample_of, packet_read, packets_in}
use Rattle.demands.specs.Demand3.{Undisturbed}
use Rattle.shown.specs.Exchange.{reached, four_lists, sampled_again, eight, sixteen}
use Rattle.shown.proofs.Never.{never, never_so}
use Rattle.shown.proofs.Computed.{computed}

-- ---- the run
-- the first byte of the packet in a frame: FE is the answer to SYNCH, else it is an ODT's number
abbrev number_in : List ℕ → ℕ
number_in f = get_or (packet_read f) 0 0

-- a sample of each of four lists is captured again: what there is to know of it
record Known : Type 0 where
  sound : Bool
  sampling : Bool
  sample : List (List ℕ)
  calm : Bool
  order : List ℕ
  sent : List (List ℕ)

known : List ℕ → Known
known s =
    record {
      sound = consistent s;
      sampling = takes_sample (session_of s) 0 3;
      sample = sample_of s 3 1 [] (6 ∷ []);
      calm = never (stops_at 3) ours (sampled_again s) sixteen;
      order = map number_in (frames ours (sampled_again s) eight);
      sent = packets_in (session_of s) 3 (frames ours (sampled_again s) sixteen);
    }

-- the two packets of list 3
abbrev packets : List (List ℕ)
packets = (6 ∷ 1 ∷ 0 ∷ []) ∷ (7 ∷ 6 ∷ []) ∷ []

expected : Known
expected =
    record {
      sound = true;
      sampling = true;
      sample = packets;
      calm = true;
      order = 0xFE ∷ 0 ∷ 0xFE ∷ 2 ∷ 0xFE ∷ 4 ∷ 0xFE ∷ 6 ∷ [];
      sent = packets;
    }

computes : known (reached ours four_lists) ≡ expected
unfolding computed never known expected
computes = refl

-- ---- what it shows
-- eight slots are enough for a next packet, if the last frame was list 3's, all lists wait, and answers keep coming: list 3 is eighth
order_known : (s : List ℕ) → known s ≡ expected → map number_in (frames ours (sampled_again s) eight) ≡ 0xFE ∷ 0 ∷ 0xFE ∷ 2 ∷ 0xFE ∷ 4 ∷ 0xFE ∷ 6 ∷ []
unfolding known expected
order_known s k = ap (λ x. x.order) k

pub list_3_eighth : map number_in (frames ours (sampled_again (reached ours four_lists)) eight) ≡ 0xFE ∷ 0 ∷ 0xFE ∷ 2 ∷ 0xFE ∷ 4 ∷ 0xFE ∷ 6 ∷ []
list_3_eighth = order_known (reached ours four_lists) computes

-- sixteen are enough for a sample: all that is asked of such a run holds of this one, and it sends the whole sample
sixteen_known : (s : List ℕ) → known s ≡ expected
    → (consistent s ≡ true) × (takes_sample (session_of s) 0 3 ≡ true) × Undisturbed ours 3 (sampled_again s) sixteen × (slots sixteen ≡ 16)
    × (packets_in (session_of s) 3 (frames ours (sampled_again s) sixteen) ≡ sample_of s 3 1 [] (6 ∷ []))
unfolding known expected
sixteen_known s k = (
  ap (λ x. x.sound) k,
  ap (λ x. x.sampling) k,
  never_so (stops_at 3) ours (sampled_again s) sixteen (ap (λ x. x.calm) k),
  refl,
  ap (λ x. x.sent) k ∙ sym (ap (λ x. x.sample) k),
)

pub sixteen_are : (consistent (reached ours four_lists) ≡ true) × (takes_sample (session_of (reached ours four_lists)) 0 3 ≡ true)
    × Undisturbed ours 3 (sampled_again (reached ours four_lists)) sixteen × (slots sixteen ≡ 16)
    × (packets_in (session_of (reached ours four_lists)) 3 (frames ours (sampled_again (reached ours four_lists)) sixteen) ≡ sample_of (reached ours four_lists) 3 1 [] (6 ∷ []))
sixteen_are = sixteen_known (reached ours four_lists) computes
