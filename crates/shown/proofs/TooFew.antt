-- The bounds of demand 3 on a list's packets are tight, with as many lists as the pool allows: one slot less is too few. Assumes nothing.
-- Each of L lists has a sample of two packets, the last list's come last in the round, and an answer goes before each packet.
use Rattle.std.proofs.Common.{◌≡◌, ℕ, zero, suc, ◌+◌, ◌-◌, ◌*◌, ◌≤◌, ◌<◌, Bool, true, List, [], ◌∷◌, length, refl, sym, ap, subst₂, arith, lit≤, length-append}
use Rattle.state.specs.State.{consistent}
use Rattle.model.specs.View.{session_of}
use Rattle.views.specs.Events.{takes_sample}
use Rattle.demands.specs.Slave.{ours}
use Rattle.demands.specs.Runs.{frames, slots}
use Rattle.demands.specs.Heard.{stops_at}
use Rattle.demands.specs.Waiting.{waiting_of, sample_of, packets_in}
use Rattle.demands.specs.Demand3.{Begins, WholeBy, NextBy, SampledBy}
use Rattle.shown.specs.Exchange.{almost, sampled_again}
use Rattle.shown.specs.Laden.{laden}
use Rattle.shown.proofs.Never.{never, never_so}
use Rattle.shown.proofs.Computed.{computed}

-- ---- the run
-- what there is to know of the last of L lists: before the event, after it, and of its packets in few slots and in many
record Known : Type 0 where
  sound : Bool
  present : ℕ
  sampling : Bool
  sample : List (List ℕ)
  sound_after : Bool
  present_after : ℕ
  waiting : List (List ℕ)
  few_and_one : ℕ
  few_calm : Bool
  few_sent : List (List ℕ)
  many_and_one : ℕ
  many_calm : Bool
  many_sent : List (List ℕ)
  many_sent_after : List (List ℕ)

known : ℕ → List ℕ → Known
known L s =
    record {
      sound = consistent s;
      present = (session_of s).lists;
      sampling = takes_sample (session_of s) 0 (L - 1);
      sample = sample_of s (L - 1) 1 [] (6 ∷ []);
      sound_after = consistent (sampled_again s);
      present_after = (session_of (sampled_again s)).lists;
      waiting = waiting_of (sampled_again s) (L - 1);
      few_and_one = suc (slots (almost L));
      few_calm = never (stops_at (L - 1)) ours (sampled_again s) (almost L);
      few_sent = packets_in (session_of (sampled_again s)) (L - 1) (frames ours (sampled_again s) (almost L));
      many_and_one = suc (slots (almost (2 * L)));
      many_calm = never (stops_at (L - 1)) ours (sampled_again s) (almost (2 * L));
      many_sent = packets_in (session_of s) (L - 1) (frames ours (sampled_again s) (almost (2 * L)));
      many_sent_after = packets_in (session_of (sampled_again s)) (L - 1) (frames ours (sampled_again s) (almost (2 * L)));
    }

-- of its two packets 2 L slots but one send none, and 4 L but one the first
abbrev first : ℕ → List ℕ
first L = 2 * (L - 1) ∷ 1 ∷ 0 ∷ []

abbrev second : ℕ → List ℕ
second L = (2 * (L - 1) + 1) ∷ 6 ∷ []

expected : ℕ → Known
expected L =
    record {
      sound = true;
      present = L;
      sampling = true;
      sample = first L ∷ second L ∷ [];
      sound_after = true;
      present_after = L;
      waiting = first L ∷ second L ∷ [];
      few_and_one = 2 * L;
      few_calm = true;
      few_sent = [];
      many_and_one = 2 * (L * 2);
      many_calm = true;
      many_sent = first L ∷ [];
      many_sent_after = first L ∷ [];
    }

-- so it is with L lists
Computes : ℕ → Type 0
Computes L = known L (laden L) ≡ expected L

with_one : Computes 1
unfolding computed never laden known expected Computes
with_one = refl

with_two : Computes 2
unfolding computed never laden known expected Computes
with_two = refl

with_three : Computes 3
unfolding computed never laden known expected Computes
with_three = refl

with_four : Computes 4
unfolding computed never laden known expected Computes
with_four = refl

with_five : Computes 5
unfolding computed never laden known expected Computes
with_five = refl

with_six : Computes 6
unfolding computed never laden known expected Computes
with_six = refl

with_seven : Computes 7
unfolding computed never laden known expected Computes
with_seven = refl

with_eight : Computes 8
unfolding computed never laden known expected Computes
with_eight = refl

computes : (L : ℕ) → 1 ≤ L → L ≤ 8 → Computes L
computes zero h m = absurd (omega arith)
computes (suc zero) h m = with_one
computes (suc (suc zero)) h m = with_two
computes (suc (suc (suc zero))) h m = with_three
computes (suc (suc (suc (suc zero)))) h m = with_four
computes (suc (suc (suc (suc (suc zero))))) h m = with_five
computes (suc (suc (suc (suc (suc (suc zero)))))) h m = with_six
computes (suc (suc (suc (suc (suc (suc (suc zero))))))) h m = with_seven
computes (suc (suc (suc (suc (suc (suc (suc (suc zero)))))))) h m = with_eight
computes (suc (suc (suc (suc (suc (suc (suc (suc (suc n))))))))) h m = absurd (omega arith)

-- ---- the bounds
-- in n slots, one less than m, one packet of ps is not sent: so no bound below m on so many is met
short : (bound : ℕ → ℕ → ℕ) (L q c m n : ℕ) (ps qs : List (List ℕ)) → c ≡ L → length ps ≡ suc q → length qs ≡ q → suc n ≡ m → bound L (suc q) < m
    → (bound c (length ps) ≤ n → Begins ps qs) → ⊥
short bound L q c m n ps qs e f g i h d =
    let b : Begins ps qs = d (subst₂ (λ c k. bound c k ≤ n) (sym e) (sym f) (omega arith)) in
    omega (arith, ap length b.1, length-append ps b.0)

not_next : (L : ℕ) (s : List ℕ) → known L s ≡ expected L → (bound : ℕ → ℕ) → bound L < 2 * L → NextBy bound ours → ⊥
unfolding known expected
not_next L s k bound h d =
    short (λ c p. bound c) L 0 (session_of (sampled_again s)).lists (2 * L) (slots (almost L)) (first L ∷ []) (packets_in (session_of (sampled_again s)) (L - 1) (frames ours (sampled_again s) (almost L)))
    (ap (λ x. x.present_after) k) refl (ap (λ x. length x.few_sent) k) (ap (λ x. x.few_and_one) k) h
    (d (sampled_again s) (L - 1) (almost L) (first L) (second L ∷ []) (ap (λ x. x.sound_after) k) (never_so (stops_at (L - 1)) ours (sampled_again s) (almost L) (ap (λ x. x.few_calm) k)) (ap (λ x. x.waiting) k))

not_whole : (L : ℕ) (s : List ℕ) → known L s ≡ expected L → (bound : ℕ → ℕ → ℕ) → bound L 2 < 2 * (L * 2) → WholeBy bound ours → ⊥
unfolding known expected
not_whole L s k bound h d =
    short bound L 1 (session_of (sampled_again s)).lists (2 * (L * 2)) (slots (almost (2 * L))) (waiting_of (sampled_again s) (L - 1)) (packets_in (session_of (sampled_again s)) (L - 1) (frames ours (sampled_again s) (almost (2 * L))))
    (ap (λ x. x.present_after) k) (ap (λ x. length x.waiting) k) (ap (λ x. length x.many_sent_after) k) (ap (λ x. x.many_and_one) k) h
    (d (sampled_again s) (L - 1) (almost (2 * L)) (ap (λ x. x.sound_after) k) (never_so (stops_at (L - 1)) ours (sampled_again s) (almost (2 * L)) (ap (λ x. x.many_calm) k)))

not_sampled : (L : ℕ) (s : List ℕ) → known L s ≡ expected L → (bound : ℕ → ℕ → ℕ) → bound L 2 < 2 * (L * 2) → SampledBy bound ours → ⊥
unfolding known expected
not_sampled L s k bound h d =
    short bound L 1 (session_of s).lists (2 * (L * 2)) (slots (almost (2 * L))) (sample_of s (L - 1) 1 [] (6 ∷ [])) (packets_in (session_of s) (L - 1) (frames ours (sampled_again s) (almost (2 * L))))
    (ap (λ x. x.present) k) (ap (λ x. length x.sample) k) (ap (λ x. length x.many_sent) k) (ap (λ x. x.many_and_one) k) h
    (d s [] (6 ∷ []) 0 1 (L - 1) (almost (2 * L)) (ap (λ x. x.sound) k) (lit≤ tt) (ap (λ x. x.sampling) k) (never_so (stops_at (L - 1)) ours (sampled_again s) (almost (2 * L)) (ap (λ x. x.many_calm) k)))

-- with L lists, up to eight, no bound below 2 L is met for a list's next packet; and where p is 2 none below 2 L p for p packets that wait, nor for a sample
-- of p. With no list none is below
pub too_few_for_the_next : (L : ℕ) → L ≤ 8 → (bound : ℕ → ℕ) → bound L < 2 * L → NextBy bound ours → ⊥
unfolding Computes
too_few_for_the_next L m bound h = not_next L (laden L) (computes L (omega arith) m) bound h

pub too_few_for_two : (L : ℕ) → L ≤ 8 → (bound : ℕ → ℕ → ℕ) → bound L 2 < 2 * (L * 2) → WholeBy bound ours → ⊥
unfolding Computes
too_few_for_two L m bound h = not_whole L (laden L) (computes L (omega arith) m) bound h

pub too_few_for_a_sample : (L : ℕ) → L ≤ 8 → (bound : ℕ → ℕ → ℕ) → bound L 2 < 2 * (L * 2) → SampledBy bound ours → ⊥
unfolding Computes
too_few_for_a_sample L m bound h = not_sampled L (laden L) (computes L (omega arith) m) bound h
