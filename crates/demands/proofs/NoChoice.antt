-- The first and the second demand leave a slave no choice: two slaves that meet them are the same in every call. Assumes nothing.
use Rattle.std.proofs.Common.{◌≡◌, ◌≢◌, ℕ, zero, suc, ◌+◌, ◌*◌, ◌≤◌, ◌<◌, Bool, true, false, List, [], ◌++◌, length, take, drop, Some, None, Ok, Err, refl, sym, ap, ◌∙◌, arith, take-append-drop, drop-drop, inl, inr}
use Rattle.std.proofs.Math.Decide.{ℕ_discrete}
use Rattle.std.proofs.lemmas.Bool.{cases_lt}
use Rattle.line.specs.Message.{room}
use Rattle.state.specs.Layout.{size, all_odts, sample_size, sample_at}
use Rattle.state.specs.Pool.{list_count, odts_in, first_odt, odt_count, odt_total}
use Rattle.state.proofs.Ranges.{start_zero}
use Rattle.state.proofs.Allocated.{odt_next}
use Rattle.state.specs.Bytes.{block}
use Rattle.state.specs.State.{consistent}
use Rattle.session.specs.Receive.{Step}
use Rattle.lists.specs.Event.{Happened, sampling_of}
use Rattle.lists.specs.Slot.{Slot}
use Rattle.session.specs.PowerUp.{Power}
use Rattle.words.specs.Number.{evented_number, slotted_number}
use Rattle.model.specs.declared.Sampling.{Sampling}
use Rattle.model.specs.declared.Sampling.TheVariants.{Idle, Sampled, Missed}
use Rattle.words.specs.Values.{Evented, Slotted}
use Rattle.words.specs.declared.EventRefusal.TheVariants as event
use Rattle.words.specs.declared.SlotRefusal.TheVariants as slot
use Rattle.demands.specs.Slave.{AnySlave, ours}
use Rattle.demands.specs.Waiting.{SameOutside}
use Rattle.demands.specs.Tight.{Tight}
use Rattle.demands.specs.Demand1.{Demand1}
use Rattle.demands.specs.Demand2.{Demand2}
use Rattle.demands.specs.AsDefined.{stores_of}
use Rattle.demands.proofs.Numbers.{received_told, powered_up_told}
use Rattle.demands.proofs.Demand1.{demand1}
use Rattle.demands.proofs.Demand2.{demand2}

-- ---- a refusal is known by its number
bad_event_lem : (e : Evented) → evented_number e ≡ 8 → e ≡ Err event.BadEvent
bad_event_lem (Ok counted) n = cc
bad_event_lem (Err event.BadEvent) n = refl
bad_event_lem (Err event.NoState) n = cc

no_event : (e : Evented) → evented_number e ≡ 10 → e ≡ Err event.NoState
no_event (Ok counted) n = cc
no_event (Err event.BadEvent) n = cc
no_event (Err event.NoState) n = refl

no_room_lem : (e : Slotted) → slotted_number e ≡ 9 → e ≡ Err slot.NoRoom
no_room_lem (Ok None) n = cc
no_room_lem (Ok (Some k)) n = cc
no_room_lem (Err slot.NoRoom) n = refl
no_room_lem (Err slot.NoState) n = cc

no_slot : (e : Slotted) → slotted_number e ≡ 10 → e ≡ Err slot.NoState
no_slot (Ok None) n = cc
no_slot (Ok (Some k)) n = cc
no_slot (Err slot.NoRoom) n = cc
no_slot (Err slot.NoState) n = refl

-- ---- outcomes with the same parts
same_power : {o o' : Power} → o.powered_up ≡ o'.powered_up → o.state ≡ o'.state → o ≡ o'
same_power a b i = record { powered_up = a i; state = b i }

same_step : {o o' : Step} → o.received ≡ o'.received → o.state ≡ o'.state → o.cal ≡ o'.cal → o ≡ o'
same_step a b c i = record { received = a i; state = b i; cal = c i }

same_event : {o o' : Happened} → o.evented ≡ o'.evented → o.state ≡ o'.state → o ≡ o'
same_event a b i = record { evented = a i; state = b i }

same_slot : {o o' : Slot} → o.slotted ≡ o'.slotted → o.state ≡ o'.state → o.out ≡ o'.out → o ≡ o'
same_slot a b c i = record { slotted = a i; state = b i; out = c i }

-- ---- lists with the same parts
whole : (n : ℕ) (t u : List ℕ) → take n t ≡ take n u → drop n t ≡ drop n u → t ≡ u
whole n t u e f = sym (take-append-drop n t) ∙ (ap (λ xs. xs ++ drop n t) e ∙ (ap (λ xs. take n u ++ xs) f ∙ take-append-drop n u))

from_block : (i n : ℕ) (t u : List ℕ) → block t i n ≡ block u i n → drop (i + n) t ≡ drop (i + n) u → drop i t ≡ drop i u
from_block i n t u e f = whole n (drop i t) (drop i u) e (drop-drop n i t ∙ (f ∙ sym (drop-drop n i u)))

-- the same before the stores, behind them, and in each
module _ (s t u : List ℕ) where
  same_lists : (n : ℕ) → ((l : ℕ) → l < n → stores_of t s l ≡ stores_of u s l) → drop (sample_at (first_odt s n)) t ≡ drop (sample_at (first_odt s n)) u → drop (sample_at 0) t ≡ drop (sample_at 0) u
  same_lists zero e f = rw (start_zero all_odts (odts_in s)) at f
  same_lists (suc n) e f =
      let next : sample_at (first_odt s n) + odt_count s n * sample_size ≡ sample_at (first_odt s (suc n)) = omega (arith, odt_next s n) in
      same_lists n (λ l h. e l (omega arith)) (from_block (sample_at (first_odt s n)) (odt_count s n * sample_size) t u (e n (omega arith)) (rw next f))

  same_stores : SameOutside (sample_at 0) (sample_at (odt_total s)) s t → SameOutside (sample_at 0) (sample_at (odt_total s)) s u → ((l : ℕ) → l < list_count s → stores_of t s l ≡ stores_of u s l) → t ≡ u
  same_stores a b e = whole (sample_at 0) t u (a.front ∙ sym b.front) (same_lists (list_count s) e (a.back ∙ sym b.back))

-- ---- two slaves
module _ (v w : AnySlave) (v1 : Demand1 v) (v2 : Demand2 v) (w1 : Demand1 w) (w2 : Demand2 w) where
  power_up_same : (s : List ℕ) (start : ℕ) → v.power_up s start ≡ w.power_up s start
  power_up_same s start = elim (ℕ_discrete (length s) size) [ yes e ↦ right e | no e ↦ wrong e ] where
    right : length s ≡ size → v.power_up s start ≡ w.power_up s start
    right e = same_power (powered_up_told _ _ ((v1.outcomes.right_size s start e).0 ∙ sym (w1.outcomes.right_size s start e).0)) (v2.as_defined.powers_up s start e ∙ sym (w2.as_defined.powers_up s start e))

    wrong : length s ≢ size → v.power_up s start ≡ w.power_up s start
    wrong e = same_power (powered_up_told _ _ ((v1.outcomes.no_size s start e).0 ∙ sym (w1.outcomes.no_size s start e).0)) ((v1.outcomes.no_size s start e).1 ∙ sym (w1.outcomes.no_size s start e).1)

  receive_same : (s cal meas : List ℕ) (b : ℕ) → v.receive s cal meas b ≡ w.receive s cal meas b
  receive_same s cal meas b = go (consistent s) refl where
    go : (t : Bool) → consistent s ≡ t → v.receive s cal meas b ≡ w.receive s cal meas b
    go true c = v2.as_defined.reads s cal meas b c ∙ sym (w2.as_defined.reads s cal meas b c)
    go false c =
        let x = v1.outcomes.no_state s cal meas [] b 0 0 c in
        let y = w1.outcomes.no_state s cal meas [] b 0 0 c in
        same_step (received_told _ _ (x.0 ∙ sym y.0)) (x.1 ∙ sym y.1) (x.2 ∙ sym y.2)

  -- the store of one list after an event
  store_same : (s cal meas : List ℕ) (event clock l : ℕ) → consistent s ≡ true → event ≤ 1 → l < list_count s
      → stores_of (v.event s cal meas event clock).state s l ≡ stores_of (w.event s cal meas event clock).state s l
  store_same s cal meas event clock l c h q = go (sampling_of s l event) refl where
    go : (x : Sampling) → sampling_of s l event ≡ x → stores_of (v.event s cal meas event clock).state s l ≡ stores_of (w.event s cal meas event clock).state s l
    go Idle e = let n : sampling_of s l event ≢ Sampled = λ f. cc in v2.as_defined.others s cal meas event clock l c q n ∙ sym (w2.as_defined.others s cal meas event clock l c q n)
    go Sampled e = v2.as_defined.stores s cal meas event clock l c h e ∙ sym (w2.as_defined.stores s cal meas event clock l c h e)
    go Missed e = let n : sampling_of s l event ≢ Sampled = λ f. cc in v2.as_defined.others s cal meas event clock l c q n ∙ sym (w2.as_defined.others s cal meas event clock l c q n)

  event_done : (s cal meas : List ℕ) (event clock : ℕ) → consistent s ≡ true → event ≤ 1 → v.event s cal meas event clock ≡ w.event s cal meas event clock
  event_done s cal meas event clock c h =
      same_event (v2.as_defined.tells_counts s cal meas event clock c h ∙ sym (w2.as_defined.tells_counts s cal meas event clock c h))
      (same_stores s (v.event s cal meas event clock).state (w.event s cal meas event clock).state
      (v2.as_defined.stores_only s cal meas event clock) (w2.as_defined.stores_only s cal meas event clock) (λ l q. store_same s cal meas event clock l c h q))

  event_bad : (s cal meas : List ℕ) (event clock : ℕ) → consistent s ≡ true → 1 < event → v.event s cal meas event clock ≡ w.event s cal meas event clock
  event_bad s cal meas event clock c h =
      let x = v1.outcomes.bad_event s cal meas event clock c h in
      let y = w1.outcomes.bad_event s cal meas event clock c h in
      same_event (bad_event_lem _ x.0 ∙ sym (bad_event_lem _ y.0)) (x.1 ∙ sym y.1)

  event_same : (s cal meas : List ℕ) (event clock : ℕ) → v.event s cal meas event clock ≡ w.event s cal meas event clock
  event_same s cal meas event clock = go (consistent s) refl where
    go : (t : Bool) → consistent s ≡ t → v.event s cal meas event clock ≡ w.event s cal meas event clock
    go true c = elim (cases_lt 1 event) [ inl h ↦ event_bad s cal meas event clock c h | inr h ↦ event_done s cal meas event clock c h ]
    go false c =
        let x = v1.outcomes.no_state s cal meas [] 0 event clock c in
        let y = w1.outcomes.no_state s cal meas [] 0 event clock c in
        same_event (no_event _ x.3 ∙ sym (no_event _ y.3)) (x.4 ∙ sym y.4)

  slot_short : (s out : List ℕ) → consistent s ≡ true → length out < room → v.slot s out ≡ w.slot s out
  slot_short s out c h =
      let x = v1.outcomes.no_room s out c h in
      let y = w1.outcomes.no_room s out c h in
      same_slot (no_room_lem _ x.0 ∙ sym (no_room_lem _ y.0)) (x.1 ∙ sym y.1) (x.2 ∙ sym y.2)

  slot_same : (s out : List ℕ) → v.slot s out ≡ w.slot s out
  slot_same s out = go (consistent s) refl where
    go : (t : Bool) → consistent s ≡ t → v.slot s out ≡ w.slot s out
    go true c = elim (cases_lt (length out) room) [ inl h ↦ slot_short s out c h | inr h ↦ v2.as_defined.serves s out c h ∙ sym (w2.as_defined.serves s out c h) ]
    go false c =
        let x = v1.outcomes.no_state s [] [] out 0 0 0 c in
        let y = w1.outcomes.no_state s [] [] out 0 0 0 c in
        same_slot (no_slot _ x.5 ∙ sym (no_slot _ y.5)) (x.6 ∙ sym y.6) (x.7 ∙ sym y.7)

  same_calls : v ≡ w
  same_calls i =
      record {
        power_up = λ s start. power_up_same s start i;
        receive = λ s cal meas b. receive_same s cal meas b i;
        event = λ s cal meas event clock. event_same s cal meas event clock i;
        slot = λ s out. slot_same s out i;
      }

pub no_choice : Tight (λ (v : AnySlave). Demand1 v × Demand2 v)
no_choice v w a b = same_calls v w a.0 a.1 b.0 b.1

-- it is ours
pub only_ours : (v : AnySlave) → Demand1 v → Demand2 v → v ≡ ours
only_ours v d e = no_choice v ours (d, e) (demand1, demand2)
