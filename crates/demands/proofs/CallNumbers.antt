-- Each call returns the number that document 01 says, and the value beside it. Assumes nothing.
use Rattle.std.proofs.Common.{◌≡◌, ◌≢◌, ℕ, zero, suc, ◌+◌, ◌*◌, ◌≤◌, ◌<◌, ◌⊎◌, inl, inr, Bool, true, false, cond, not, ◌&&◌, List, [], ◌∷◌, length, take, Option, Some, None, Ok, Err, eqb, ltb, refl, sym, ap, ◌∙◌, subst, arith, eqb-true, eq-eqb, T, get_or-take, length-take-le}
use Rattle.std.proofs.lemmas.Bool.{false_from_ne_true}
use Rattle.line.specs.Unstuffing.{Fed}
use Rattle.line.proofs.Laws.{cond_ind}
use Rattle.state.specs.Layout.{mark, size}
use Rattle.state.specs.Bytes.{u32_at}
use Rattle.state.specs.State.{consistent}
use Rattle.state.proofs.Allocated.{lists_most}
use Rattle.state.proofs.Consistent.{consistent_size}
use Rattle.words.specs.Number.{received_number, evented_number, slotted_number, powered_up_number, evented_value, slotted_value}
use Rattle.words.specs.Values.{Received, Evented, Slotted, PoweredUp}
use Rattle.words.specs.declared.EventRefusal.TheVariants as event
use Rattle.words.specs.declared.SlotRefusal.TheVariants as slot
use Rattle.model.specs.declared.Deed.{Deed}
use Rattle.model.specs.declared.Deed.TheVariants.{Connect}
use Rattle.model.specs.Model.{byte, Bytes, has_answer}
use Rattle.model.specs.Heed.{Dropped, Obeyed, Ignored, good_connect, heeding_in}
use Rattle.model.specs.Whole.{fed_in}
use Rattle.model.specs.View.{session_of, view_of}
use Rattle.session.specs.Receive.{Step, heeded_by, heeded, meant, receive_of}
use Rattle.session.specs.Perform.{reply}
use Rattle.lists.specs.Slot.{Small, slot_of}
use Rattle.lists.proofs.Sizes.{slot_small}
use Rattle.fields.proofs.Fields.{kindly}
use Rattle.fields.proofs.Effects.{answering, after_answer}
use Rattle.views.specs.Words.{total}
use Rattle.views.specs.Events.{takes_sample, misses_sample, how_many_of}
use Rattle.views.specs.OnTheLine.{Comes, Quiet, Whole, Lost}
use Rattle.views.proofs.FaultWords.{at_most_lem}
use Rattle.views.proofs.Listed.{listed}
use Rattle.views.proofs.Receiving.{message_long}
use Rattle.views.proofs.EventLaws.{event_leaves_in}
use Rattle.views.proofs.OnTheLine.{Agrees, quiet, whole, bad_length, bad_escape, bad_checksum, cut_off, agrees}
use Rattle.demands.specs.Slave.{ours}
use Rattle.demands.specs.Runs.{SendingSlot, frame_sent, sends}
use Rattle.demands.specs.Heard.{packet_by, packet_ended, read_by, deed_in}
use Rattle.demands.specs.CallNumbers.{ByteTells, EventTells, SlotTells, PowerUpTells, comes_at, connects, byte_number, size_sent, Marked, Unmarked, other_length, other_mark, CallNumbers}
use Rattle.demands.proofs.Demand1.{demand1}
use Rattle.demands.proofs.Demand2.{demand2}
use Rattle.demands.proofs.Events.{tells_counts_lem}
use Rattle.demands.proofs.ReadBy.{read_length}
use Rattle.demands.proofs.Received.{Reads, rests, acts, heeded_at, received, received_by_lem, read_can}

-- ---- what is told: a number comes to C with its value, and a refusal adds 0
byte_tells : (r : Received) (n : ℕ) → received_number r ≡ n → ByteTells r n
byte_tells r n e = record { number = e; to_c = ap (λ (k : ℕ). 65536 * k) e }

power_tells : (r : PoweredUp) (n : ℕ) → powered_up_number r ≡ n → PowerUpTells r n
power_tells r n e = record { number = e; to_c = ap (λ (k : ℕ). 65536 * k) e }

event_tells : (r : Evented) (n x : ℕ) → evented_number r ≡ n → evented_value r ≡ x → EventTells r n x
event_tells r n x e v = record { number = e; value = v; to_c = omega (arith, e, v) }

slot_tells : (r : Slotted) (n x : ℕ) → slotted_number r ≡ n → slotted_value r ≡ x → SlotTells r n x
slot_tells r n x e v = record { number = e; value = v; to_c = omega (arith, e, v) }

event_refused : (r : Evented) (n : ℕ) → evented_number r ≡ n → 1 ≤ n → EventTells r n 0
event_refused r n e h = event_tells r n 0 e (none_added r (λ z. omega (arith, e, z))) where
  none_added : (r : Evented) → evented_number r ≢ 0 → evented_value r ≡ 0
  none_added (Ok counted) z = absurd (z refl)
  none_added (Err event.BadEvent) z = refl
  none_added (Err event.NoState) z = refl

slot_refused : (r : Slotted) (n : ℕ) → slotted_number r ≡ n → 1 ≤ n → SlotTells r n 0
slot_refused r n e h = slot_tells r n 0 e (none_added r (λ z. omega (arith, e, z))) where
  none_added : (r : Slotted) → slotted_number r ≢ 0 → slotted_value r ≡ 0
  none_added (Ok None) z = refl
  none_added (Ok (Some k)) z = absurd (z refl)
  none_added (Err slot.NoRoom) z = refl
  none_added (Err slot.NoState) z = refl

-- ---- a state
front : (s : List ℕ) → 4 ≤ length s → take 4 s ≡ byte s 0 ∷ byte s 1 ∷ byte s 2 ∷ byte s 3 ∷ []
front [] h = absurd (omega arith)
front (a ∷ []) h = absurd (omega arith)
front (a ∷ b ∷ []) h = absurd (omega arith)
front (a ∷ b ∷ c ∷ []) h = absurd (omega arith)
front (a ∷ b ∷ c ∷ d ∷ s) h = refl

mark_is : (s : List ℕ) → consistent s ≡ true → u32_at s 0 ≡ mark
unfolding consistent
mark_is s = cond_ind (λ (t : Bool). t ≡ true → u32_at s 0 ≡ mark) (eqb (length s) size) (λ _ e. eqb-true (u32_at s 0) mark e) (λ _ f. cc)

marked : (s : List ℕ) → Bytes s → consistent s ≡ true → Marked s
unfolding u32_at
marked s w c =
    let long : length s ≡ 1486 = consistent_size s c in
    let e = mark_is s c in
    let z3 : byte s 3 ≡ 0x35 = omega (arith, e, w 0, w 1, w 2) in
    let z2 : byte s 2 ≡ 0x50 = omega (arith, e, w 0, w 1, z3) in
    let z1 : byte s 1 ≡ 0x43 = omega (arith, e, w 0, z2, z3) in
    let z0 : byte s 0 ≡ 0x58 = omega (arith, e, z1, z2, z3) in
    record { long = long; mark = front s (omega arith) ∙ (λ i. z0 i ∷ z1 i ∷ z2 i ∷ z3 i ∷ []) }

mark_consistent : (s : List ℕ) → Marked s → consistent s ≡ true
unfolding consistent u32_at
mark_consistent s m =
    let at : (i : ℕ) → i < 4 → byte s i ≡ byte (0x58 ∷ 0x43 ∷ 0x50 ∷ 0x35 ∷ []) i = λ i h. sym (get_or-take 4 s i 0 h) ∙ ap (λ (l : List ℕ). byte l i) m.mark in
    let e : u32_at s 0 ≡ mark = omega (arith, at 0 (omega arith), at 1 (omega arith), at 2 (omega arith), at 3 (omega arith)) in
    simp (eq-eqb (length s) size m.long, eq-eqb (u32_at s 0) mark e)

unmarked : (s : List ℕ) → Unmarked s → consistent s ≡ false
unmarked s u = false_from_ne_true (consistent s) (none u) where
  none : Unmarked s → consistent s ≡ true → ⊥
  none (other_length n) e = n (consistent_size s e)
  none (other_mark w n) e = n (marked s w e).mark

-- ---- a received byte
connects_is : (p : List ℕ) → good_connect p ≡ connects p
unfolding good_connect
connects_is p = go (eqb (byte p 0) 0xFF) (ltb (length p) 2) (eqb (byte p 1) 0) ∙ ap (λ (t : Bool). t && (eqb (byte p 0) 0xFF && eqb (byte p 1) 0)) (sym (at_most_lem 2 (length p))) where
  go : (x y z : Bool) → cond x (cond y false z) false ≡ (not y && (x && z))
  go true true z = refl
  go true false z = refl
  go false true z = refl
  go false false z = refl

-- an answer is FF or FE
abbrev Begins : List ℕ → Type 0
Begins bs = (byte bs 0 ≡ 0xFF) ⊎ (byte bs 0 ≡ 0xFE)

kind_begins : (n k : ℕ) → T (kindly n k) → (k ≡ 0xFF) ⊎ (k ≡ 0xFE)
kind_begins n k = go (eqb k 0xFF) (eqb k 0xFE) refl refl where
  go : (x y : Bool) → eqb k 0xFF ≡ x → eqb k 0xFE ≡ y → T (cond x true (cond y (cond (eqb n 2) true (eqb n 8)) false)) → (k ≡ 0xFF) ⊎ (k ≡ 0xFE)
  go true y e f t = inl (eqb-true k 0xFF e)
  go false true e f t = inr (eqb-true k 0xFE f)
  go false false e f t = absurd t

module _ (s : List ℕ) (b : ℕ) (c : consistent s ≡ true) where
  agreed : Agrees (comes_at s b) (fed_in b (view_of s))
  unfolding view_of
  agreed = agrees (view_of s).place (view_of s).message b (omega (arith, message_long s (consistent_size s c)))

  -- the packet of a good message is that of the whole message on the line
  abbrev packet_of : Comes → Option (List ℕ)
  packet_of Quiet = None
  packet_of (Whole p) = Some p
  packet_of (Lost n) = None

  packet_is : {x : Comes} {f : Fed} → Agrees x f → packet_by f.taken.outcome f.message ≡ packet_of x
  packet_is quiet = refl
  packet_is (whole ctr at n e) = ap Some e
  packet_is bad_length = refl
  packet_is bad_escape = refl
  packet_is bad_checksum = refl
  packet_is cut_off = refl

  whole_is_lem : (p : List ℕ) → comes_at s b ≡ Whole p → packet_ended s b ≡ Some p
  whole_is_lem p e = packet_is agreed ∙ ap packet_of e

  is_whole : (p : List ℕ) → packet_ended s b ≡ Some p → comes_at s b ≡ Whole p
  is_whole p e = go (comes_at s b) (sym (packet_is agreed) ∙ e) where
    go : (x : Comes) → packet_of x ≡ Some p → x ≡ Whole p
    go Quiet f = cc
    go (Whole q) f = let same : q ≡ p = cc in ap Whole same
    go (Lost n) f = cc

  module _ (cal meas : List ℕ) where
    good_number : (p : List ℕ) → received_number (heeded p (read_by s b) cal meas).received ≡ byte_number (Whole p) (has_answer (view_of s)) (session_of s).opened
    unfolding heeding_in
    good_number p =
        ap (λ (o : Step). received_number o.received) (heeded_at s cal meas b p c) ∙ go (has_answer (view_of s)) (session_of s).opened (good_connect p)
        ∙ ap (λ (g : Bool). cond (has_answer (view_of s)) 6 (cond (session_of s).opened 1 (cond g 1 2))) (connects_is p) where
          d : Deed
          d = deed_in p (session_of s) cal meas

          go : (w o g : Bool)
              → received_number (heeded_by (cond w Dropped (cond o (Obeyed d) (cond g (Obeyed Connect) Ignored))) p (read_by s b) cal meas).received ≡ cond w 6 (cond o 1 (cond g 1 2))
          go true o g = refl
          go false true g = refl
          go false false true = refl
          go false false false = refl

    number_is : {x : Comes} {f : Fed} → Agrees x f → received_number (meant f.taken.outcome f.message (read_by s b) cal meas).received ≡ byte_number x (has_answer (view_of s)) (session_of s).opened
    unfolding meant
    number_is quiet = refl
    number_is (whole ctr at n e) = good_number _ ∙ ap (λ (p : List ℕ). byte_number (Whole p) (has_answer (view_of s)) (session_of s).opened) e
    number_is bad_length = refl
    number_is bad_escape = refl
    number_is bad_checksum = refl
    number_is cut_off = refl

    byte_number_lem : received_number (receive_of s cal meas b).received ≡ byte_number (comes_at s b) (has_answer (view_of s)) (session_of s).opened
    unfolding view_of
    byte_number_lem = ap (λ (o : Step). received_number o.received) (received_by_lem s cal meas b c) ∙ number_is agreed

    answer_begins : {o : Step} {x : Option Deed} → Reads s cal meas b o x → received_number o.received ≡ 1 → Begins (view_of o.state).answer
    unfolding view_of
    answer_begins (rests r n few) one = absurd (n one)
    answer_begins (acts d p w) one =
        let t : List ℕ = read_by s b in
        let can = read_can s b d (length p) (length cal) (length meas) c w.can in
        let bs : List ℕ = reply d t cal meas in
        subst Begins (sym (after_answer d t cal meas (length p) (read_length s b c) can)) (kind_begins (length bs) (byte bs 0) (answering d t cal meas (length p) can).kind)

-- ---- an event
few_lists : (n : ℕ) (test : ℕ → Bool) → total n (λ l. cond (test l) 1 0) ≤ n
few_lists zero test = omega arith
few_lists (suc n) test =
    cond_ind (λ (k : ℕ). total n (λ l. cond (test l) 1 0) + k ≤ suc n) (test n) (λ _. omega (arith, few_lists n test)) (λ _. omega (arith, few_lists n test))

eight_lists_lem : (s : List ℕ) (test : ℕ → Bool) → how_many_of (session_of s) test ≤ 8
unfolding session_of
eight_lists_lem s test = omega (arith, few_lists (session_of s).lists test, lists_most s)

event_told : (s cal meas : List ℕ) (number clock : ℕ) → consistent s ≡ true → number ≤ 1
    → EventTells (ours.event s cal meas number clock).evented 0 (256 * how_many_of (session_of s) (takes_sample (session_of s) number) + how_many_of (session_of s) (misses_sample (session_of s) number))
event_told s cal meas number clock c h =
    let e = tells_counts_lem s cal meas number clock c h ∙ (event_leaves_in (session_of s) (listed s) number clock cal meas).told in
    event_tells _ _ _ (ap evented_number e) (ap evented_value e)

-- ---- a slot
size_sent_lem : (r : Slotted) (out : List ℕ) → Small r → 135 ≤ length out → slotted_value r ≡ size_sent (frame_sent r out)
size_sent_lem (Ok None) out few h = refl
size_sent_lem (Ok (Some n)) out few h = sym (length-take-le n out (omega arith))
size_sent_lem (Err slot.NoRoom) out few h = refl
size_sent_lem (Err slot.NoState) out few h = refl

small : (r : Slotted) → Small r → slotted_value r ≤ 135
small (Ok None) few = omega arith
small (Ok (Some n)) few = few
small (Err slot.NoRoom) few = omega arith
small (Err slot.NoState) few = omega arith

slot_told : (s out : List ℕ) → consistent s ≡ true → 135 ≤ length out
    → SlotTells (ours.slot s out).slotted 0 (size_sent (sends ours s (SendingSlot out))) × (size_sent (sends ours s (SendingSlot out)) ≤ 135)
slot_told s out c h =
    let long : length (slot_of s out).out ≡ length out = (demand2.wire.rest_stays s out).long in
    let e = size_sent_lem (slot_of s out).slotted (slot_of s out).out (slot_small s out) (omega arith) in
    (slot_tells _ _ _ ((demand1.outcomes.otherwise s [] [] out 0 0 0 c).2 h) e, subst (λ (n : ℕ). n ≤ 135) e (small (slot_of s out).slotted (slot_small s out)))

pub call_numbers_lem : CallNumbers ours
call_numbers_lem = record {
  whole_is = λ s b p c. (whole_is_lem s b c p, is_whole s b c p);
  received = λ s cal meas b c. byte_tells _ _ (byte_number_lem s b c cal meas);
  answer = λ s cal meas b c one. answer_begins s b c cal meas (received s cal meas b c) one;
  event = event_told;
  eight_lists = λ s number. (eight_lists_lem s (takes_sample (session_of s) number), eight_lists_lem s (misses_sample (session_of s) number));
  bad_event = λ s cal meas number clock c h. let x = demand1.outcomes.bad_event s cal meas number clock c h in (event_refused _ 8 x.0 (omega arith), x.1);
  slot = slot_told;
  no_room = λ s out c h. let x = demand1.outcomes.no_room s out c h in (slot_refused _ 9 x.0 (omega arith), x.1, x.2);
  consistent_is = λ s w. (marked s w, mark_consistent s);
  no_state_byte = λ s cal meas b u. let x = demand1.outcomes.no_state s cal meas [] b 0 0 (unmarked s u) in (byte_tells _ 10 x.0, x.1, x.2);
  no_state_event = λ s cal meas number clock u. let x = demand1.outcomes.no_state s cal meas [] 0 number clock (unmarked s u) in (event_refused _ 10 x.3 (omega arith), x.4);
  no_state_slot = λ s out u. let x = demand1.outcomes.no_state s [] [] out 0 0 0 (unmarked s u) in (slot_refused _ 10 x.5 (omega arith), x.6, x.7);
  power_up = λ s start e. power_tells _ 0 (demand1.outcomes.right_size s start e).0;
  no_size = λ s start n. let x = demand1.outcomes.no_size s start n in (power_tells _ 10 x.0, x.1);
}
