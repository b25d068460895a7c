-- Our slave meets the first demand: any bytes get a defined outcome, and a refusal leaves what it should. Assumes nothing.
use Rattle.std.proofs.Common.{◌≡◌, ◌≢◌, ℕ, ◌≤◌, ◌<◌, true, false, List, length, Option, Some, None, eqb, ltb, refl, sym, ap, ◌∙◌, subst, arith, lt-ltb, le-ltb, eq-eqb, ne_eqb, lit≤}
use Rattle.std.proofs.lemmas.Bool.{false≢true}
use Rattle.line.specs.Message.{most, room}
use Rattle.line.specs.Writer.{Sent, write_of}
use Rattle.line.proofs.Laws.{cond_ind}
use Rattle.state.specs.Layout.{place_at, answer_at, size, session_at}
use Rattle.state.specs.State.{consistent, counted_wrong, ctr_of, closed, answer_of}
use Rattle.model.specs.Model.{byte}
use Rattle.model.specs.View.{session_of, view_of}
use Rattle.session.specs.Perform.{effect, reply, after}
use Rattle.model.specs.Answers.{reply_in, written, writes}
use Rattle.session.specs.Receive.{Step, obeyed, receive_of}
use Rattle.lists.specs.Event.{event_of}
use Rattle.lists.specs.Slot.{packet_of, turn_of, slotted_as, sent_by, slot_of}
use Rattle.session.specs.PowerUp.{power_up_of}
use Rattle.words.specs.Number.{received_number, evented_number, slotted_number, powered_up_number}
use Rattle.judge.specs.Doable.{Doable}
use Rattle.model.specs.declared.Deed.{Deed}
use Rattle.model.specs.declared.Deed.TheVariants.{WrongKey}
use Rattle.model.specs.Turn.{Turn}
use Rattle.model.specs.declared.Sender.TheVariants.{Answer, Packet}
use Rattle.fields.proofs.Effects.{answering}
use Rattle.fields.proofs.Frames.{Only, only_then, only_wider, only_answered}
use Rattle.fields.proofs.Kept.{receive_kept, event_kept, slot_kept, power_up_consistent}
use Rattle.demands.specs.Slave.{ours}
use Rattle.demands.specs.Heard.{read_by, Commands, wrong_key, wrong_key_in, wrong_key_at}
use Rattle.demands.specs.Waiting.{SameOutside}
use Rattle.demands.specs.Outcomes.{Outcomes}
use Rattle.demands.specs.Refusals.{Refusals}
use Rattle.demands.specs.Demand1.{Demand1}
use Rattle.demands.proofs.Judged.{Found}
use Rattle.demands.proofs.ReadBy.{read_only}
use Rattle.demands.proofs.Received.{Performed, Reads, rests, acts, received, commanded, read_can, done_answer}
use Rattle.demands.proofs.Unchanged.{all_but}
use Rattle.demands.proofs.Refusals.{Idles, refusal, wrong_judged}
use Rattle.demands.proofs.Life.{life_kept}

-- ---- a refused command
not_wrong : (s cal meas : List ℕ) (b : ℕ) (d : Deed) (p : List ℕ) → wrong_key_at s b ≡ false → Performed s cal meas b d p → d ≢ WrongKey
not_wrong s cal meas b d p n w e =
    let f : wrong_key p (session_of s) ≡ true = subst (λ (x : Deed). Found x p (session_of s)) e w.found in
    let k : wrong_key p (session_of s) ≡ false = sym (ap (λ (o : Option (List ℕ)). wrong_key_in o (session_of s)) w.ended) ∙ n in
    false≢true (sym k ∙ f)

-- the answer alone, behind the reader
answer_only_lem : (d : Deed) (s t cal meas : List ℕ) (n : ℕ) → Only place_at answer_at s t → effect d t ≡ t → Doable d (session_of t) n (length cal) (length meas) → Only place_at session_at s (after d t cal meas)
answer_only_lem d s t cal meas n w e can =
    let a : Only answer_at session_at t (after d t cal meas) = rw e (only_answered t (reply d t cal meas) (answering d t cal meas n can).few) in
    only_then (only_wider (lit≤ tt) (lit≤ tt) w) (only_wider (lit≤ tt) (lit≤ tt) a)

refused_by : {s cal meas : List ℕ} {b : ℕ} {o : Step} {x : Option Deed} → consistent s ≡ true → received_number o.received ≡ 1
    → byte (view_of o.state).answer 0 ≡ 0xFE → wrong_key_at s b ≡ false → Reads s cal meas b o x → SameOutside place_at session_at s o.state × (o.cal ≡ cal)
refused_by c one fe n (rests r other few) = absurd (other one)
refused_by {s} {cal} {meas} {b} c one fe n (acts d p w) =
    let t : List ℕ = read_by s b in
    let said : (view_of (after d t cal meas)).answer ≡ reply_in d (session_of s) cal meas = done_answer s cal meas b d (length p) c w.can in
    let i : Idles d p t cal = refusal d p (session_of s) t cal meas (not_wrong s cal meas b d p n w) (sym (ap (λ (l : List ℕ). byte l 0) said) ∙ fe) in
    (all_but (answer_only_lem d s t cal meas (length p) (read_only s b c) i.state (read_can s b d (length p) (length cal) (length meas) c w.can)), i.memory)

-- but for the answer a wrong key leaves the closed session with itself counted
wrong_only : (t cal meas : List ℕ) → Only answer_at session_at (counted_wrong (closed t)) (after WrongKey t cal meas)
unfolding effect
wrong_only t cal meas = only_answered (counted_wrong (closed t)) (reply WrongKey t cal meas) (answering WrongKey t cal meas 0 tt).few

wrong_writes : (p cal : List ℕ) → written WrongKey p cal ≡ cal
unfolding writes
wrong_writes p cal = refl

wrong_step : (s cal meas : List ℕ) (b : ℕ) (p : List ℕ) → consistent s ≡ true → Commands s b p → wrong_key p (session_of s) ≡ true
    → receive_of s cal meas b ≡ obeyed WrongKey p (read_by s b) cal meas
wrong_step s cal meas b p u w wrong =
    commanded s cal meas b p u w ∙ ap (λ (d : Deed). obeyed d p (read_by s b) cal meas) (wrong_judged p (session_of s) (length cal) (length meas) wrong)

wrong_key_ends_lem : (s cal meas : List ℕ) (b : ℕ) (p : List ℕ) → consistent s ≡ true → Commands s b p → wrong_key p (session_of s) ≡ true
    → SameOutside answer_at session_at (counted_wrong (closed (read_by s b))) (receive_of s cal meas b).state × ((receive_of s cal meas b).cal ≡ cal)
wrong_key_ends_lem s cal meas b p u w wrong =
    let e : receive_of s cal meas b ≡ obeyed WrongKey p (read_by s b) cal meas = wrong_step s cal meas b p u w wrong in
    (rw e (all_but (wrong_only (read_by s b) cal meas)), ap (λ (o : Step). o.cal) e ∙ wrong_writes p cal)

-- ---- a byte without an answer
unanswered_by : {s cal meas : List ℕ} {b : ℕ} {o : Step} {x : Option Deed} → consistent s ≡ true → received_number o.received ≢ 1
    → Reads s cal meas b o x → SameOutside place_at answer_at s o.state × (o.cal ≡ cal)
unanswered_by {s} {cal} {meas} {b} c n (rests r other few) = (all_but (read_only s b c), refl)
unanswered_by c n (acts d p w) = absurd (n refl)

-- ---- the numbers
seven : {s cal meas : List ℕ} {b : ℕ} {o : Step} {x : Option Deed} → Reads s cal meas b o x → received_number o.received ≤ 7
seven (rests r other few) = few
seven (acts d p w) = omega arith

no_state_lem : (s cal meas out : List ℕ) (b event clock : ℕ) → consistent s ≡ false
    → (received_number (receive_of s cal meas b).received ≡ 10) × ((receive_of s cal meas b).state ≡ s) × ((receive_of s cal meas b).cal ≡ cal)
    × (evented_number (event_of s cal meas event clock).evented ≡ 10) × ((event_of s cal meas event clock).state ≡ s)
    × (slotted_number (slot_of s out).slotted ≡ 10) × ((slot_of s out).state ≡ s) × ((slot_of s out).out ≡ out)
unfolding receive_of event_of slot_of
no_state_lem s cal meas out b event clock n = (simp n, simp n, simp n, simp n, simp n, simp n, simp n, simp n)

no_size_lem : (s : List ℕ) (start : ℕ) → length s ≢ size → (powered_up_number (power_up_of s start).powered_up ≡ 10) × ((power_up_of s start).state ≡ s)
unfolding power_up_of
no_size_lem s start n = (simp (ne_eqb (length s) size n), simp (ne_eqb (length s) size n))

powers_up_lem : (s : List ℕ) (start : ℕ) → length s ≡ size → powered_up_number (power_up_of s start).powered_up ≡ 0
unfolding power_up_of
powers_up_lem s start e = simp (eq-eqb (length s) size e)

bad_event_lem : (s cal meas : List ℕ) (event clock : ℕ) → consistent s ≡ true → 1 < event
    → (evented_number (event_of s cal meas event clock).evented ≡ 8) × ((event_of s cal meas event clock).state ≡ s)
unfolding event_of
bad_event_lem s cal meas event clock c h = (simp (c, lt-ltb 1 event h), simp (c, lt-ltb 1 event h))

good_event : (s cal meas : List ℕ) (event clock : ℕ) → consistent s ≡ true → event ≤ 1 → evented_number (event_of s cal meas event clock).evented ≡ 0
unfolding event_of
good_event s cal meas event clock c h = simp (c, le-ltb 1 event h)

no_room_lem : (s out : List ℕ) → consistent s ≡ true → length out < room
    → (slotted_number (slot_of s out).slotted ≡ 9) × ((slot_of s out).state ≡ s) × ((slot_of s out).out ≡ out)
unfolding slot_of
no_room_lem s out c h = (simp (c, lt-ltb (length out) room h), simp (c, lt-ltb (length out) room h), simp (c, lt-ltb (length out) room h))

-- with room the line never says that there is none
wrote : (p : List ℕ) (ctr : ℕ) (out : List ℕ) → room ≤ length out → slotted_number (slotted_as (write_of p ctr out).written) ≡ 0
unfolding write_of
wrote p ctr out h =
    let P : Sent → Type 0 = λ (w : Sent). slotted_number (slotted_as w.written) ≡ 0 in
    cond_ind P (eqb (length p) 0) (λ _. refl)
    (λ _. cond_ind P (ltb most (length p)) (λ _. refl)
    (λ _. cond_ind P (ltb (length out) room) (λ n. absurd (false≢true (sym (le-ltb (length out) room h) ∙ n))) (λ _. refl)))

sent : (t : Turn) (s out : List ℕ) → room ≤ length out → slotted_number (sent_by t s out).slotted ≡ 0
unfolding sent_by
sent None s out h = refl
sent (Some Answer) s out h = wrote (answer_of s) (ctr_of s) out h
sent (Some (Packet l o)) s out h = wrote (packet_of s l o) (ctr_of s) out h

good_slot : (s out : List ℕ) → consistent s ≡ true → room ≤ length out → slotted_number (slot_of s out).slotted ≡ 0
unfolding slot_of
good_slot s out c h = simp (c, le-ltb (length out) room h) (sent (turn_of s) s out h)

our_refusals : Refusals ours
our_refusals = record {
  refused = λ s cal meas b c r n.
      let w = refused_by c r.answered r.begins n (received s cal meas b c) in
      record { state = w.0; memory = w.1 };
  wrong_key_ends = wrong_key_ends_lem;
  unanswered = λ s cal meas b c n.
      let w = unanswered_by c n (received s cal meas b c) in
      record { state = w.0; memory = w.1 };
}

our_outcomes : Outcomes ours
our_outcomes = record {
  no_state = no_state_lem;
  no_size = no_size_lem;
  right_size = λ s start e. (powers_up_lem s start e, power_up_consistent s start e);
  bad_event = bad_event_lem;
  no_room = no_room_lem;
  otherwise = λ s cal meas out b event clock c. (seven (received s cal meas b c), good_event s cal meas event clock c, good_slot s out c);
  stays = λ s cal meas out b event clock c. (receive_kept s cal meas b c, event_kept s cal meas event clock c, slot_kept s out c);
  lasts = life_kept;
}

pub demand1 : Demand1 ours
demand1 = record { outcomes = our_outcomes; refusals = our_refusals }
