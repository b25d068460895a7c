-- A waiting answer leaves in the first or second counted slot, once, whatever calls come between. Assumes nothing.
use Rattle.std.proofs.Common.{◌≡◌, ℕ, suc, ◌+◌, ◌≤◌, ◌<◌, Bool, true, false, List, [], ◌∷◌, length, Some, ltb, leb, refl, sym, ap, ◌∙◌, subst, arith, le-leb, inl, inr}
use Rattle.std.proofs.lemmas.Bool.{lt-leb, cases_lt}
use Rattle.line.specs.Message.{room, frame}
use Rattle.line.proofs.Laws.{cond_ind}
use Rattle.state.specs.State.{consistent}
use Rattle.session.specs.Receive.{receive_of}
use Rattle.lists.specs.Event.{event_of}
use Rattle.lists.specs.Slot.{slot_of}
use Rattle.model.specs.Model.{Slave, has_answer}
use Rattle.model.specs.Calls.{turn_in, or_else, round_in, packet_from, packet_for, answer_gone, packet_gone}
use Rattle.model.specs.View.{view_of}
use Rattle.model.specs.Turn.{Turn}
use Rattle.model.specs.declared.Sender.TheVariants.{Answer, Packet}
use Rattle.fields.proofs.Kept.{receive_kept, event_kept, slot_kept}
use Rattle.demands.specs.Slave.{ours}
use Rattle.demands.specs.Runs.{Call, Byte, Event, SendingSlot, Elsewhere, after_call, frames, sends, one_more, slots}
use Rattle.demands.specs.Waiting.{is_answer, answers_in}
use Rattle.demands.specs.Demand3.{LeavesWithin}
use Rattle.demands.proofs.Turns.{Next, Fair, nobody, answer, list, round_fair}
use Rattle.demands.proofs.Sends.{next_low, turned, frames_of, slot_shows, slot_stays, slot_sends, slot_silent}
use Rattle.demands.proofs.Carried.{carried_append, carries_none, packet_no_answer}
use Rattle.demands.proofs.ByteKeeps.{byte_sent, byte_answer_kept}
use Rattle.demands.proofs.Events.{event_answer, event_sent}

-- ---- counted slots
pub counted : (out : List ℕ) (n : ℕ) → room ≤ length out → one_more (leb room (length out)) n ≡ suc n
counted out n h = rw (le-leb room (length out) h)

pub uncounted : (out : List ℕ) (n : ℕ) → length out < room → one_more (leb room (length out)) n ≡ n
uncounted out n h = rw (lt-leb room (length out) h)

pub slots_cons : (c : Call) (cs : List Call) → slots (c ∷ cs) ≡ slots (c ∷ []) + slots cs
slots_cons (Byte cal meas b) cs = omega arith
slots_cons (Event cal meas event clock) cs = omega arith
slots_cons (SendingSlot out) cs = go (leb room (length out)) where
  go : (t : Bool) → one_more t (slots cs) ≡ one_more t 0 + slots cs
  go true = omega arith
  go false = omega arith
slots_cons Elsewhere cs = omega arith

-- ---- an answer that waits goes now, or a list's packet goes and the last frame was an answer
data Soon (v : Slave) : Turn → Type 0 where
  now : Soon v (Some Answer)
  next : (j o : ℕ) → Next v j o → v.last_answer ≡ true → Soon v (Some (Packet j o))

or_soon : (v : Slave) (t : Turn) → v.last_answer ≡ true → Fair v t → Soon v (or_else t (Some Answer))
or_soon v _ f nobody = now
or_soon v _ f (answer w) = now
or_soon v _ f (list j o n) = next j o n f

soon : (v : Slave) → has_answer v ≡ true → Soon v (turn_in v)
unfolding turn_in
soon v w = rw w (cond_ind (Soon v) v.last_answer (λ f. or_soon v (round_in v.session) f (round_fair v)) (λ _. now))

-- how many slots it takes, by whether the last frame was an answer
abbrev need : Bool → ℕ
need true = 2
need false = 1

need_some : (b : Bool) → 1 ≤ need b
need_some true = omega arith
need_some false = omega arith

need_most : (b : Bool) → need b ≤ 2
need_most true = omega arith
need_most false = omega arith

-- ---- a call before
goes_on_lem : (c : Call) (s a : List ℕ) (cs : List Call) (m n : ℕ) → LeavesWithin m ours (after_call ours s c) a cs → slots (c ∷ []) + m ≤ n → answers_in (sends ours s c) ≡ []
    → LeavesWithin n ours s a (c ∷ cs)
goes_on_lem c s a cs m n g h e =
    record {
      before = c ∷ g.before;
      out = g.out;
      later = g.later;
      split = ap (λ l. c ∷ l) g.split;
      roomy = g.roomy;
      early = omega (arith, slots_cons c g.before, g.early);
      none_before = carried_append is_answer (sends ours s c) (frames ours (after_call ours s c) g.before) ∙ rw (e, g.none_before);
      sent = g.sent;
      none_after = g.none_after;
    }

-- ---- a slot with room
-- the answer and the last frame as the rest of the run sees them
record Waits (a : List ℕ) (last : Bool) (s : List ℕ) : Type 0 where
  fit : consistent s ≡ true
  waits : has_answer (view_of s) ≡ true
  answer : (view_of s).answer ≡ a
  flag : (view_of s).last_answer ≡ last

-- a call that leaves both
waits_on : {a : List ℕ} {last : Bool} {s t : List ℕ} → consistent t ≡ true → (view_of t).answer ≡ (view_of s).answer → (view_of t).last_answer ≡ (view_of s).last_answer → Waits a last s → Waits a last t
waits_on c e f w = record { fit = c; waits = ap (λ (bs : List ℕ). ltb 0 (length bs)) e ∙ w.waits; answer = e ∙ w.answer; flag = f ∙ w.flag }

abbrev Later : List Call → Type 0
Later cs = (a : List ℕ) (last : Bool) (s : List ℕ) → Waits a last s → need last ≤ slots cs → LeavesWithin (need last) ours s a cs

-- by whose turn it is
slot_by : (cs : List Call) (a : List ℕ) (last : Bool) (s out : List ℕ) → Waits a last s → room ≤ length out → need last ≤ suc (slots cs) → Later cs
    → (t : Turn) → turn_in (view_of s) ≡ t → Soon (view_of s) t → LeavesWithin (need last) ours s a (SendingSlot out ∷ cs)
slot_by cs a last s out w r h later _ e now =
    let c : consistent s ≡ true = w.fit in
    let gone : view_of (slot_of s out).state ≡ answer_gone (view_of s) = slot_shows s out c r ∙ ap (λ t. turned t (view_of s)) e in
    record {
      before = [];
      out = out;
      later = cs;
      split = refl;
      roomy = r;
      early = need_some last;
      none_before = refl;
      sent = slot_sends s out c r ∙ ap (λ t. frames_of (view_of s).ctr (packet_for t (view_of s))) e ∙ ap (λ x. frame (view_of s).ctr x ∷ []) w.answer;
      none_after = ap has_answer gone;
    }
slot_by cs a last s out w r h later _ e (next j o n f) =
    let c : consistent s ≡ true = w.fit in
    let v : Slave = view_of s in
    let gone : view_of (slot_of s out).state ≡ packet_gone j o v = slot_shows s out c r ∙ ap (λ t. turned t (view_of s)) e in
    let u : Waits a false (slot_of s out).state = record { fit = slot_kept s out c; waits = ap has_answer gone ∙ w.waits; answer = ap (λ (x : Slave). x.answer) gone ∙ w.answer; flag = ap (λ (x : Slave). x.last_answer) gone } in
    let two : need last ≡ 2 = ap need (sym w.flag ∙ f) in
    let quiet : answers_in (sends ours s (SendingSlot out)) ≡ [] =
    ap answers_in (slot_sends s out c r ∙ ap (λ t. frames_of (view_of s).ctr (packet_for t (view_of s))) e) ∙ carries_none is_answer (view_of s).ctr (packet_from (view_of s).session j o) (packet_no_answer (view_of s).session j o (next_low s j o n)) in
    goes_on_lem (SendingSlot out) s a cs 1 (need last) (later a false (slot_of s out).state u (omega (arith, two))) (omega (arith, two, counted out 0 r)) quiet

goes : (cs : List Call) → Later cs
goes [] a last s w h = absurd (omega (arith, need_some last))
goes (Byte cal meas b ∷ cs) a last s w h =
    let c : consistent s ≡ true = w.fit in
    goes_on_lem (Byte cal meas b) s a cs (need last) (need last)
    (goes cs a last (receive_of s cal meas b).state (waits_on (receive_kept s cal meas b c) (byte_answer_kept s cal meas b c w.waits) (byte_sent s cal meas b c).last_answer w) h)
    (omega arith) refl
goes (Event cal meas event clock ∷ cs) a last s w h =
    goes_on_lem (Event cal meas event clock) s a cs (need last) (need last)
    (goes cs a last (event_of s cal meas event clock).state
    (waits_on (event_kept s cal meas event clock w.fit) (event_answer s cal meas event clock) (event_sent s cal meas event clock).last_answer w) h)
    (omega arith) refl
goes (SendingSlot out ∷ cs) a last s w h = elim (cases_lt (length out) room) [ inl r ↦ without r (goes cs) | inr r ↦ with_room r (goes cs) ] where
  with_room : room ≤ length out → Later cs → LeavesWithin (need last) ours s a (SendingSlot out ∷ cs)
  with_room r later =
      slot_by cs a last s out w r (rw (counted out (slots cs) r) at h) later (turn_in (view_of s)) refl (soon (view_of s) w.waits)

  without : length out < room → Later cs → LeavesWithin (need last) ours s a (SendingSlot out ∷ cs)
  without r later =
      goes_on_lem (SendingSlot out) s a cs (need last) (need last)
      (subst (λ (u : List ℕ). LeavesWithin (need last) ours u a cs) (sym (slot_stays s out w.fit r)) (later a last s w (rw (uncounted out (slots cs) r) at h)))
      (omega (arith, uncounted out 0 r)) (ap answers_in (slot_silent s out w.fit r))
goes (Elsewhere ∷ cs) a last s w h = goes_on_lem Elsewhere s a cs (need last) (need last) (goes cs a last s w h) (omega arith) refl

-- whatever the last frame was
within_two : {n : ℕ} {s a : List ℕ} {cs : List Call} → n ≤ 2 → LeavesWithin n ours s a cs → LeavesWithin 2 ours s a cs
within_two h g =
    record {
      before = g.before;
      out = g.out;
      later = g.later;
      split = g.split;
      roomy = g.roomy;
      early = omega (arith, g.early);
      none_before = g.none_before;
      sent = g.sent;
      none_after = g.none_after;
    }

pub answer_leaves : (s : List ℕ) (cs : List Call) → consistent s ≡ true → has_answer (view_of s) ≡ true → 2 ≤ slots cs → LeavesWithin 2 ours s (view_of s).answer cs
answer_leaves s cs c w h =
    let most : need (view_of s).last_answer ≤ 2 = need_most (view_of s).last_answer in
    within_two most (goes cs (view_of s).answer (view_of s).last_answer s (record { fit = c; waits = w; answer = refl; flag = refl }) (omega (arith, most)))
