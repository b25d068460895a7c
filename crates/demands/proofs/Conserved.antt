-- Nothing lost, nothing invented: what holds of each call holds of a run. Assumes nothing.
use Rattle.std.proofs.Common.{◌≡◌, ℕ, ◌≤◌, ◌<◌, Bool, true, false, cond, List, [], ◌∷◌, ◌++◌, length, ltb, refl, sym, ap, ◌∙◌, append-nil, append_assoc, inl, inr}
use Rattle.std.proofs.Math.Decide.{ℕ_discrete}
use Rattle.std.proofs.lemmas.Bool.{cases_lt}
use Rattle.line.specs.Message.{room}
use Rattle.state.specs.Layout.{size}
use Rattle.state.specs.State.{consistent}
use Rattle.lists.specs.Slot.{slot_of}
use Rattle.model.specs.Turn.{Turn}
use Rattle.state.proofs.Consistent.{consistent_size}
use Rattle.model.specs.Model.{Slave, waiting_in, has_answer}
use Rattle.model.specs.Calls.{turn_in, packet_from, packet_for, packet_gone}
use Rattle.model.specs.View.{session_of, view_of}
use Rattle.demands.specs.Slave.{ours}
use Rattle.demands.specs.Runs.{Call, Byte, Event, SendingSlot, Elsewhere, after_call, run, sends, each, frames}
use Rattle.demands.specs.Heard.{stops_at}
use Rattle.demands.specs.Waiting.{waiting_answer, waiting_of, is_answer, is_of, carried, answers_in}
use Rattle.demands.specs.Kept.{accepts, gains, goes as goes_of, NothingLost}
use Rattle.demands.proofs.Reached.{after_kept}
use Rattle.demands.proofs.Turns.{Fair, nobody, answer, list, fair}
use Rattle.demands.proofs.Sends.{next_low, turned, frames_of, slot_shows, slot_stays, slot_sends, slot_silent}
use Rattle.demands.proofs.Carried.{carried_append, carries, carries_none, packet_no_answer, packet_own, packet_other, answer_answers, answer_of_none}
use Rattle.demands.proofs.ByteKeeps.{byte_waiting, byte_answer}
use Rattle.demands.proofs.Events.{event_waiting, event_answer}

-- ---- whatever waits, goes and comes: if each call keeps the sum, a run does
module _ (waiting : List ℕ → List (List ℕ)) (goes comes : List ℕ → Call → List (List ℕ)) where
  abbrev Balanced : Type 0
  Balanced = (s : List ℕ) (c : Call) → consistent s ≡ true → goes s c ++ waiting (after_call ours s c) ≡ waiting s ++ comes s c

  pub balanced : Balanced → (s : List ℕ) (cs : List Call) → consistent s ≡ true → each goes ours s cs ++ waiting (run ours s cs) ≡ waiting s ++ each comes ours s cs
  balanced step s [] h = sym (append-nil (waiting s))
  balanced step s (c ∷ cs) h =
      let t : List ℕ = after_call ours s c in
      append_assoc (goes s c) (each goes ours (after_call ours s c) cs) (waiting (run ours (after_call ours s c) cs))
      ∙ ap (λ (x : List (List ℕ)). goes s c ++ x) (balanced step (after_call ours s c) cs (after_kept s c h))
      ∙ sym (append_assoc (goes s c) (waiting (after_call ours s c)) (each comes ours (after_call ours s c) cs))
      ∙ ap (λ (x : List (List ℕ)). x ++ each comes ours (after_call ours s c) cs) (step s c h)
      ∙ append_assoc (waiting s) (comes s c) (each comes ours (after_call ours s c) cs)

-- ---- a slot, of which w is left and whose frames carry what passes a test
slot_balanced : (test : List ℕ → Bool) (w : Slave → List (List ℕ)) (s out : List ℕ) → consistent s ≡ true
    → ((t : Turn) → Fair (view_of s) t → carried test (frames_of (view_of s).ctr (packet_for t (view_of s))) ++ w (turned t (view_of s)) ≡ w (view_of s))
    → carried test (sends ours s (SendingSlot out)) ++ w (view_of (slot_of s out).state) ≡ w (view_of s) ++ []
slot_balanced test w s out c f = elim (cases_lt (length out) room) [ inl r ↦ without r | inr r ↦ with_room r ] where
  with_room : room ≤ length out → carried test (sends ours s (SendingSlot out)) ++ w (view_of (slot_of s out).state) ≡ w (view_of s) ++ []
  with_room r = rw (slot_sends s out c r, slot_shows s out c r) (f (turn_in (view_of s)) (fair (view_of s)) ∙ sym (append-nil (w (view_of s))))

  without : length out < room → carried test (sends ours s (SendingSlot out)) ++ w (view_of (slot_of s out).state) ≡ w (view_of s) ++ []
  without r = rw (slot_silent s out c r, slot_stays s out c r) (sym (append-nil (w (view_of s))))

-- ---- answers
abbrev answer_in : Slave → List (List ℕ)
answer_in v = cond (has_answer v) (v.answer ∷ []) []

answered_turn : (s : List ℕ) (t : Turn) → length s ≡ size → Fair (view_of s) t
    → carried is_answer (frames_of (view_of s).ctr (packet_for t (view_of s))) ++ answer_in (turned t (view_of s)) ≡ answer_in (view_of s)
answered_turn s _ h nobody = refl
answered_turn s _ h (answer w) = rw (carries is_answer (view_of s).ctr (view_of s).answer (answer_answers s h w), w)
answered_turn s _ h (list j o n) = rw (carries_none is_answer (view_of s).ctr (packet_from (view_of s).session j o) (packet_no_answer (view_of s).session j o (next_low s j o n)))

answers_step : (s : List ℕ) (c : Call) → consistent s ≡ true → answers_in (sends ours s c) ++ waiting_answer (after_call ours s c) ≡ waiting_answer s ++ accepts ours s c
answers_step s (Byte cal meas b) h = byte_answer s cal meas b h
answers_step s (Event cal meas event clock) h =
    ap (λ (bs : List ℕ). cond (ltb 0 (length bs)) (bs ∷ []) []) (event_answer s cal meas event clock) ∙ sym (append-nil (waiting_answer s))
answers_step s (SendingSlot out) h = slot_balanced is_answer answer_in s out h (λ t f. answered_turn s t (consistent_size s h) f)
answers_step s Elsewhere h = sym (append-nil (waiting_answer s))

-- the answers that a run's frames carry, call by call
answers_each : (s : List ℕ) (cs : List Call) → answers_in (frames ours s cs) ≡ each (λ (t : List ℕ) (c : Call). answers_in (sends ours t c)) ours s cs
answers_each s [] = refl
answers_each s (c ∷ cs) =
    carried_append is_answer (sends ours s c) (frames ours (after_call ours s c) cs) ∙ ap (λ (x : List (List ℕ)). answers_in (sends ours s c) ++ x) (answers_each (after_call ours s c) cs)

-- ---- the packets of list l
packet_turn : (s : List ℕ) (l : ℕ) (t : Turn) → length s ≡ size → Fair (view_of s) t
    → carried (is_of (view_of s).session l) (frames_of (view_of s).ctr (packet_for t (view_of s))) ++ waiting_in (turned t (view_of s)).session l ≡ waiting_in (view_of s).session l
packet_turn s l _ h nobody = refl
packet_turn s l _ h (answer w) =
    rw (carries_none (is_of (view_of s).session l) (view_of s).ctr (view_of s).answer (answer_of_none (view_of s).session l (view_of s).answer (answer_answers s h w)))
packet_turn s l _ h (list j o n) = elim (ℕ_discrete l j) [ yes e ↦ own e | no e ↦ another e ] where
  v : Slave
  v = view_of s

  p : List ℕ
  p = packet_from v.session j o

  own : l ≡ j → carried (is_of v.session l) (frames_of v.ctr (p ∷ [])) ++ waiting_in (packet_gone j o v).session l ≡ waiting_in v.session l
  own e = rw (e, carries (is_of v.session j) v.ctr p (packet_own v.session j o (next_low s j o n) n.in_list), n.left, n.waiting)

  another : (l ≡ j → ⊥) → carried (is_of v.session l) (frames_of v.ctr (p ∷ [])) ++ waiting_in (packet_gone j o v).session l ≡ waiting_in v.session l
  another e = rw (carries_none (is_of v.session l) v.ctr p (packet_other v.session j o (next_low s j o n) l n.in_list e)) (n.others l e)

stopped_or_kept : (t : Bool) (w : List (List ℕ)) → cond t w [] ++ cond t [] w ≡ w ++ []
stopped_or_kept true w = refl
stopped_or_kept false w = sym (append-nil w)

packets_step : (l : ℕ) (s : List ℕ) (c : Call) → consistent s ≡ true → goes_of ours l s c ++ waiting_of (after_call ours s c) l ≡ waiting_of s l ++ gains l s c
unfolding view_of
packets_step l s (Byte cal meas b) h = rw (byte_waiting s cal meas b h l) (stopped_or_kept (stops_at l s cal meas b) (waiting_of s l))
packets_step l s (Event cal meas event clock) h = event_waiting s cal meas event clock l h
packets_step l s (SendingSlot out) h = slot_balanced (is_of (session_of s) l) (λ (v : Slave). waiting_in v.session l) s out h (λ t f. packet_turn s l t (consistent_size s h) f)
packets_step l s Elsewhere h = sym (append-nil (waiting_of s l))

pub nothing_lost_lem : NothingLost ours
nothing_lost_lem =
    record {
      answers = λ s cs h. rw (answers_each s cs) (balanced waiting_answer (λ (t : List ℕ) (c : Call). answers_in (sends ours t c)) (accepts ours) answers_step s cs h);
      packets = λ s l cs h. balanced (λ (t : List ℕ). waiting_of t l) (goes_of ours l) (gains l) (packets_step l) s cs h;
    }
