-- The third demand is met. Assumes nothing.
use Rattle.std.proofs.Common.{◌≡◌, ℕ, ◌<◌, true, List, length, Some, Ok, ltb, ap, ◌∙◌, subst, lt-ltb}
use Rattle.state.specs.Layout.{place_at, answer_at}
use Rattle.state.specs.State.{consistent}
use Rattle.session.specs.Receive.{Step, only, receive_of}
use Rattle.model.specs.Heed.{heeding_in}
use Rattle.model.specs.Model.{has_answer}
use Rattle.model.specs.View.{session_of, view_of}
use Rattle.look.proofs.Looked.{judged_doable}
use Rattle.fields.proofs.Effects.{answering}
use Rattle.fields.proofs.Kept.{receive_kept}
use Rattle.demands.specs.Slave.{ours}
use Rattle.demands.specs.Runs.{Call, run}
use Rattle.demands.specs.Heard.{packet_ended, read_by, Commands, deed_in, answer_to}
use Rattle.demands.specs.Refusals.{ChangesOnly}
use Rattle.demands.specs.Demand3.{LeavesWithin, AnsweredSoon, AnsweredBy, Demand3}
use Rattle.demands.proofs.ReadBy.{read_only}
use Rattle.demands.proofs.Unchanged.{all_but}
use Rattle.demands.proofs.Received.{heeded_at, heeds_right, commanded, command_answer}
use Rattle.demands.proofs.Reading.{frame_ends}
use Rattle.demands.proofs.Reached.{run_kept}
use Rattle.demands.proofs.Soon.{answer_leaves}
use Rattle.demands.proofs.Whole.{next_leaves, leaves_all, sample_leaves_lem}
use Rattle.words.specs.declared.Heard.TheVariants.{Answered, Unread}

-- ---- a command is answered
module _ (s cal meas : List ℕ) (b : ℕ) (p : List ℕ) (c : consistent s ≡ true) (w : Commands s b p) where
  command_number : (receive_of s cal meas b).received ≡ Ok Answered
  command_number = ap (λ (o : Step). o.received) (commanded s cal meas b p c w)

  command_waits : has_answer (view_of (receive_of s cal meas b).state) ≡ true
  command_waits = ap (λ (bs : List ℕ). ltb 0 (length bs)) (command_answer s cal meas b p c w) ∙ lt-ltb 0 (length (answer_to p (session_of s) cal meas)) long where
    long : 0 < length (answer_to p (session_of s) cal meas)
    long = (answering (deed_in p (session_of s) cal meas) s cal meas (length p) (judged_doable p s (length cal) (length meas))).some

  command_soon : (later : List Call) → AnsweredSoon 2 ours s cal meas b p later
  command_soon later =
      let a : (view_of (receive_of s cal meas b).state).answer ≡ answer_to p (session_of s) cal meas = command_answer s cal meas b p c w in
      record {
        number = command_number;
        waiting = command_waits;
        answer = a;
        leaves = λ h. subst (λ (x : List ℕ). LeavesWithin 2 ours (receive_of s cal meas b).state x later) a (answer_leaves (receive_of s cal meas b).state later (receive_kept s cal meas b c) command_waits h);
      }

-- its bytes interleaved with any other calls
answered_soon : AnsweredBy 2 ours
answered_soon s before cal meas b later ctr p c one few e o f =
    command_soon (run ours s before) cal meas b p (run_kept s before c) (record { ends = frame_ends s before b ctr p c one few e; opened = o; free = f }) later

-- ---- good messages while an answer waits
unread : (s cal meas : List ℕ) (b : ℕ) (p : List ℕ) → consistent s ≡ true → has_answer (view_of s) ≡ true → packet_ended s b ≡ Some p
    → ((receive_of s cal meas b).received ≡ Ok Unread) × ChangesOnly place_at answer_at ours s cal meas b
unfolding heeding_in
unread s cal meas b p c w e =
    let o : receive_of s cal meas b ≡ only (Ok Unread) (read_by s b) cal = heeds_right s cal meas b p c e ∙ heeded_at s cal meas b p c ∙ simp w in
    (ap (λ (x : Step). x.received) o, record { state = rw o (all_but (read_only s b c)); memory = ap (λ (x : Step). x.cal) o })

pub demand3 : Demand3 ours
demand3 = record { answered = answered_soon; leaves = answer_leaves; meanwhile = unread; next = λ s l cs p rest c k e h. next_leaves s l cs c k p rest e h; whole = leaves_all; sampled = sample_leaves_lem }
