-- Our slave answers every command with the code of its first fault, and does it exactly if it has none. Assumes nothing.
use Rattle.std.proofs.Common.{◌≡◌, ℕ, ◌≤◌, true, false, List, length, sym, ap, ◌∙◌, subst, le-ltb, Some}
use Rattle.state.specs.State.{consistent}
use Rattle.session.specs.Receive.{Step, obeyed, receive_of}
use Rattle.model.specs.declared.Deed.TheVariants.{Connect}
use Rattle.model.specs.Model.{byte, has_answer}
use Rattle.model.specs.Heed.{good_connect, heeding_in}
use Rattle.model.specs.Answers.{reply_in}
use Rattle.model.specs.View.{session_of, view_of}
use Rattle.views.specs.Faults.{AnswersFirst}
use Rattle.views.proofs.Faults.{answers_first}
use Rattle.views.proofs.Listed.{listed}
use Rattle.demands.specs.Slave.{ours}
use Rattle.demands.specs.Checked.{Checked}
use Rattle.demands.specs.Heard.{packet_ended, read_by}
use Rattle.demands.proofs.Received.{heeded_at, heeds_right, done_answer, command_answer}

good_connect_lem : (p : List ℕ) → byte p 0 ≡ 0xFF → 2 ≤ length p → byte p 1 ≡ 0 → good_connect p ≡ true
unfolding good_connect
good_connect_lem p code long mode = simp (code, le-ltb (length p) 2 long, mode)

module _ (s cal meas : List ℕ) (b : ℕ) (p : List ℕ) (c : consistent s ≡ true) (e : packet_ended s b ≡ Some p) (closed : (session_of s).opened ≡ false) (free : has_answer (view_of s) ≡ false) where
  connected : good_connect p ≡ true → receive_of s cal meas b ≡ obeyed Connect p (read_by s b) cal meas
  unfolding heeding_in
  connected good = heeds_right s cal meas b p c e ∙ heeded_at s cal meas b p c ∙ simp (free, closed, good)

  answered : good_connect p ≡ true → byte (view_of (receive_of s cal meas b).state).answer 0 ≡ 0xFF
  unfolding reply_in
  answered good = ap (λ (xs : List ℕ). byte xs 0) (ap (λ (o : Step). (view_of o.state).answer) (connected good) ∙ done_answer s cal meas b Connect (length p) c tt)

pub ours_checked : Checked ours
ours_checked = record {
  answers = λ s cal meas b p c w.
      subst (AnswersFirst p (session_of s) (length cal) (length meas)) (sym (command_answer s cal meas b p c w)) (answers_first p (session_of s) cal meas (listed s));
  connect_done = λ s cal meas b p c e closed free code long mode. answered s cal meas b p c e closed free (good_connect_lem p code long mode);
}
