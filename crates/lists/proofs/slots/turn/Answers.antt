use Rattle.std.proofs.Common.{cond, sym, refl, ◌∙◌, Some, None}
use Rattle.state.specs.State.{waits, flag_of}
use Rattle.state.specs.Layout.{last_at}
use Rattle.model.specs.Calls.{round_in}
use Rattle.model.specs.View.{session_of}
use Rattle.model.proofs.Shown.{turn_at}
use Rattle.lists.proofs.Round.{turn_once}
use Rattle.lists.proofs.Sending.{numbered_or, numbered_answer}
use Rattle.lists.proofs.slots.turn.Goals as goal
use Rattle.model.specs.declared.Sender.TheVariants.{Answer}

pub returns-then-answer_first : goal.returns-then-answer_first
returns-then-answer_first c = rw (turn_at c.args.s.now c.told-s, turn_once (waits c.args.s.now) (flag_of c.args.s.now last_at) _, sym c.answer_first.ensures ∙ c.if-answer_first.true)

pub returns : goal.returns
returns c = rw (turn_at c.args.s.now c.told-s, turn_once (waits c.args.s.now) (flag_of c.args.s.now last_at) _, sym c.answer_first.ensures ∙ c.if-answer_first.false) (c.or.ensures ∙ rw (c.lists_turn.ensures, c.answer_behind.ensures) (sym (numbered_or c.args.s.now (round_in (session_of c.args.s.now)) (cond (waits c.args.s.now) (Some Answer) None) ∙ rw (numbered_answer c.args.s.now (waits c.args.s.now)) refl)))
