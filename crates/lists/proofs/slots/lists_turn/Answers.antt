use Rattle.std.proofs.Common.{sym, ap, ◌∙◌}
use Rattle.model.specs.View.{session_of}
use Rattle.model.proofs.Shown.{open_at_lem}
use Rattle.lists.specs.Slot.{numbered_in}
use Rattle.lists.proofs.Round.{closed_round}
use Rattle.lists.proofs.slots.lists_turn.Goals as goal

pub returns : goal.returns
returns c = ap (numbered_in c.args.s.now) (sym (closed_round (session_of c.args.s.now) (open_at_lem c.args.s.now ∙ sym c.on.ensures ∙ c.if-on.false)))
