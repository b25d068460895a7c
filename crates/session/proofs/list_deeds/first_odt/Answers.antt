use Rattle.std.proofs.Common.{sym, ◌∙◌, arith}
use Rattle.model.specs.View.{session_of}
use Rattle.model.proofs.Shown.{first_of_lem}
use Rattle.session.proofs.list_deeds.first_odt.Goals as goal

pub returns : goal.returns
unfolding session_of
returns c = c.odts.ensures.0 ∙ sym (first_of_lem c.args.s.now c.args.l (omega (arith, c.requires)))
