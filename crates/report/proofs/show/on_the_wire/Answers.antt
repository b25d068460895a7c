use Rattle.std.proofs.Common.{sym, ◌∙◌}
use Rattle.std.proofs.lemmas.Bool.{eqb-false}
use Rattle.report.proofs.Verdicts.{verdict_some}
use Rattle.report.proofs.show.on_the_wire.Goals as goal

pub returns : goal.returns
returns c = verdict_some _ _ _ (eqb-false _ _ (sym c.is_empty.ensures ∙ c.if-is_empty.false)) c.check.ensures
