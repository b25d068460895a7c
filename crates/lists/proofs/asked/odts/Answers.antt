use Rattle.std.proofs.Common.{sym, ap, ◌∙◌, arith}
use Rattle.model.proofs.Shown.{odts_at_lem, no_list_lem}
use Rattle.model.specs.Model.{DaqList}
use Rattle.lists.proofs.asked.odts.Goals as goal

pub returns-then-l-list_count : goal.returns-then-l-list_count
returns-then-l-list_count c = (c.odts.ensures.1 ∙ sym (odts_at_lem c.args.s.now c.args.l (omega (arith, c.list_count.ensures.0, c.if-l-list_count.true))), omega (arith, c.odts.ensures.2))

pub returns : goal.returns
returns c = (sym (ap (λ (x : DaqList). x.odts) (no_list_lem c.args.s.now c.args.l (omega (arith, c.list_count.ensures.0, c.if-l-list_count.false)))), omega arith)
