use Rattle.std.proofs.Common.{◌+◌, sym, ap, ◌∙◌, arith}
use Rattle.model.proofs.Shown.{odt_at, list_at, no_list_lem}
use Rattle.model.proofs.Bounded.{up_to_above}
use Rattle.model.specs.Model.{DaqList, Odt, no_odt}
use Rattle.model.specs.View.{odt_of}
use Rattle.state.specs.Pool.{first_odt, odt_count}
use Rattle.lists.proofs.asked.entries.Goals as goal

pub returns-then-list_count-l : goal.returns-then-list_count-l
returns-then-list_count-l c = (sym (ap (λ (x : DaqList). (x.odt c.args.odt).entries) (no_list_lem c.args.s.now c.args.l (omega (arith, c.list_count.ensures.0, c.if-list_count-l.true)))), omega arith)

pub returns-then-odts-odt : goal.returns-then-odts-odt
returns-then-odts-odt c = (sym (ap (λ (x : DaqList). (x.odt c.args.odt).entries) (list_at c.args.s.now c.args.l (omega (arith, c.list_count.ensures.0, c.if-list_count-l.false))) ∙ ap (λ (y : Odt). y.entries) (up_to_above (odt_count c.args.s.now c.args.l) c.args.odt no_odt (λ o. odt_of c.args.s.now (first_odt c.args.s.now c.args.l + o)) (omega (arith, c.odts-odts.ensures.1, c.if-odts-odt.true)))), omega arith)

pub returns : goal.returns
returns c = (rw (c.entries.ensures.1, c.odts-odts.ensures.0) (sym (ap (λ (y : Odt). y.entries) (odt_at c.args.s.now c.args.l (omega (arith, c.list_count.ensures.0, c.if-list_count-l.false)) c.args.odt (omega (arith, c.odts-odts.ensures.1, c.if-odts-odt.false))))), omega (arith, c.entries.ensures.2))
