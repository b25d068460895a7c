use Rattle.std.proofs.Common.{sym, ◌∙◌, arith}
use Rattle.state.proofs.Allocated.{lists_most}
use Rattle.model.proofs.Shown.{startable_at}
use Rattle.lists.proofs.list.may_start.Goals as goal

pub selected-requires : goal.selected-requires
selected-requires c = omega (arith, c.requires, lists_most c.args.s.now)

pub returns-then-not-selected : goal.returns-then-not-selected
returns-then-not-selected c = rw (startable_at c.args.s.now c.args.l c.requires) (simp (sym c.selected.ensures ∙ c.if-not-selected.true))

pub span-requires : goal.span-requires
span-requires c = omega (arith, c.requires, lists_most c.args.s.now)

pub returns : goal.returns
returns c = rw (startable_at c.args.s.now c.args.l c.requires) (simp (sym c.selected.ensures ∙ c.if-not-selected.false, sym c.runs.ensures ∙ c.if-runs.false) c.fit.ensures)
