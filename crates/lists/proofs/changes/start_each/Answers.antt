use Rattle.std.proofs.Common.{refl, ◌∙◌, add-one, arith}
use Rattle.lists.specs.Lists.{start_selected}
use Rattle.lists.proofs.Steady.{start_lists}
use Rattle.lists.proofs.changes.start_each.Goals as goal

pub loop-l-init : goal.loop-l-init
unfolding start_selected
loop-l-init c = refl

pub start_one-requires : goal.start_one-requires
start_one-requires c = rw (c.loop-l.invariant, start_lists c.args.s.now c.loop-l.l) (omega (arith, c.list_count-l-end.ensures.0))

pub loop-l-preserved : goal.loop-l-preserved
unfolding start_selected
loop-l-preserved c = c.select.ensures ∙ rw (c.start_one.ensures, add-one c.loop-l.l, c.loop-l.invariant)
