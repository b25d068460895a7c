use Rattle.std.proofs.Common.{refl, ◌∙◌, add-one}
use Rattle.lists.specs.Lists.{stop_selected}
use Rattle.lists.proofs.changes.stop_each_selected.Goals as goal

pub loop-l-init : goal.loop-l-init
unfolding stop_selected
loop-l-init c = refl

pub loop-l-preserved : goal.loop-l-preserved
unfolding stop_selected
loop-l-preserved c = c.select.ensures ∙ rw (c.stop_one.ensures, add-one c.loop-l.l, c.loop-l.invariant)
