use Rattle.std.proofs.Common.{refl, ◌∙◌, add-one}
use Rattle.lists.specs.Lists.{stop_each}
use Rattle.lists.proofs.changes.stop_all.Goals as goal

pub loop-l-init : goal.loop-l-init
unfolding stop_each
loop-l-init c = (refl, refl)

pub loop-l-preserved : goal.loop-l-preserved
unfolding stop_each
loop-l-preserved c = (c.select.ensures ∙ rw (c.stop.ensures, add-one c.loop-l.l, c.loop-l.invariant.0), c.select.auto.s ∙ c.stop.auto.s ∙ c.loop-l.invariant.1)
