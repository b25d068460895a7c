use Rattle.std.proofs.Common.{◌≡◌}
use Rattle.lists.specs.Lists.{stop_selected}
use Rattle.lists.proofs.changes.stop_each_selected.Given as goal

abbrev pub invariant-loop-l : goal.invariant-loop-l
invariant-loop-l l = (l.s ≡ stop_selected l.initial.s l.l)
