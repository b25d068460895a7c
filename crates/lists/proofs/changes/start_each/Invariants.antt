use Rattle.std.proofs.Common.{◌≡◌}
use Rattle.lists.specs.Lists.{start_selected}
use Rattle.lists.proofs.changes.start_each.Given as goal

abbrev pub invariant-loop-l : goal.invariant-loop-l
invariant-loop-l l = (l.s ≡ start_selected l.initial.s l.l)
