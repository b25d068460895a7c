use Rattle.std.proofs.Common.{◌≡◌, length}
use Rattle.lists.specs.Lists.{stop_each}
use Rattle.lists.proofs.changes.stop_all.Given as goal

abbrev pub invariant-loop-l : goal.invariant-loop-l
invariant-loop-l l = (l.s ≡ stop_each l.initial.s l.l) × (length l.s ≡ length l.initial.s)
