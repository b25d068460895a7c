use Rattle.std.proofs.Common.{◌≡◌, ◌+◌, ◌-◌}
use Rattle.state.specs.Bytes.{copied}
use Rattle.lists.proofs.alloc.shift_few.Given as goal

abbrev pub invariant-loop-j : goal.invariant-loop-j
invariant-loop-j l = (l.s ≡ copied l.initial.s (l.at + l.d + l.j) l.initial.s (l.at + l.j) (l.n - l.j))
