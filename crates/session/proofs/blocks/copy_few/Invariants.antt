use Rattle.std.proofs.Common.{◌≡◌, ◌+◌, ◌-◌}
use Rattle.state.specs.Bytes.{copied}
use Rattle.session.proofs.blocks.copy_few.Given as goal

abbrev pub invariant-loop-i : goal.invariant-loop-i
invariant-loop-i l = l.dst ≡ copied l.initial.dst (l.at + l.i) l.src (l.from + l.i) (l.n - l.i)
