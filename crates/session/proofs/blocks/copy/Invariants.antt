use Rattle.std.proofs.Common.{◌+◌, ◌-◌, ◌≤◌, ◌≡◌, length}
use Rattle.state.specs.Bytes.{copied}
use Rattle.session.proofs.blocks.copy.Given as goal

abbrev pub invariant-loop-i : goal.invariant-loop-i
invariant-loop-i l = (l.i ≤ l.n) × (l.dst ≡ copied l.initial.dst (l.at + l.i) l.src (l.from + l.i) (l.n - l.i)) × (length l.dst ≡ length l.initial.dst)

abbrev pub decreases-loop-i : goal.decreases-loop-i
decreases-loop-i l = l.i
