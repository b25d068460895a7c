use Rattle.std.proofs.Common.{◌≤◌, ◌≡◌, length}
use Rattle.state.specs.Layout.{size}
use Rattle.session.specs.Quiet.{Runs}
use Rattle.session.proofs.slice.run.Given as goal

abbrev pub invariant-loop-i : goal.invariant-loop-i
invariant-loop-i l = (l.i ≤ l.most) × (length l.s ≡ size) × Runs l.bytes l.initial.s l.k l.from l.i l.s
