use Rattle.std.proofs.Common.{◌-◌, ◌≤◌, ◌<◌, ◌≡◌, length}
use Rattle.state.specs.Layout.{size}
use Rattle.session.specs.Quiet.{placed, Stands, Leads}
use Rattle.session.proofs.slice.pass.Given as goal

abbrev pub invariant-loop-i : goal.invariant-loop-i
invariant-loop-i l = (l.i ≤ l.n) × (length l.s ≡ size) × Stands l.s l.tag l.k × Leads l.bytes l.initial.s 0 (placed l.s l.tag l.k) l.i × (l.k < 256)

abbrev pub decreases-loop-i : goal.decreases-loop-i
decreases-loop-i l = l.n - l.i
