use Rattle.std.proofs.Common.{◌≡◌, ◌*◌, ◌≤◌, take}
use Rattle.line.specs.Message.{sum}
use Rattle.state.proofs.pool.Counts.start.Given as goal

abbrev pub invariant-loop-count : goal.invariant-loop-count
invariant-loop-count l = (l.sum ≡ sum (take l.count-index l.count-items)) × (l.sum ≤ 255 * l.count-index)
