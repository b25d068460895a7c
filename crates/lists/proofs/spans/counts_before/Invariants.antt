use Rattle.std.proofs.Common.{◌≡◌, ◌+◌, ◌*◌, ◌≤◌, get_or}
use Rattle.state.proofs.Ranges.{sum_to}
use Rattle.lists.proofs.spans.counts_before.Given as goal

abbrev pub invariant-loop-i : goal.invariant-loop-i
invariant-loop-i l = (l.sum ≡ sum_to (λ j. get_or l.s (l.at + j) 0) l.i) × (l.sum ≤ 255 * l.i)
