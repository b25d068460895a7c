use Rattle.std.proofs.Common.{◌≡◌, ◌+◌, ◌%◌, length, drop}
use Rattle.line.specs.Message.{sum as total}
use Rattle.sums.proofs.sum_of.Given as goal

abbrev pub invariant-loop-run : goal.invariant-loop-run
invariant-loop-run l = (l.sum + total l.rest) % 65536 ≡ total l.part % 65536

abbrev pub decreases-loop-run : goal.decreases-loop-run
decreases-loop-run l = length l.rest

abbrev pub invariant-loop-byte : goal.invariant-loop-byte
invariant-loop-byte l = (l.sum + total (drop l.byte-index l.byte-items)) % 65536 ≡ total l.part % 65536
