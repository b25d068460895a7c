use Rattle.std.proofs.Common.{◌≡◌, ◌+◌, ◌%◌, take}
use Rattle.line.specs.Message.{sum}
use Rattle.line.proofs.sum.sum_of.Given as goal

abbrev pub invariant-loop-byte : goal.invariant-loop-byte
invariant-loop-byte l = l.s ≡ (l.before + sum (take l.byte-index l.bytes)) % 256
