-- What is counted, and what is left to count, is what there is.
use Rattle.std.proofs.Common.{◌≡◌, ◌+◌, ◌-◌, ◌*◌}
use Rattle.syntax.specs.Hex.{pairs_from}
use Rattle.line.specs.Message.{room}
use Rattle.syntax.proofs.hex.pairs.Given as goal

abbrev pub invariant-loop-n : goal.invariant-loop-n
invariant-loop-n l = l.n + pairs_from (room - l.n) l.text (l.at + 3 * l.n) ≡ pairs_from room l.text l.at
