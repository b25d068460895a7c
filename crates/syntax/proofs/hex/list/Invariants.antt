-- The bytes that are left, stored behind those that are there, give the whole.
use Rattle.std.proofs.Common.{◌≡◌, ◌+◌, ◌-◌, ◌*◌, min}
use Rattle.std.proofs.lemmas.List.Edits.{sets}
use Rattle.line.specs.Message.{room}
use Rattle.syntax.specs.Hex.{values_from}
use Rattle.syntax.proofs.hex.list.Given as goal

abbrev pub invariant-loop-i : goal.invariant-loop-i
invariant-loop-i l = sets l.out l.i (values_from (min l.count room - l.i) l.text (l.at + 3 * l.i)) ≡ sets l.initial.out 0 (values_from (min l.count room) l.text l.at)
