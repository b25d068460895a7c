-- The end of the line stays the same.
use Rattle.std.proofs.Common.{◌≡◌, ◌+◌, drop}
use Rattle.syntax.specs.Form.{line_length}
use Rattle.syntax.proofs.form.line_end.Given as goal

abbrev pub invariant-loop-at : goal.invariant-loop-at
invariant-loop-at l = l.at + line_length (drop l.at l.text) ≡ l.from + line_length (drop l.from l.text)
