-- The place stays within the sheet, and each line takes it further.
use Rattle.std.proofs.Common.{◌-◌, ◌≤◌, length}
use Rattle.sheet.proofs.run.run_lines.Given as goal

abbrev pub invariant-loop-at : goal.invariant-loop-at
invariant-loop-at l = l.at ≤ length l.text

abbrev pub decreases-loop-at : goal.decreases-loop-at
decreases-loop-at l = length l.text - l.at
