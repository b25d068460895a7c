use Rattle.std.proofs.Common.{◌≡◌, ◌+◌, ◌≤◌}
use Rattle.state.specs.Layout.{all_entries}
use Rattle.state.specs.Pool.{first_entry}
use Rattle.lists.proofs.spans.entry_after.Given as goal

abbrev pub invariant-loop-o : goal.invariant-loop-o
invariant-loop-o l = (l.first ≡ first_entry l.s (l.span.odt + l.o)) × (l.first ≤ all_entries)
