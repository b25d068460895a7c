use Rattle.std.proofs.Common.{◌≡◌, ◌+◌, ◌≤◌}
use Rattle.state.specs.Layout.{all_entries}
use Rattle.state.specs.Pool.{first_entry}
use Rattle.lists.specs.Event.{captured_odts}
use Rattle.lists.proofs.events.capture.Given as goal

abbrev pub invariant-loop-o : goal.invariant-loop-o
invariant-loop-o l = (l.first ≡ first_entry l.initial.s (l.span.odt + l.o)) × (l.first ≤ all_entries) × (l.s ≡ captured_odts l.initial.s l.span.odt l.clock l.memories.cal.bytes.now l.memories.meas.bytes.now l.o)
