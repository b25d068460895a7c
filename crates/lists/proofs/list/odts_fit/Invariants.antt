use Rattle.std.proofs.Common.{◌≡◌, ◌+◌, ◌*◌, ◌≤◌, true}
use Rattle.state.specs.Layout.{stored_most, all_entries}
use Rattle.state.specs.Pool.{first_entry}
use Rattle.model.specs.Model.{all_bytes, each_fits}
use Rattle.model.specs.View.{session_of}
use Rattle.lists.proofs.list.odts_fit.Given as goal

abbrev pub invariant-loop-o : goal.invariant-loop-o
invariant-loop-o l = (l.first ≡ first_entry l.s (l.span.odt + l.o)) × (l.first ≤ all_entries) × (l.sum ≡ all_bytes ((session_of l.s).list l.l) l.o) × (each_fits ((session_of l.s).list l.l) l.o ≡ true) × (l.sum ≤ stored_most * l.o)
