use Rattle.std.proofs.Common.{◌≡◌, ◌+◌, ◌≤◌}
use Rattle.std.proofs.lemmas.List.Edits.{sets}
use Rattle.state.specs.Layout.{entries_at}
use Rattle.model.specs.Model.{sizes_of}
use Rattle.model.specs.Calls.{blocks_in}
use Rattle.model.specs.View.{odt_of}
use Rattle.lists.proofs.events.gather.Given as goal

abbrev pub invariant-loop : goal.invariant-loop
invariant-loop l = (l.at ≡ entries_at (l.first + l.counter)) × (l.s ≡ sets l.initial.s l.from (blocks_in (odt_of l.initial.s l.k) l.memories.cal.bytes.now l.memories.meas.bytes.now l.counter)) × (l.sum ≡ sizes_of (odt_of l.initial.s l.k) l.counter) × (l.sum ≤ l.room)
