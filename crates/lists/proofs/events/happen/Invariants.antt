use Rattle.std.proofs.Common.{◌≡◌, ◌≤◌}
use Rattle.state.specs.Pool.{first_odt, first_entry}
use Rattle.state.specs.Layout.{all_entries}
use Rattle.lists.specs.Event.{tally, Counts}
use Rattle.lists.proofs.events.happen.Given as goal

abbrev pub invariant-loop-l : goal.invariant-loop-l
invariant-loop-l l = Counts (tally l.initial.s l.event l.clock l.cal l.meas l.l) l.s l.sampled l.missed × (l.sampled ≤ l.l) × (l.missed ≤ l.l) × (l.odt ≡ first_odt l.initial.s l.l) × (l.entry ≡ first_entry l.initial.s l.odt) × (l.entry ≤ all_entries)
