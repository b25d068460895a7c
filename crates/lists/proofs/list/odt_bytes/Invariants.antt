use Rattle.std.proofs.Common.{◌≡◌, ◌*◌, ◌≤◌}
use Rattle.state.specs.Layout.{entry_most}
use Rattle.model.specs.Model.{sizes_of}
use Rattle.model.specs.View.{odt_of}
use Rattle.lists.proofs.list.odt_bytes.Given as goal

abbrev pub invariant-loop-e : goal.invariant-loop-e
invariant-loop-e l = (l.sum ≡ sizes_of (odt_of l.s l.k) l.e) × (l.sum ≤ entry_most * l.e)
