use Rattle.std.proofs.Common.{◌∙◌}
use Rattle.lists.specs.Alloc.{entries_allocated}
use Rattle.lists.proofs.alloc.make_entries.Goals as goal

pub returns : goal.returns
unfolding entries_allocated
returns c = c.set_pointer.ensures ∙ rw (c.put.ensures, c.make_room.ensures, c.pointer-pointer.ensures, c.entries-first.ensures.0, c.entry_total-total.ensures.0)
