use Rattle.std.proofs.Common.{◌∙◌}
use Rattle.lists.specs.Lists.{entry_set}
use Rattle.lists.proofs.changes.set_entry.Goals as goal

pub returns : goal.returns
unfolding entry_set
returns c = c.put-3.ensures ∙ rw (c.put-2.ensures, c.put.ensures, c.low.ensures, c.head.ensures, c.running_at.ensures, c.entries_at-at.ensures, c.entries.ensures.0, c.odts.ensures.0)
