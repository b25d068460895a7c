use Rattle.std.proofs.Common.{◌∙◌}
use Rattle.lists.specs.Alloc.{odts_allocated}
use Rattle.lists.proofs.alloc.alloc_odts.Goals as goal

pub returns : goal.returns
unfolding odts_allocated
returns c = c.put.ensures ∙ rw (c.clear.ensures, c.drop_packets.ensures)
