use Rattle.std.proofs.Common.{◌∙◌}
use Rattle.lists.specs.Alloc.{lists_allocated}
use Rattle.lists.proofs.alloc.alloc_lists.Goals as goal

pub returns : goal.returns
unfolding lists_allocated
returns c = c.put-2.ensures ∙ rw (c.put.ensures, c.clear.ensures, c.wrapping_add_u8.ensures.value)
