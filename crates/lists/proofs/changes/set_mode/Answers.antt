use Rattle.std.proofs.Common.{◌∙◌}
use Rattle.lists.specs.Lists.{mode_set}
use Rattle.lists.proofs.changes.set_mode.Goals as goal

pub returns : goal.returns
unfolding mode_set
returns c = c.put-2.ensures ∙ rw (c.put.ensures, c.mode_at.ensures, c.running_at.ensures, c.wrapping_add_u8.ensures.value)
