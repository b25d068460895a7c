use Rattle.std.proofs.Common.{◌∙◌}
use Rattle.lists.specs.Lists.{switched}
use Rattle.lists.proofs.changes.switch.Goals as goal

pub returns : goal.returns
unfolding switched
returns c = c.drop_packets.ensures ∙ rw (c.put.ensures, c.running_at.ensures, c.odts-odts.ensures.0, c.odts-odts.ensures.1)
