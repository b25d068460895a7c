use Rattle.std.proofs.Common.{◌∙◌, refl}
use Rattle.state.specs.Lists.{stored_length}
use Rattle.lists.proofs.list.stored_length.Goals as goal

pub returns : goal.returns
unfolding stored_length
returns c = (c.known.ensures.0 ∙ rw c.sample_at.ensures refl, c.known.ensures.1)
