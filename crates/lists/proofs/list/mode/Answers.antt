use Rattle.std.proofs.Common.{◌∙◌, refl}
use Rattle.state.specs.Lists.{mode_of}
use Rattle.lists.proofs.list.mode.Goals as goal

pub returns : goal.returns
unfolding mode_of
returns c = (c.known.ensures.0 ∙ rw c.mode_at.ensures refl, c.known.ensures.1)
