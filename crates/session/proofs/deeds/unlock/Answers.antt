use Rattle.std.proofs.Common.{◌∙◌}
use Rattle.model.specs.Answers.{reply_in}
use Rattle.model.specs.View.{session_of}
use Rattle.session.specs.Perform.{effect}
use Rattle.session.proofs.Masks.{unlocked_mask}
use Rattle.session.proofs.deeds.unlock.Goals as goal

pub returns : goal.returns
unfolding effect reply_in session_of
returns c = c.put.ensures ∙ rw (c.mask-mask.ensures, c.set_seed.ensures, c.unlock.ensures, unlocked_mask c.args.s.now c.args.resource c.told-s)
