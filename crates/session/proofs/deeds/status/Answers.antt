use Rattle.std.proofs.Common.{◌∙◌, eq-eqb}
use Rattle.model.specs.Answers.{reply_in}
use Rattle.model.specs.View.{session_of}
use Rattle.session.specs.Perform.{effect}
use Rattle.state.specs.State.{mask_of}
use Rattle.session.proofs.deeds.status.Goals as goal

pub returns : goal.returns
unfolding effect reply_in session_of mask_of
returns c = c.put.ensures ∙ rw (c.running_bit-running.ensures, c.any_runs.ensures, eq-eqb _ _ c.told-s, c.mask-mask.ensures)
