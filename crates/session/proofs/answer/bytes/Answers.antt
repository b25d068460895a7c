use Rattle.std.proofs.Common.{◌∙◌, add-one}
use Rattle.state.specs.Bytes.{copied}
use Rattle.state.specs.State.{answered}
use Rattle.state.proofs.Sets.{block_length}
use Rattle.session.proofs.answer.bytes.Goals as goal

pub returns : goal.returns
unfolding answered copied
returns c = c.copy.ensures ∙ rw (block_length c.args.mem.now c.args.at c.args.n c.requires.1, add-one)
