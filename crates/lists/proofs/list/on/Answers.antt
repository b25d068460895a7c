use Rattle.state.specs.State.{flag_of}
use Rattle.std.proofs.Common.{rules}
use Rattle.lists.proofs.list.on.Goals as goal

pub returns : goal.returns
unfolding flag_of
returns c = search rules
