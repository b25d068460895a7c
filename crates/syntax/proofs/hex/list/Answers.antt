use Rattle.std.proofs.Common.{arith}
use Rattle.syntax.proofs.Lists.{list_last}
use Rattle.syntax.proofs.hex.list.Goals as goal

pub returns : goal.returns
returns c = list_last _ _ c.args.text.now _ _ _ (omega arith) c.loop-i.invariant
