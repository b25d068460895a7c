use Rattle.std.proofs.Common.{◌+◌, sym, arith}
use Rattle.state.proofs.Copies.{copied_four}
use Rattle.lists.proofs.alloc.shift_four.Goals as goal

pub returns : goal.returns
returns c = sym (copied_four c.args.s.now c.args.s.now (c.args.at + c.args.d) c.args.at (omega (arith, c.requires)))
