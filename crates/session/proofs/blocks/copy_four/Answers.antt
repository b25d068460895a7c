use Rattle.std.proofs.Common.{sym, arith, length-set}
use Rattle.state.proofs.Copies.{copied_four}
use Rattle.session.proofs.blocks.copy_four.Goals as goal

pub bounds-dst-at-2 : goal.bounds-dst-at-2
bounds-dst-at-2 c = simp length-set (omega (arith, c.requires.0))

pub bounds-dst-at-3 : goal.bounds-dst-at-3
bounds-dst-at-3 c = simp length-set (omega (arith, c.requires.0))

pub bounds-dst-at-4 : goal.bounds-dst-at-4
bounds-dst-at-4 c = simp length-set (omega (arith, c.requires.0))

pub returns : goal.returns
returns c = sym (copied_four c.args.dst.now c.args.src.now c.args.at c.args.from (omega (arith, c.requires.1)))
