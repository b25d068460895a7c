use Rattle.std.proofs.Common.{arith}
use Rattle.lists.proofs.word.put.Goals as goal

pub put_four-requires : goal.put_four-requires
put_four-requires c = omega (arith, c.requires.2, c.if-n-eq4.true)

pub returns-then-n-eq4 : goal.returns-then-n-eq4
returns-then-n-eq4 c = rw c.if-n-eq4.true c.put_four.ensures

pub put_few-requires : goal.put_few-requires
put_few-requires c = (c.requires.0, omega (arith, c.requires.1, c.if-n-eq4.false), c.requires.2)
