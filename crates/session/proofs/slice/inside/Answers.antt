use Rattle.std.proofs.Common.{arith}
use Rattle.session.proofs.Reading.{not_zero, leaves, last_inside, step_plain}
use Rattle.session.proofs.slice.inside.Goals as goal

pub returns-then-s-k : goal.returns-then-s-k
returns-then-s-k c = leaves c.args.s.now 1 c.args.k c.args.byte (last_inside c.args.s.now c.args.k c.args.byte c.told-s (c.requires.0.begun (not_zero 1 (omega arith))) c.requires.1 c.if-s-k.true c.requires.2 c.requires.3)

pub returns : goal.returns
returns c = step_plain c.args.s.now c.args.k c.args.byte c.told-s c.requires.1 (c.requires.0.begun (not_zero 1 (omega arith))) c.if-s-k.false c.requires.2 c.requires.3
