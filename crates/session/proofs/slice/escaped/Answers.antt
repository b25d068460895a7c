use Rattle.std.proofs.Common.{arith}
use Rattle.session.proofs.Reading.{not_zero, leaves, bad_escape, len_escaped, last_escaped, step_escaped}
use Rattle.session.proofs.slice.escaped.Goals as goal

pub returns-then-byte-gt1 : goal.returns-then-byte-gt1
returns-then-byte-gt1 c = leaves c.args.s.now 2 c.args.k c.args.byte (bad_escape c.args.s.now c.args.k c.args.byte c.told-s (c.requires.0.begun (not_zero 2 (omega arith))) c.requires.1 c.if-byte-gt1.true)

pub returns-then-k-eq0 : goal.returns-then-k-eq0
returns-then-k-eq0 c = leaves c.args.s.now 2 c.args.k c.args.byte (len_escaped c.args.s.now c.args.byte c.told-s c.args.k c.if-k-eq0.true c.if-byte-gt1.false)

pub returns-then-s-k : goal.returns-then-s-k
returns-then-s-k c = leaves c.args.s.now 2 c.args.k c.args.byte (last_escaped c.args.s.now c.args.k c.args.byte c.told-s (c.requires.0.begun (not_zero 2 (omega arith))) (omega (arith, c.if-k-eq0.false)) c.if-s-k.true c.if-byte-gt1.false)

pub returns : goal.returns
returns c = step_escaped c.args.s.now c.args.k c.args.byte c.told-s (omega (arith, c.if-k-eq0.false)) (c.requires.0.begun (not_zero 2 (omega arith))) c.if-s-k.false c.if-byte-gt1.false
