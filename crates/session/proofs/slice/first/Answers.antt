use Rattle.std.proofs.Common.{arith}
use Rattle.session.proofs.Reading.{leaves, len_wrong, len_long, step_len}
use Rattle.session.proofs.slice.first.Goals as goal

pub returns-then-byte-eq0 : goal.returns-then-byte-eq0
returns-then-byte-eq0 c = leaves c.args.s.now 1 0 c.args.byte (len_wrong c.args.s.now c.args.byte c.told-s (rw c.if-byte-eq0.true) c.requires.0 c.requires.1)

pub returns-then-byte-gt-PACKET_MOST : goal.returns-then-byte-gt-PACKET_MOST
returns-then-byte-gt-PACKET_MOST c = leaves c.args.s.now 1 0 c.args.byte (len_wrong c.args.s.now c.args.byte c.told-s (len_long c.args.byte c.if-byte-gt-PACKET_MOST.true) c.requires.0 c.requires.1)

pub returns : goal.returns
returns c = step_len c.args.s.now c.args.byte c.told-s (omega (arith, c.if-byte-eq0.false)) c.if-byte-gt-PACKET_MOST.false
