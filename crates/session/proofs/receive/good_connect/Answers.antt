use Rattle.std.proofs.Common.{arith, eq-eqb, le-ltb, lt-ltb, ne_eqb}
use Rattle.look.proofs.Packet.{packet_length, packet_byte}
use Rattle.model.specs.Heed.{good_connect}
use Rattle.session.proofs.receive.good_connect.Goals as goal

pub returns-then-s-ne255 : goal.returns-then-s-ne255
unfolding good_connect
returns-then-s-ne255 c = rw (packet_byte c.args.s.now c.args.n 0 (omega arith)) (simp (ne_eqb _ _ c.if-s-ne255.true))

pub returns-then-n-lt2 : goal.returns-then-n-lt2
unfolding good_connect
returns-then-n-lt2 c = rw (packet_byte c.args.s.now c.args.n 0 (omega arith), packet_length c.args.s.now c.args.n c.requires.1 c.told-s) (simp (lt-ltb _ _ c.if-n-lt2.true, eq-eqb _ _ c.if-s-ne255.false))

pub returns : goal.returns
unfolding good_connect
returns c = rw (packet_byte c.args.s.now c.args.n 0 (omega arith), packet_length c.args.s.now c.args.n c.requires.1 c.told-s, packet_byte c.args.s.now c.args.n 1 (omega arith)) (simp (le-ltb _ _ c.if-n-lt2.false, eq-eqb _ _ c.if-s-ne255.false))
