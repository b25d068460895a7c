use Rattle.std.proofs.Common.{take, arith, length-take}
use Rattle.line.proofs.Laws.{stored_next, stuff_short, sum_next}
use Rattle.line.proofs.writer.stuff_packet.Goals as goal

pub stuff_byte-at-requires : goal.stuff_byte-at-requires
stuff_byte-at-requires c = (omega (arith, stuff_short (take c.loop-i.i c.args.packet.now), length-take c.loop-i.i c.args.packet.now, c.loop-i.invariant.0.next), omega (arith, c.loop-i.auto.out))

pub loop-i-preserved : goal.loop-i-preserved
loop-i-preserved c = (stored_next c.args.packet.now c.loop-i.i c.loop-i-test.true c.loop-i.invariant.0 c.stuff_byte-at.ensures, omega (arith, sum_next c.args.packet.now c.loop-i.i c.loop-i-test.true))
