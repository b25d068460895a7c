use Rattle.std.proofs.Common.{◌∙◌, arith, length-set}
use Rattle.replay.proofs.Lines.{rest_next, rest_last}
use Rattle.replay.proofs.text.put_rest.Goals as goal

pub loop-byte-preserved : goal.loop-byte-preserved
loop-byte-preserved c =
    (omega arith, rw c.put_byte.ensures (rest_next _ c.args.bytes.now c.loop-byte.to c.loop-byte.byte-index c.loop-byte-test.true ∙ c.loop-byte.invariant.1), c.put_byte.auto.out ∙ simp length-set c.loop-byte.invariant.2)

pub returns : goal.returns
returns c = rest_last c.args.bytes.now _ _ _ _ c.loop-byte.byte-index c.loop-byte-test.false c.loop-byte.auto.byte-index-end c.loop-byte.invariant.0 c.loop-byte.invariant.1
