use Rattle.std.proofs.Common.{arith, lt-ltb, le-ltb, eq-eqb, ne_eqb}
use Rattle.line.specs.Message.{byte_form}
use Rattle.line.proofs.Begun.{begun_ended, begun_right}
use Rattle.session.specs.Quiet.{len_of}
use Rattle.session.proofs.slice.reads.Goals as goal

pub returns-then-tag-gt2 : goal.returns-then-tag-gt2
returns-then-tag-gt2 c = simp (lt-ltb _ _ c.if-tag-gt2.true)

pub returns-then-k-eq0 : goal.returns-then-k-eq0
returns-then-k-eq0 c = rw c.if-k-eq0.true (simp (le-ltb _ _ c.if-tag-gt2.false))

pub returns-then-len-eq0 : goal.returns-then-len-eq0
returns-then-len-eq0 c = simp (le-ltb _ _ c.if-tag-gt2.false, le-ltb c.args.k 1 (omega (arith, c.if-k-eq0.false)), eq-eqb _ _ c.if-len-eq0.true)

pub returns-then-len-gt-PACKET_MOST : goal.returns-then-len-gt-PACKET_MOST
returns-then-len-gt-PACKET_MOST c = simp (le-ltb _ _ c.if-tag-gt2.false, le-ltb c.args.k 1 (omega (arith, c.if-k-eq0.false)), ne_eqb _ _ c.if-len-eq0.false, lt-ltb _ _ c.if-len-gt-PACKET_MOST.true)

pub returns-then-len-k : goal.returns-then-len-k
returns-then-len-k c = simp (le-ltb _ _ c.if-tag-gt2.false, begun_ended byte_form c.args.k (len_of c.args.s.now) (omega (arith, c.if-k-eq0.false)) (omega (arith, c.if-len-k.true)))

pub returns : goal.returns
returns c = simp (le-ltb _ _ c.if-tag-gt2.false, begun_right byte_form c.args.k (len_of c.args.s.now) (omega (arith, c.if-len-eq0.false)) c.if-len-gt-PACKET_MOST.false (omega (arith, c.if-len-k.false)))
