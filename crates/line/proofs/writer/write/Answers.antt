use Rattle.std.proofs.Common.{◌≡◌, ℕ, set, length, refl, arith, ap, ◌∙◌, length-set, le-ltb, ne_eqb, Ok}
use Rattle.line.specs.Stuffing.{SYNC}
use Rattle.line.specs.Message.{head_in, byte_form}
use Rattle.line.specs.Values.{Written}
use Rattle.line.specs.Writer.{write_of}
use Rattle.line.proofs.Laws.{byte_size, stuff_short, written}
use Rattle.line.proofs.writer.write.Goals as goal

pub stuff_byte-size-requires : goal.stuff_byte-size-requires
stuff_byte-size-requires c = (omega (arith, c.stuff_byte-from.ensures.next, c.stuff_packet-end.ensures.0.next, byte_size c.args.ctr, stuff_short c.args.packet.now), omega (arith, c.stuff_packet-end.auto.out, c.stuff_byte-from.auto.out, length-set {A = ℕ} c.args.out.now 0 SYNC, length-set {A = ℕ} (set c.args.out.now 0 SYNC) 1 (length c.args.packet.now)))

pub returns : goal.returns
unfolding write_of
returns c = let s : c.stuff_packet-end.result.sum ≡ byte_form.checksum (head_in byte_form c.args.ctr c.args.packet.now) = omega (arith, c.stuff_packet-end.ensures.1) in
    let w = written c.args.packet.now c.args.out.now c.args.ctr c.stuff_packet-end.result.sum c.if-n-gt-MOST.false s c.stuff_byte-from.ensures c.stuff_packet-end.ensures.0 c.stuff_byte-size.ensures in
    simp (ne_eqb _ _ c.if-n-eq0.false, le-ltb _ _ c.if-n-gt-MOST.false, le-ltb _ _ c.if-out-lt-ROOM.false) (record { result = ap (λ (n : ℕ). let r : Written = Ok n in r) w.0; bytes = w.1 })
