use Rattle.std.proofs.Common.{◌+◌, sym, arith}
use Rattle.state.specs.Memory.{byte_of}
use Rattle.lists.proofs.Words.{byte_outside, four_held}
use Rattle.lists.proofs.word.Memory.across.Goals as goal

pub returns : goal.returns
unfolding byte_of
returns c =
    let mem = c.args.self.now.bytes.now in
    let at = c.args.at in
    four_held mem at c.byte.result c.byte-2.result c.byte-3.result 0 _ (omega (arith, c.from_le_bytes.ensures)) c.byte.type_inv c.byte-2.type_inv c.byte-3.type_inv (omega arith)
    c.byte.ensures c.byte-2.ensures c.byte-3.ensures (sym (byte_outside mem (at + 3) (omega (arith, c.requires.1))))
