use Rattle.std.proofs.Common.{◌+◌, get_or, arith}
use Rattle.lists.proofs.Words.{byte_inside, four_held}
use Rattle.lists.proofs.word.inside.Goals as goal

pub returns : goal.returns
returns c =
    let mem = c.args.mem.now in
    let at = c.args.at in
    four_held mem at (get_or mem at 0) (get_or mem (at + 1) 0) (get_or mem (at + 2) 0) (get_or mem (at + 3) 0) _ (omega (arith, c.from_le_bytes.ensures)) (omega (arith, c.type_inv.mem at)) (omega (arith, c.type_inv.mem (at + 1))) (omega (arith, c.type_inv.mem (at + 2))) (omega (arith, c.type_inv.mem (at + 3)))
    (byte_inside mem at (omega (arith, c.requires))) (byte_inside mem (at + 1) (omega (arith, c.requires))) (byte_inside mem (at + 2) (omega (arith, c.requires))) (byte_inside mem (at + 3) (omega (arith, c.requires)))
