use Rattle.std.proofs.Common.{arith, ap, ◌∙◌, length}
use Rattle.state.proofs.Inside.{inside_le}
use Rattle.state.specs.Memory.{pick}
use Rattle.session.proofs.Data.{pick_length}
use Rattle.session.proofs.deeds.upload.Goals as goal

pub overflow_add-behind : goal.overflow_add-behind
overflow_add-behind c = omega (arith, (inside_le c.args.address c.args.n (pick c.args.extension (length c.args.cal.now) (length c.args.meas.now)) c.requires.1).1)

pub bytes-requires : goal.bytes-requires
bytes-requires c = (c.requires.0, omega (arith, (inside_le c.args.address c.args.n (pick c.args.extension (length c.args.cal.now) (length c.args.meas.now)) c.requires.1).0, ap length c.memory.ensures ∙ pick_length c.args.extension c.args.cal.now c.args.meas.now))
