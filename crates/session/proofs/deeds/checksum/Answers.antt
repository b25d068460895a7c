use Rattle.std.proofs.Common.{arith, length}
use Rattle.state.proofs.Inside.{inside_le}
use Rattle.state.specs.Memory.{pick}
use Rattle.session.proofs.deeds.checksum.Goals as goal

pub overflow_add-address : goal.overflow_add-address
overflow_add-address c = omega (arith, (inside_le c.args.address c.args.n (pick c.args.extension (length c.args.cal.now) (length c.args.meas.now)) c.requires.1).1)
