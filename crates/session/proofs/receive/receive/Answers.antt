use Rattle.std.proofs.Common.{refl}
use Rattle.session.proofs.Feeding.{whole, whole_back, by_whole}
use Rattle.session.proofs.receive.receive.Goals as goal

pub returns : goal.returns
returns c = by_whole c.args.s.now c.args.cal.now c.args.meas.now c.args.byte refl (whole c.args.cal.now) (whole c.args.meas.now) c.read.ensures refl (whole_back c.args.cal.now _)
