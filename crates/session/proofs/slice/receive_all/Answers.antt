use Rattle.std.proofs.Common.{refl}
use Rattle.session.proofs.Feeding.{whole, by_whole}
use Rattle.session.proofs.Slicing.{so_taken, one_received}
use Rattle.session.proofs.slice.receive_all.Goals as goal

pub returns : goal.returns
returns c = so_taken _ _ _ _ (one_received c.args.bytes.now c.args.s.now _ c.args.cal.now c.args.meas.now c.pass-taken.result _ _ _ c.pass-taken.ensures c.if-bytes-taken.false (by_whole _ c.args.cal.now c.args.meas.now _ refl refl (whole c.args.meas.now) c.receive-received.ensures refl refl))
