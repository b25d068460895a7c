use Rattle.std.proofs.Common.{refl, sym}
use Rattle.session.proofs.Reading.{quiet_so, placed_there, outside_sync, outside_other}
use Rattle.session.proofs.quiet.outside.Goals as goal

pub returns-then-byte-eq-SYNC : goal.returns-then-byte-eq-SYNC
returns-then-byte-eq-SYNC c = quiet_so c.args.s.now _ 0 _ c.args.byte c.requires refl (outside_sync c.args.s.now _ c.args.byte c.told-s c.if-byte-eq-SYNC.true) refl

pub returns : goal.returns
returns c = quiet_so c.args.s.now c.args.s.now 0 _ c.args.byte c.requires refl (outside_other c.args.s.now _ c.args.byte c.told-s c.if-byte-eq-SYNC.false) (sym (placed_there c.args.s.now c.args.s.now 0 _ c.args.byte c.requires refl))
