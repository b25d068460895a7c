use Rattle.std.proofs.Common.{sym}
use Rattle.model.proofs.Shown.{unlisted_fits}
use Rattle.lists.proofs.Named.{nothing_named}
use Rattle.lists.proofs.asked.fits.Goals as goal

pub returns-in-None : goal.returns-in-None
returns-in-None c = sym (nothing_named c.args.s.now c.args.l _ c.in-None.ensures (unlisted_fits c.args.s.now c.args.l))
