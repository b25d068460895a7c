use Rattle.std.proofs.Common.{sym}
use Rattle.model.proofs.Shown.{unlisted_runs}
use Rattle.lists.proofs.Named.{nothing_named}
use Rattle.lists.proofs.asked.runs.Goals as goal

pub returns-in-None : goal.returns-in-None
returns-in-None c = sym (nothing_named c.args.s.now c.args.l _ c.in-None.ensures (unlisted_runs c.args.s.now c.args.l))
