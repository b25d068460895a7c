use Rattle.std.proofs.Common.{arith}
use Rattle.state.specs.Layout.{all_odts}
use Rattle.state.specs.Pool.{odts_in}
use Rattle.state.proofs.Ranges.{start_suc}
use Rattle.lists.proofs.spans.odts_in.Goals as goal

pub returns : goal.returns
returns c = (omega (arith, c.cut.ensures.0, c.requires.1, start_suc all_odts (odts_in c.args.s.now) c.args.l), c.cut.ensures.1)
