use Rattle.std.proofs.Common.{arith}
use Rattle.state.specs.Layout.{all_entries}
use Rattle.state.specs.Pool.{entries_in}
use Rattle.state.proofs.Ranges.{start_suc}
use Rattle.lists.proofs.spans.entries_in.Goals as goal

pub returns : goal.returns
returns c = (omega (arith, c.cut.ensures.0, c.requires.1, start_suc all_entries (entries_in c.args.s.now) c.args.k), c.cut.ensures.1)
