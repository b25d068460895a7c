use Rattle.std.proofs.Common.{◌+◌, get_or, arith}
use Rattle.state.proofs.Ranges.{start_suc}
use Rattle.state.proofs.pool.Counts.range.Goals as goal

pub returns : goal.returns
returns c = (c.start-first.ensures.0, omega (arith, c.start-first.ensures.0, c.min.ensures, c.get-count.ensures, start_suc c.args.self.pool (λ i. get_or c.args.s.now (c.args.self.at + i) 0) c.args.n), omega (arith, c.min.ensures, c.start-first.ensures.1))
