use Rattle.std.proofs.Common.{arith}
use Rattle.state.proofs.Sets.{cleared_part}
use Rattle.state.proofs.bytes.clear.Goals as goal

pub returns : goal.returns
returns c = cleared_part c.args.s.now c.fill.new.self c.args.at c.args.n c.min-from.result _ c.min-from.ensures (omega (arith, c.min-size.ensures)) (c.fill.ensures.after (λ y e. e))
