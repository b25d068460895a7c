use Rattle.std.proofs.Common.{◌≡◌, ◌+◌, get_or, ap, ◌∙◌, arith, take_all}
use Rattle.line.proofs.Laws.{sum_next}
use Rattle.line.specs.Message.{sum}
use Rattle.state.proofs.Ranges.{sum_to, cut_once}
use Rattle.state.proofs.Sets.{sum_block}
use Rattle.state.proofs.pool.Counts.start.Goals as goal

pub loop-count-preserved : goal.loop-count-preserved
loop-count-preserved c = (omega (arith, sum_next c.block-count-items.result.now c.loop-count.count-index c.loop-count-test.true), omega (arith, c.type_inv.count-items c.loop-count.count-index))

pub returns : goal.returns
returns c =
    let all : c.loop-count.sum ≡ sum_to (λ i. get_or c.args.s.now (c.args.self.at + i) 0) c.args.n =
    c.loop-count.invariant.0 ∙ ap sum (take_all c.loop-count.count-index c.block-count-items.result.now c.loop-count-test.false ∙ c.block-count-items.ensures) ∙ sum_block c.args.s.now c.args.self.at c.args.n in
    (omega (arith, all, c.min.ensures, cut_once c.args.self.pool (λ i. get_or c.args.s.now (c.args.self.at + i) 0) c.args.n), omega (arith, c.min.ensures))
