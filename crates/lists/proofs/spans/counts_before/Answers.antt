use Rattle.std.proofs.Common.{◌≡◌, ◌+◌, get_or, ap, ◌∙◌, arith}
use Rattle.state.proofs.Ranges.{sum_to, cut_once}
use Rattle.lists.proofs.spans.counts_before.Goals as goal

pub returns : goal.returns
returns c =
    let e : c.loop-i.i ≡ c.args.n = omega arith in
    let z : c.loop-i.sum ≡ sum_to (λ i. get_or c.args.s.now (c.args.at + i) 0) c.args.n = c.loop-i.invariant.0 ∙ ap (sum_to (λ i. get_or c.args.s.now (c.args.at + i) 0)) e in
    (omega (arith, z, c.min.ensures, cut_once c.args.most (λ i. get_or c.args.s.now (c.args.at + i) 0) c.args.n), omega (arith, c.min.ensures))
