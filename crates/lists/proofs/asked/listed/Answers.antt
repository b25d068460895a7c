use Rattle.std.proofs.Common.{◌≤◌, arith, eq-eqb, le-ltb}
use Rattle.state.specs.Pool.{list_count}
use Rattle.lists.proofs.asked.listed.Goals as goal

pub returns-then-list_count-l : goal.returns-then-list_count-l
returns-then-list_count-l c =
    let few : list_count c.args.s.now ≤ c.args.l = omega (arith, c.if-list_count-l.true, c.list_count.ensures.0) in
    simp (eq-eqb _ _ c.in_ok-whole.ensures.0, le-ltb _ _ few)
