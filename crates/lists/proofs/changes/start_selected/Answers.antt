use Rattle.std.proofs.Common.{ap, ◌∙◌, eq-eqb, List, ℕ}
use Rattle.state.specs.Pool.{list_count}
use Rattle.lists.specs.Lists.{start_selected}
use Rattle.lists.proofs.Named.{front_whole, rest_none}
use Rattle.lists.proofs.changes.start_selected.Goals as goal

pub returns-in-Some : goal.returns-in-Some
returns-in-Some c =
    let whole = c.if-s-ne-STATE.false in
    let y = front_whole c.args.s.now c.in-Some.s.now whole c.in-Some.ensures.cases.0 in
    simp (eq-eqb _ _ whole) (rest_none c.args.s.now c.in-Some._rest.now c.start_each.new.s whole c.in-Some.ensures.cases.1 ∙ c.start_each.ensures ∙ ap (λ (x : List ℕ). start_selected x (list_count x)) y)
