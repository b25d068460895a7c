use Rattle.std.proofs.Common.{ap, ◌+◌, ◌∙◌, eq-eqb, List, ℕ}
use Rattle.state.specs.Pool.{first_odt}
use Rattle.lists.specs.Alloc.{entries_allocated}
use Rattle.lists.proofs.Named.{front_whole, rest_none}
use Rattle.lists.proofs.alloc.alloc_entries.Goals as goal

pub returns-in-Some : goal.returns-in-Some
returns-in-Some c =
    let whole = c.if-s-ne-STATE.false in
    let y = front_whole c.args.s.now c.in-Some.s.now whole c.in-Some.ensures.cases.0 in
    simp (eq-eqb _ _ whole) (rest_none c.args.s.now c.in-Some._rest.now c.make_entries.new.s whole c.in-Some.ensures.cases.1 ∙ c.make_entries.ensures ∙ ap (λ (k : ℕ). entries_allocated c.in-Some.s.now (k + c.args.odt) c.args.n) c.odts.ensures.0 ∙ ap (λ (x : List ℕ). entries_allocated x (first_odt x c.args.l + c.args.odt) c.args.n) y)
