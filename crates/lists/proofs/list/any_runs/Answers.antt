use Rattle.std.proofs.Common.{refl, ◌∙◌, arith, rules, tests}
use Rattle.std.proofs.lemmas.Iterator.{YieldsList-from_range}
use Rattle.std.proofs.lemmas.Iterator.Search.{any_from_yields_List}
use Rattle.model.specs.Model.{some_runs}
use Rattle.model.specs.View.{session_of}
use Rattle.lists.specs.Lists.{runs_of}
use Rattle.lists.proofs.Counting.{any_below}
use Rattle.lists.proofs.list.any_runs.Goals as goal

pub returns : goal.returns
unfolding some_runs
returns c =
    let s = c.args.s.now in
    let n = c.list_count.result in
    any_from_yields_List (runs_of s) _ _ _ c.any.ensures.ran (YieldsList-from_range 0 n n refl (omega arith)) (λ x b q k. search (rules, tests))
    ∙ any_below (some_runs (session_of s)) (runs_of s) n refl (λ k h. refl)
    ∙ rw c.list_count.ensures.0 refl
