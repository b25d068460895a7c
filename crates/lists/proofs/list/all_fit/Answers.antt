use Rattle.std.proofs.Common.{refl, ◌∙◌, arith, rules, tests}
use Rattle.std.proofs.lemmas.Iterator.{YieldsList-from_range}
use Rattle.std.proofs.lemmas.Iterator.Search.{all_from_yields_List}
use Rattle.model.specs.Judge.{all_startable}
use Rattle.model.specs.View.{session_of}
use Rattle.lists.proofs.Counting.{all_below}
use Rattle.lists.proofs.list.all_fit.Goals as goal

pub returns : goal.returns
unfolding all_startable
returns c =
    let s = c.args.s.now in
    let n = c.list_count.result in
    let below = all_below (all_startable (session_of s)) _ n refl (λ k h. refl) in
    all_from_yields_List _ _ _ _ c.all.ensures.ran (YieldsList-from_range 0 n n refl (omega arith)) (λ x b q k. search (rules, tests))
    ∙ below
    ∙ rw c.list_count.ensures.0 refl
