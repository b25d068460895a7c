use Rattle.std.proofs.Common.{refl, ◌∙◌, arith, rules, tests}
use Rattle.std.proofs.lemmas.Iterator.{YieldsList-from_range}
use Rattle.std.proofs.lemmas.Iterator.Search.{any_from_yields_List}
use Rattle.state.specs.Layout.{running_at}
use Rattle.state.specs.State.{flag_of}
use Rattle.model.specs.Model.{some_started}
use Rattle.model.specs.View.{session_of}
use Rattle.model.proofs.Shown.{started_at}
use Rattle.lists.proofs.Counting.{any_below}
use Rattle.lists.proofs.list.any_started.Goals as goal

pub returns : goal.returns
unfolding some_started
returns c =
    let s = c.args.s.now in
    let n = c.list_count.result in
    any_from_yields_List (λ l. flag_of s (running_at l)) _ _ _ c.any.ensures.ran (YieldsList-from_range 0 n n refl (omega arith)) (λ x b q k. search (rules, tests))
    ∙ any_below (some_started (session_of s)) (λ l. flag_of s (running_at l)) n refl (λ k h. rw (started_at s k (omega (arith, c.list_count.ensures.0))) refl)
    ∙ rw c.list_count.ensures.0 refl
