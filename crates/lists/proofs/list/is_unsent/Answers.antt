use Rattle.std.proofs.Common.{◌+◌, refl, ◌∙◌, ltb, arith, rules, tests}
use Rattle.std.proofs.lemmas.Iterator.{YieldsList-from_range}
use Rattle.std.proofs.lemmas.Iterator.Search.{any_from_yields_List}
use Rattle.state.specs.Lists.{stored_length}
use Rattle.model.specs.Model.{some_packet}
use Rattle.model.specs.View.{session_of}
use Rattle.model.proofs.Shown.{odts_at_lem, some_next}
use Rattle.lists.proofs.Counting.{any_from}
use Rattle.lists.proofs.list.is_unsent.Goals as goal

pub returns : goal.returns
unfolding some_packet
returns c =
    let s = c.args.s.now in
    let l = c.args.l in
    let k = c.args.k in
    let n = c.args.n in
    any_from_yields_List (λ i. ltb 0 (stored_length s i)) _ _ _ c.any.ensures.ran (YieldsList-from_range k (k + n) n refl (omega arith)) (λ x b q k. search (rules, tests))
    ∙ any_from (some_packet ((session_of s).list l)) (λ i. ltb 0 (stored_length s i)) k n refl (λ j h. some_next s l c.requires.0 j (omega (arith, c.requires.2)) c.told-s ∙ rw c.requires.1 refl)
    ∙ rw (odts_at_lem s l c.requires.0, c.requires.2) refl
