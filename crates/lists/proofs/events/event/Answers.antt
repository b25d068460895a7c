use Rattle.std.proofs.Common.{sym, refl, subst, ◌∙◌, ap₂, le-leb, List, ℕ}
use Rattle.std.proofs.lemmas.Bool.{lt-leb}
use Rattle.lists.specs.Event.{Counts, tally, event_of}
use Rattle.state.specs.Pool.{list_count}
use Rattle.state.proofs.Consistent.{consistent_size}
use Rattle.lists.proofs.Named.{too_short, front_whole, rest_none}
use Rattle.words.specs.Values.{event_done}
use Rattle.lists.proofs.events.event.Goals as goal

pub returns-then-not-is_consistent : goal.returns-then-not-is_consistent
unfolding event_of
returns-then-not-is_consistent c = simp (sym c.is_consistent.ensures ∙ c.if-not-is_consistent.true) (record { result = refl; state = refl })

pub returns-in_default : goal.returns-in_default
unfolding event_of
returns-in_default c = simp (too_short c.args.state.now c.in_default.ensures.cases) (record { result = refl; state = refl })

pub returns-then-number : goal.returns-then-number
unfolding event_of
returns-then-number c =
    let there = sym c.is_consistent.ensures ∙ c.if-not-is_consistent.false in
    let whole = consistent_size c.args.state.now there in
    let y = rest_none c.args.state.now c.in-Some._rest.now c.in-Some.s.now whole c.in-Some.ensures.cases.1 ∙ front_whole c.args.state.now c.in-Some.s.now whole c.in-Some.ensures.cases.0 in
    simp (there, le-leb _ _ c.if-number.true) (record { result = refl; state = y })

pub returns : goal.returns
unfolding event_of
returns c =
    let there = sym c.is_consistent.ensures ∙ c.if-not-is_consistent.false in
    let whole = consistent_size c.args.state.now there in
    let h = subst (λ (y : List ℕ). Counts (tally y c.args.number c.args.clock c.args.cal.now c.args.meas.now (list_count y)) c.happen.new.s c.happen.result.sampled c.happen.result.missed) (front_whole c.args.state.now c.in-Some.s.now whole c.in-Some.ensures.cases.0) c.happen.ensures in
    simp (there, lt-leb _ _ c.if-number.false) (record { result = ap₂ event_done h.sampled h.missed; state = rest_none c.args.state.now c.in-Some._rest.now c.happen.new.s whole c.in-Some.ensures.cases.1 ∙ h.state })
