use Rattle.std.proofs.Common.{refl, sym, subst, ◌∙◌, ◌++◌, List, ℕ}
use Rattle.state.proofs.Consistent.{consistent_size}
use Rattle.session.specs.Quiet.{Quiet}
use Rattle.session.specs.Receive.{receive_of}
use Rattle.lists.proofs.Named.{too_short, front_whole, rest_none}
use Rattle.session.proofs.Feeding.{whole, by_whole}
use Rattle.session.proofs.Slicing.{quiet_byte, loud}
use Rattle.session.proofs.receive_byte.Goals as goal

pub returns-then-not-is_consistent : goal.returns-then-not-is_consistent
unfolding receive_of
returns-then-not-is_consistent c = simp (sym c.is_consistent.ensures ∙ c.if-not-is_consistent.true) (record { result = refl; state = refl; memory = refl })

pub returns-in_default : goal.returns-in_default
unfolding receive_of
returns-in_default c = simp (too_short c.args.state.now c.in_default.ensures.cases) (record { result = refl; state = refl; memory = refl })

pub returns-then-quiet : goal.returns-then-quiet
unfolding receive_of
returns-then-quiet c =
    let f = sym c.is_consistent.ensures ∙ c.if-not-is_consistent.false in
    let long = consistent_size c.args.state.now f in
    let e = front_whole c.args.state.now c.in-Some.s.now long c.in-Some.ensures.cases.0 in
    let r = rest_none c.args.state.now c.in-Some._rest.now c.quiet.new.s long c.in-Some.ensures.cases.1 in
    let q = subst (λ (y : List ℕ). Quiet y c.args.byte c.quiet.result (c.quiet.new.s ++ c.in-Some._rest.now)) e (subst (λ (y : List ℕ). Quiet c.in-Some.s.now c.args.byte c.quiet.result y) (sym r) c.quiet.ensures) in
    simp f (quiet_byte c.args.state.now c.args.cal.now c.args.meas.now c.args.byte _ _ q c.if-quiet.true)

pub returns : goal.returns
unfolding receive_of
returns c =
    let f = sym c.is_consistent.ensures ∙ c.if-not-is_consistent.false in
    let long = consistent_size c.args.state.now f in
    let e = front_whole c.args.state.now c.in-Some.s.now long c.in-Some.ensures.cases.0 in
    let r = rest_none c.args.state.now c.in-Some._rest.now c.receive.new.s long c.in-Some.ensures.cases.1 in
    simp f (by_whole c.args.state.now c.args.cal.now c.args.meas.now c.args.byte (loud c.in-Some.s.now c.args.byte _ _ c.quiet.ensures c.if-quiet.false ∙ e) refl (whole c.args.meas.now) c.receive.ensures r refl)
