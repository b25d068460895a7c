use Rattle.std.proofs.Common.{refl, sym, subst, ◌∙◌, List, ℕ, take}
use Rattle.state.proofs.Consistent.{consistent_size}
use Rattle.session.specs.Slice.{bytes_of, receive_bytes_of, ReceivesBytes}
use Rattle.lists.proofs.Named.{too_short, front_whole, rest_none}
use Rattle.session.proofs.Slicing.{bytes_so}
use Rattle.session.proofs.receive_bytes.Goals as goal

pub returns-then-not-is_consistent : goal.returns-then-not-is_consistent
unfolding receive_bytes_of
returns-then-not-is_consistent c = simp (sym c.is_consistent.ensures ∙ c.if-not-is_consistent.true) (record { result = refl; taken = refl; state = refl; memory = refl })

pub returns-in_default : goal.returns-in_default
unfolding receive_bytes_of
returns-in_default c = simp (too_short c.args.state.now c.in_default.ensures.cases) (record { result = refl; taken = refl; state = refl; memory = refl })

pub returns : goal.returns
returns c =
    let f = sym c.is_consistent.ensures ∙ c.if-not-is_consistent.false in
    let long = consistent_size c.args.state.now f in
    let e = front_whole c.args.state.now c.in-Some.s.now long c.in-Some.ensures.cases.0 in
    let b = subst (λ (y : List ℕ). ReceivesBytes (bytes_of y c.args.cal.now c.args.meas.now (take c.counted-n.result c.args.bytes.now)) c.receive_all.result c.receive_all.new.s c.receive_all.new.cal) e c.receive_all.ensures in
    let r = subst (λ (y : List ℕ). ReceivesBytes (bytes_of c.args.state.now c.args.cal.now c.args.meas.now (take c.counted-n.result c.args.bytes.now)) c.receive_all.result y c.receive_all.new.cal) (sym (rest_none c.args.state.now c.in-Some._rest.now c.receive_all.new.s long c.in-Some.ensures.cases.1)) b in
    bytes_so c.args.state.now c.args.cal.now c.args.meas.now c.args.bytes.now _ _ _ _ f c.counted-n.ensures.2 r
