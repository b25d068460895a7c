use Rattle.std.proofs.Common.{sym, refl, subst, ◌∙◌, le-ltb, lt-ltb, List, ℕ}
use Rattle.lists.specs.Slot.{Sends, sent_by, turn_of, slot_of}
use Rattle.state.proofs.Consistent.{consistent_size}
use Rattle.lists.proofs.Named.{too_short, front_whole, rest_none}
use Rattle.lists.proofs.slots.slot.Goals as goal

pub returns-then-not-is_consistent : goal.returns-then-not-is_consistent
unfolding slot_of
returns-then-not-is_consistent c = simp (sym c.is_consistent.ensures ∙ c.if-not-is_consistent.true) (record { result = refl; state = refl; bytes = refl })

pub returns-in_default : goal.returns-in_default
unfolding slot_of
returns-in_default c = simp (too_short c.args.state.now c.in_default.ensures.cases) (record { result = refl; state = refl; bytes = refl })

pub returns-then-out-lt-ROOM : goal.returns-then-out-lt-ROOM
unfolding slot_of
returns-then-out-lt-ROOM c =
    let there = sym c.is_consistent.ensures ∙ c.if-not-is_consistent.false in
    let whole = consistent_size c.args.state.now there in
    let y = rest_none c.args.state.now c.in-Some._rest.now c.in-Some.s.now whole c.in-Some.ensures.cases.1 ∙ front_whole c.args.state.now c.in-Some.s.now whole c.in-Some.ensures.cases.0 in
    simp (there, lt-ltb _ _ c.if-out-lt-ROOM.true) (record { result = refl; state = y; bytes = refl })

pub returns : goal.returns
unfolding slot_of
returns c =
    let there = sym c.is_consistent.ensures ∙ c.if-not-is_consistent.false in
    let whole = consistent_size c.args.state.now there in
    let h = subst (λ (y : List ℕ). Sends (sent_by (turn_of y) y c.args.out.now) c.send.result c.send.new.s c.send.new.out) (front_whole c.args.state.now c.in-Some.s.now whole c.in-Some.ensures.cases.0) c.send.ensures in
    simp (there, le-ltb _ _ c.if-out-lt-ROOM.false) (subst (λ (y : List ℕ). Sends (sent_by (turn_of c.args.state.now) c.args.state.now c.args.out.now) c.send.result y c.send.new.out) (sym (rest_none c.args.state.now c.in-Some._rest.now c.send.new.s whole c.in-Some.ensures.cases.1)) h)
