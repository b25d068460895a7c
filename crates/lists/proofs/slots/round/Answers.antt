use Rattle.std.proofs.Common.{◌≡◌, ℕ, ◌<◌, ◌+◌, ◌-◌, sym, ap, subst, ◌∙◌, arith, None}
use Rattle.std.specs.Option.{is_some}
use Rattle.state.specs.Pool.{list_count, first_odt, round_of}
use Rattle.model.specs.Calls.{packet_in, or_else, round_from, round_in}
use Rattle.model.specs.View.{session_of}
use Rattle.state.proofs.Allocated.{first_most_lem, round_there, round_most}
use Rattle.lists.specs.Slot.{numbered_in}
use Rattle.lists.proofs.Round.{step_there, round_at_lem, round_after_lem, after_there, after_first}
use Rattle.lists.proofs.Sending.{somebody, nobody}
use Rattle.lists.proofs.slots.round.Goals as goal

pub returns-then-count-eq0 : goal.returns-then-count-eq0
unfolding round_from
returns-then-count-eq0 c =
    let s = c.args.s.now in
    let none : list_count s ≡ 0 = sym c.list_count-count.ensures.0 ∙ c.if-count-eq0.true in
    sym (ap (numbered_in s) (subst (λ (n : ℕ). round_in (session_of s) ≡ round_from n (packet_in (session_of s)) (round_of s) n) none (round_at_lem s)))

pub first_odt-k-requires : goal.first_odt-k-requires
first_odt-k-requires c = rw c.round-l.ensures (round_most c.args.s.now)

pub loop-init : goal.loop-init
loop-init c =
    let all : c.list_count-count.result - 0 ≡ c.list_count-count.result = omega arith in
    (rw (all, c.list_count-count.ensures.0, c.round-l.ensures) (sym (round_at_lem c.args.s.now)), c.first_odt-k.ensures.0, c.first_odt-k.ensures.1, λ h. rw (c.list_count-count.ensures.0, c.round-l.ensures) (round_there c.args.s.now (omega (arith, c.list_count-count.ensures.0))))

pub loop-preserved : goal.loop-preserved
loop-preserved c =
    let s = c.args.s.now in
    let count = c.list_count-count.result in
    let next = packet_in (session_of s) in
    let rest = count - (c.loop.counter + 1) in
    let there : c.loop.l < count = c.loop.invariant.3 (omega arith) in
    let none : next c.loop.l ≡ None = nobody s (next c.loop.l) (ap is_some (sym c.packet_in-turn.ensures) ∙ sym c.is_some.ensures ∙ c.if-is_some.false) in
    let one : round_from count next c.loop.l (count - c.loop.counter) ≡ round_from count next (c.loop.l + 1) rest = step_there count next c.loop.l (count - c.loop.counter) rest there (omega arith) ∙ rw none in
    let k : c.first_after-k.result ≡ first_odt s c.list_after-l.result = c.first_after-k.ensures ∙ rw (c.loop.invariant.1, c.odts_in-n.ensures.0, c.list_after-l.ensures) (after_first s count c.loop.l) in
    (rw c.list_after-l.ensures (sym (round_after_lem count next c.loop.l rest there)) ∙ sym one ∙ c.loop.invariant.0, k, rw k (first_most_lem s c.list_after-l.result), λ h. rw c.list_after-l.ensures (after_there count c.loop.l there))

pub returns-then-is_some : goal.returns-then-is_some
returns-then-is_some c =
    let s = c.args.s.now in
    let count = c.list_count-count.result in
    let next = packet_in (session_of s) in
    let rest = count - (c.loop.counter + 1) in
    let e : round_in (session_of s) ≡ or_else (next c.loop.l) (round_from count next (c.loop.l + 1) rest) = sym c.loop.invariant.0 ∙ step_there count next c.loop.l (count - c.loop.counter) rest (c.loop.invariant.3 (omega arith)) (omega arith) in
    c.packet_in-turn.ensures ∙ sym (ap (numbered_in s) e ∙ somebody s (next c.loop.l) (round_from count next (c.loop.l + 1) rest) (ap is_some (sym c.packet_in-turn.ensures) ∙ sym c.is_some.ensures ∙ c.if-is_some.true))

pub returns : goal.returns
unfolding round_from
returns c = let e : c.list_count-count.result - c.loop.counter ≡ 0 = omega arith in ap (numbered_in c.args.s.now) (rw e at c.loop.invariant.0)
