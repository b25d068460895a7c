use Rattle.std.proofs.Common.{◌≡◌, ℕ, ◌+◌, length, sym, refl, ap, ◌∙◌, add-zero, add-one, arith}
use Rattle.state.specs.Layout.{entries_at}
use Rattle.state.specs.Lists.{size_of}
use Rattle.model.specs.Model.{sizes_of}
use Rattle.model.specs.Calls.{taken, blocks_in}
use Rattle.model.specs.View.{odt_of}
use Rattle.model.proofs.Shown.{sizes_next}
use Rattle.model.proofs.Room.{taken_all, taken_up}
use Rattle.lists.proofs.Gathered.{gathered_first, size_there, gathered_step}
use Rattle.lists.proofs.events.gather.Goals as goal

pub loop-init : goal.loop-init
unfolding blocks_in sizes_of
loop-init c = (rw add-zero c.entries_at-at.ensures, refl, refl, omega arith)

pub returns-then-room-next : goal.returns-then-room-next
returns-then-room-next c = let z : c.entry_size-m.result ≡ size_of c.args.s.now c.args.k c.loop.counter = c.entry_size-m.ensures.0 ∙ rw c.loop.invariant.1 (size_there c.args.s.now c.args.k c.args.memories.now.cal.bytes.now c.args.memories.now.meas.bytes.now c.requires.0 c.args.from c.requires.4 c.loop.counter (omega (arith, c.requires.2)) c.loop.at (c.loop.invariant.0 ∙ ap (λ (i : ℕ). entries_at (i + c.loop.counter)) c.requires.1)) in let cut : taken c.args.room (odt_of c.args.s.now c.args.k) c.args.n ≡ c.loop.counter = taken_up c.args.room (odt_of c.args.s.now c.args.k) c.loop.counter c.args.n c.loop-test.true (omega (arith, c.loop.invariant.2, c.loop.invariant.3)) (omega (arith, z, c.loop.invariant.2, c.if-room-next.true, sizes_next c.args.s.now c.args.k c.loop.counter (omega (arith, c.requires.2, c.loop-test.true)))) in (rw cut c.loop.invariant.1, rw cut c.loop.invariant.2)

pub loop-preserved : goal.loop-preserved
loop-preserved c = let z : c.entry_size-m.result ≡ size_of c.args.s.now c.args.k c.loop.counter = c.entry_size-m.ensures.0 ∙ rw c.loop.invariant.1 (size_there c.args.s.now c.args.k c.args.memories.now.cal.bytes.now c.args.memories.now.meas.bytes.now c.requires.0 c.args.from c.requires.4 c.loop.counter (omega (arith, c.requires.2)) c.loop.at (c.loop.invariant.0 ∙ ap (λ (i : ℕ). entries_at (i + c.loop.counter)) c.requires.1)) in let long : c.loop.sum ≡ length (blocks_in (odt_of c.args.s.now c.args.k) c.args.memories.now.cal.bytes.now c.args.memories.now.meas.bytes.now c.loop.counter) = c.loop.invariant.2 ∙ sym (gathered_first c.args.s.now c.args.k c.args.memories.now.cal.bytes.now c.args.memories.now.meas.bytes.now c.loop.counter (omega (arith, c.requires.2))) in rw (add-one c.loop.counter) (omega (arith, c.loop.invariant.0), c.take_entry.ensures ∙ rw (c.entry_size-m.ensures.0, long, c.loop.invariant.1) (gathered_step c.args.s.now c.args.k c.args.memories.now.cal.bytes.now c.args.memories.now.meas.bytes.now c.requires.0 c.args.from c.requires.4 c.loop.counter (omega (arith, c.requires.2)) c.loop.at (c.loop.invariant.0 ∙ ap (λ (i : ℕ). entries_at (i + c.loop.counter)) c.requires.1)), omega (arith, z, c.loop.invariant.2, sizes_next c.args.s.now c.args.k c.loop.counter (omega (arith, c.requires.2, c.loop-test.true))), omega (arith, c.if-room-next.false))

pub returns : goal.returns
returns c = let e : c.loop.counter ≡ c.args.n = omega arith in let all : taken c.args.room (odt_of c.args.s.now c.args.k) c.args.n ≡ c.loop.counter = taken_all c.args.room (odt_of c.args.s.now c.args.k) c.args.n (omega (arith, ap (sizes_of (odt_of c.args.s.now c.args.k)) e, c.loop.invariant.2, c.loop.invariant.3)) ∙ sym e in (rw all c.loop.invariant.1, rw all c.loop.invariant.2)
