use Rattle.std.proofs.Common.{◌≡◌, suc, ◌+◌, sym, refl, ◌∙◌, add-zero, add-one, arith}
use Rattle.state.specs.Pool.{entry_count}
use Rattle.state.proofs.Allocated.{entry_next}
use Rattle.lists.specs.Event.{captured_odts}
use Rattle.lists.proofs.Entries.{start_alike, counts_alike, contents_alike}
use Rattle.lists.proofs.Gathered.{captured_alike}
use Rattle.lists.proofs.events.capture.Goals as goal

pub loop-o-init : goal.loop-o-init
unfolding captured_odts
loop-o-init c = (rw add-zero c.requires.1.entered, c.requires.1.few, refl)

pub entries_in-n-requires : goal.entries_in-n-requires
entries_in-n-requires c = (omega (arith, c.requires.1.inside), c.loop-o.invariant.0 ∙ sym (rw c.loop-o.invariant.2 (start_alike (captured_odts c.args.s.now c.args.span.odt c.args.clock c.args.memories.now.cal.bytes.now c.args.memories.now.meas.bytes.now c.loop-o.o) c.args.s.now (captured_alike c.args.s.now c.args.span.odt c.args.clock c.args.memories.now.cal.bytes.now c.args.memories.now.meas.bytes.now c.loop-o.o) (c.args.span.odt + c.loop-o.o) (omega (arith, c.requires.1.inside)))), c.loop-o.invariant.1)

pub capture_odt-requires : goal.capture_odt-requires
capture_odt-requires c = (omega (arith, c.requires.1.inside), c.loop-o.invariant.0 ∙ sym (rw c.loop-o.invariant.2 (start_alike (captured_odts c.args.s.now c.args.span.odt c.args.clock c.args.memories.now.cal.bytes.now c.args.memories.now.meas.bytes.now c.loop-o.o) c.args.s.now (captured_alike c.args.s.now c.args.span.odt c.args.clock c.args.memories.now.cal.bytes.now c.args.memories.now.meas.bytes.now c.loop-o.o) (c.args.span.odt + c.loop-o.o) (omega (arith, c.requires.1.inside)))), c.entries_in-n.ensures.0, c.entries_in-n.ensures.1)

pub loop-o-preserved : goal.loop-o-preserved
unfolding captured_odts
loop-o-preserved c = let m : c.entries_in-n.result ≡ entry_count c.args.s.now (c.args.span.odt + c.loop-o.o) = c.entries_in-n.ensures.0 ∙ rw c.loop-o.invariant.2 (counts_alike (captured_odts c.args.s.now c.args.span.odt c.args.clock c.args.memories.now.cal.bytes.now c.args.memories.now.meas.bytes.now c.loop-o.o) c.args.s.now (captured_alike c.args.s.now c.args.span.odt c.args.clock c.args.memories.now.cal.bytes.now c.args.memories.now.meas.bytes.now c.loop-o.o) (c.args.span.odt + c.loop-o.o) (omega (arith, c.requires.1.inside))) in let i : c.args.span.odt + (c.loop-o.o + 1) ≡ suc (c.args.span.odt + c.loop-o.o) = omega arith in (rw i (omega (arith, m, c.loop-o.invariant.0, entry_next c.args.s.now (c.args.span.odt + c.loop-o.o))), omega (arith, c.entries_in-n.ensures.1), c.capture_odt.ensures ∙ rw (add-one c.loop-o.o, c.loop-o.invariant.2, contents_alike (captured_odts c.args.s.now c.args.span.odt c.args.clock c.args.memories.now.cal.bytes.now c.args.memories.now.meas.bytes.now c.loop-o.o) c.args.s.now (captured_alike c.args.s.now c.args.span.odt c.args.clock c.args.memories.now.cal.bytes.now c.args.memories.now.meas.bytes.now c.loop-o.o) c.args.span.odt c.loop-o.o c.args.clock c.args.memories.now.cal.bytes.now c.args.memories.now.meas.bytes.now (omega (arith, c.requires.1.inside))))
