use Rattle.lists.proofs.Gathered.{most_stored}
use Rattle.std.proofs.Common.{◌≡◌, suc, Bool, true, false, cond, not, ◌+◌, eqb, sym, refl, ◌∙◌, add-zero, add-one, arith, le-leb}
use Rattle.std.proofs.lemmas.Bool.{lt-leb}
use Rattle.state.specs.Pool.{odt_count}
use Rattle.model.specs.Model.{all_bytes, each_fits}
use Rattle.model.specs.View.{session_of}
use Rattle.state.proofs.Allocated.{entry_next}
use Rattle.model.proofs.Shown.{all_next, each_next}
use Rattle.lists.proofs.Counting.{fit_stays, both_no}
use Rattle.lists.proofs.list.odts_fit.Goals as goal

pub loop-o-init : goal.loop-o-init
unfolding all_bytes each_fits
loop-o-init c = (rw add-zero c.requires.1.entered, c.requires.1.few, refl, refl, omega arith)

pub returns-then-odt_most-m : goal.returns-then-odt_most-m
returns-then-odt_most-m c = sym (both_no (eqb (all_bytes ((session_of c.args.s.now).list c.args.l) (odt_count c.args.s.now c.args.l)) 0) (each_fits ((session_of c.args.s.now).list c.args.l) (odt_count c.args.s.now c.args.l)) (fit_stays ((session_of c.args.s.now).list c.args.l) (suc c.loop-o.o) (odt_count c.args.s.now c.args.l) (omega (arith, c.requires.1.count)) (each_next c.args.s.now c.args.l c.requires.0 c.loop-o.o (omega (arith, c.requires.1.count)) ∙ simp (c.loop-o.invariant.3, ← c.requires.1.first, ← c.odt_bytes-m.ensures.0, ← c.odt_most.ensures, lt-leb _ _ c.if-odt_most-m.true))))

pub loop-o-preserved : goal.loop-o-preserved
loop-o-preserved c = let i : c.args.span.odt + (c.loop-o.o + 1) ≡ suc (c.args.span.odt + c.loop-o.o) = omega arith in (rw i (omega (arith, c.loop-o.invariant.0, c.entries_in-n.ensures.0, entry_next c.args.s.now (c.args.span.odt + c.loop-o.o))), omega (arith, c.entries_in-n.ensures.1), rw (add-one c.loop-o.o) (sym (all_next c.args.s.now c.args.l c.requires.0 c.loop-o.o (omega (arith, c.requires.1.count)) ∙ rw (← c.loop-o.invariant.2, ← c.requires.1.first, ← c.odt_bytes-m.ensures.0))), rw (add-one c.loop-o.o) (each_next c.args.s.now c.args.l c.requires.0 c.loop-o.o (omega (arith, c.requires.1.count)) ∙ rw (c.loop-o.invariant.3, ← c.requires.1.first, ← c.odt_bytes-m.ensures.0, ← c.odt_most.ensures) (le-leb _ _ c.if-odt_most-m.false)), omega (arith, c.loop-o.invariant.4, c.if-odt_most-m.false, c.odt_most.ensures, most_stored c.loop-o.o))

is_not : (b : Bool) → not b ≡ cond b false true
is_not true = refl
is_not false = refl
