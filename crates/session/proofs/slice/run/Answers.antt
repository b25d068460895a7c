use Rattle.std.proofs.Common.{ℕ, ◌≡◌, refl, subst, arith, length-set}
use Rattle.session.specs.Quiet.{Runs}
use Rattle.line.specs.Stuffing.{SYNC, ESC}
use Rattle.session.proofs.Slicing.{run_next}
use Rattle.session.proofs.slice.run.Goals as goal

pub loop-i-preserved : goal.loop-i-preserved
loop-i-preserved c = (omega (arith, c.loop-i-test.true), simp length-set c.loop-i.invariant.1, run_next c.args.bytes.now c.args.s.now c.loop-i.s c.args.k c.args.from c.loop-i.i c.args.most _ c.loop-i.invariant.1 (c.requires.2 (omega (arith, c.loop-i-test.true))) c.loop-i-test.true c.requires.0 c.loop-i.invariant.2 refl (λ (z : _ ≡ SYNC). omega (arith, c.if-byte.false)) (λ (z : _ ≡ ESC). omega (arith, c.if-byte.false)))

pub returns : goal.returns
returns c =
    let e : c.loop-i.i ≡ c.args.most = omega arith in
    (omega arith, subst (λ (n : ℕ). Runs c.args.bytes.now c.args.s.now c.args.k c.args.from n c.loop-i.s) e c.loop-i.invariant.2)
