use Rattle.std.proofs.Common.{ℕ, ◌≡◌, subst, arith}
use Rattle.session.specs.Quiet.{Skips}
use Rattle.session.proofs.Slicing.{skip_none, skip_next}
use Rattle.session.proofs.slice.skip.Goals as goal

pub returns-then-tag-ne0 : goal.returns-then-tag-ne0
returns-then-tag-ne0 c = skip_none c.args.bytes.now c.args.tag c.args.from (omega (arith, c.requires.0, c.requires.1))

pub returns-then-bytes-i : goal.returns-then-bytes-i
returns-then-bytes-i c = let z : 0 ≡ c.args.tag = omega (arith, c.if-tag-ne0.false) in subst (λ (y : ℕ). Skips c.args.bytes.now y c.args.from c.loop-i.i) z c.loop-i.invariant

pub loop-i-preserved : goal.loop-i-preserved
loop-i-preserved c = skip_next c.args.bytes.now c.args.from c.loop-i.i (omega (arith, c.requires.1, c.loop-i-test.true)) c.loop-i.invariant c.if-bytes-i.false

pub returns : goal.returns
returns c =
    let z : 0 ≡ c.args.tag = omega (arith, c.if-tag-ne0.false) in
    let e : c.loop-i.i ≡ c.args.n = omega (arith, c.requires.0) in
    subst (λ (j : ℕ). Skips c.args.bytes.now c.args.tag c.args.from j) e (subst (λ (y : ℕ). Skips c.args.bytes.now y c.args.from c.loop-i.i) z c.loop-i.invariant)
