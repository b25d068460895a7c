use Rattle.std.proofs.Common.{ℕ, ◌+◌, ◌-◌, ◌≡◌, refl, sym, ap, ap₂, ◌∙◌, List, arith}
use Rattle.state.specs.Bytes.{copied}
use Rattle.state.proofs.Copies.{copied_behind}
use Rattle.session.proofs.blocks.copy.Goals as goal

pub loop-i-init : goal.loop-i-init
unfolding copied
loop-i-init c = let e : c.args.n - c.args.n ≡ 0 = omega arith in (omega arith, rw e refl, refl)

pub loop-i-preserved : goal.loop-i-preserved
loop-i-preserved c = let w : c.args.n - (c.loop-i.i - 4) ≡ 4 + (c.args.n - c.loop-i.i) = omega (arith, c.loop-i.invariant.0, c.loop-i-test.true) in let a : c.args.at + c.loop-i.i ≡ c.args.at + (c.loop-i.i - 4) + 4 = omega (arith, c.loop-i-test.true) in let b : c.args.from + c.loop-i.i ≡ c.args.from + (c.loop-i.i - 4) + 4 = omega (arith, c.loop-i-test.true) in let t : c.loop-i.dst ≡ copied c.args.dst.now (c.args.at + (c.loop-i.i - 4) + 4) c.args.src.now (c.args.from + (c.loop-i.i - 4) + 4) (c.args.n - c.loop-i.i) = c.loop-i.invariant.1 ∙ ap₂ (λ (x y : ℕ). copied c.args.dst.now x c.args.src.now y (c.args.n - c.loop-i.i)) a b in (omega (arith, c.loop-i.invariant.0), c.copy_four.ensures ∙ ap (λ (u : List ℕ). copied u (c.args.at + (c.loop-i.i - 4)) c.args.src.now (c.args.from + (c.loop-i.i - 4)) 4) t ∙ copied_behind c.args.dst.now c.args.src.now (c.args.at + (c.loop-i.i - 4)) (c.args.from + (c.loop-i.i - 4)) 4 (c.args.n - c.loop-i.i) (omega (arith, c.requires.1, c.loop-i.invariant.0, c.loop-i-test.true)) ∙ ap (copied c.args.dst.now (c.args.at + (c.loop-i.i - 4)) c.args.src.now (c.args.from + (c.loop-i.i - 4))) (sym w), c.copy_four.auto.dst ∙ c.loop-i.invariant.2)

pub returns : goal.returns
returns c = let w : c.args.n ≡ c.loop-i.i + (c.args.n - c.loop-i.i) = omega (arith, c.loop-i.invariant.0) in c.copy_few.ensures ∙ ap (λ (u : List ℕ). copied u c.args.at c.args.src.now c.args.from c.loop-i.i) c.loop-i.invariant.1 ∙ copied_behind c.args.dst.now c.args.src.now c.args.at c.args.from c.loop-i.i (c.args.n - c.loop-i.i) (omega (arith, c.requires.1, c.loop-i.invariant.0)) ∙ ap (copied c.args.dst.now c.args.at c.args.src.now c.args.from) (sym w)
