use Rattle.std.proofs.Common.{◌≡◌, refl, sym, ap, ap₂, ◌∙◌, List, ℕ, ◌+◌, ◌-◌, arith}
use Rattle.state.specs.Bytes.{copied}
use Rattle.state.proofs.Copies.{copied_one, copied_behind}
use Rattle.session.proofs.blocks.copy_few.Goals as goal

pub loop-i-init : goal.loop-i-init
unfolding copied
loop-i-init c = let e : c.args.n - c.args.n ≡ 0 = omega arith in rw e refl

pub loop-i-preserved : goal.loop-i-preserved
loop-i-preserved c =
    let k = c.loop-i.i - 1 in
    let more : c.args.n - k ≡ 1 + (c.args.n - c.loop-i.i) = omega (arith, c.loop-i-test.true, c.loop-i.auto.i) in
    let to : c.args.at + c.loop-i.i ≡ c.args.at + k + 1 = omega (arith, c.loop-i-test.true) in
    let from : c.args.from + c.loop-i.i ≡ c.args.from + k + 1 = omega (arith, c.loop-i-test.true) in
    let behind : c.loop-i.dst ≡ copied c.args.dst.now (c.args.at + k + 1) c.args.src.now (c.args.from + k + 1) (c.args.n - c.loop-i.i) = c.loop-i.invariant ∙ ap₂ (λ (x y : ℕ). copied c.args.dst.now x c.args.src.now y (c.args.n - c.loop-i.i)) to from in
    sym (copied_one c.loop-i.dst c.args.src.now (c.args.at + k) (c.args.from + k) (omega (arith, c.requires.1, c.loop-i-test.true, c.loop-i.auto.i))) ∙ ap (λ (u : List ℕ). copied u (c.args.at + k) c.args.src.now (c.args.from + k) 1) behind ∙ copied_behind c.args.dst.now c.args.src.now (c.args.at + k) (c.args.from + k) 1 (c.args.n - c.loop-i.i) (omega (arith, c.requires.1, c.loop-i-test.true, c.loop-i.auto.i)) ∙ ap (copied c.args.dst.now (c.args.at + k) c.args.src.now (c.args.from + k)) (sym more)

pub returns : goal.returns
returns c =
    let to : c.args.at + c.loop-i.i ≡ c.args.at = omega (arith, c.loop-i-test.false) in
    let from : c.args.from + c.loop-i.i ≡ c.args.from = omega (arith, c.loop-i-test.false) in
    let all : c.args.n - c.loop-i.i ≡ c.args.n = omega (arith, c.loop-i-test.false) in
    c.loop-i.invariant ∙ ap₂ (λ (x y : ℕ). copied c.args.dst.now x c.args.src.now y (c.args.n - c.loop-i.i)) to from ∙ ap (copied c.args.dst.now c.args.at c.args.src.now c.args.from) all
