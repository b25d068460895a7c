use Rattle.std.proofs.Common.{◌≡◌, ℕ, ◌+◌, ◌-◌, List, sym, refl, ap, ◌∙◌, ap₂, arith}
use Rattle.state.specs.Bytes.{copied}
use Rattle.state.proofs.Copies.{moved_behind}
use Rattle.lists.proofs.alloc.shift.Goals as goal

pub loop-j-init : goal.loop-j-init
unfolding copied
loop-j-init c = let e : c.args.n - c.args.n ≡ 0 = omega arith in (omega arith, rw e refl)

pub loop-j-preserved : goal.loop-j-preserved
loop-j-preserved c = let j : c.loop-j.j ≡ c.loop-j.j - 4 + 4 = omega arith in let w : c.args.n - (c.loop-j.j - 4) ≡ 4 + (c.args.n - c.loop-j.j) = omega (arith, c.loop-j.invariant.0) in let a : c.args.at + c.args.d + c.loop-j.j ≡ c.args.at + c.args.d + (c.loop-j.j - 4) + 4 = omega arith in let b : c.args.at + c.loop-j.j ≡ c.args.at + (c.loop-j.j - 4) + 4 = omega arith in let t : c.loop-j.s ≡ copied c.args.s.now (c.args.at + c.args.d + (c.loop-j.j - 4) + 4) c.args.s.now (c.args.at + (c.loop-j.j - 4) + 4) (c.args.n - c.loop-j.j) = c.loop-j.invariant.1 ∙ ap₂ (λ (x y : ℕ). copied c.args.s.now x c.args.s.now y (c.args.n - c.loop-j.j)) a b in let at4 : c.args.at + (c.loop-j.j - 4) + c.args.d ≡ c.args.at + c.args.d + (c.loop-j.j - 4) = omega arith in (omega (arith, c.loop-j.invariant.0), c.shift_four.ensures ∙ ap (λ (i : ℕ). copied c.loop-j.s i c.loop-j.s (c.args.at + (c.loop-j.j - 4)) 4) at4 ∙ ap (λ (u : List ℕ). copied u (c.args.at + c.args.d + (c.loop-j.j - 4)) u (c.args.at + (c.loop-j.j - 4)) 4) t ∙ moved_behind c.args.s.now (c.args.at + c.args.d + (c.loop-j.j - 4)) (c.args.at + (c.loop-j.j - 4)) 4 (c.args.n - c.loop-j.j) (omega arith) (omega (arith, c.requires, c.loop-j.invariant.0, c.loop-j-test.true)) ∙ ap (copied c.args.s.now (c.args.at + c.args.d + (c.loop-j.j - 4)) c.args.s.now (c.args.at + (c.loop-j.j - 4))) (sym w))

pub returns : goal.returns
returns c = let w : c.args.n ≡ c.loop-j.j + (c.args.n - c.loop-j.j) = omega (arith, c.loop-j.invariant.0) in c.shift_few.ensures ∙ ap (λ (u : List ℕ). copied u (c.args.at + c.args.d) u c.args.at c.loop-j.j) c.loop-j.invariant.1 ∙ moved_behind c.args.s.now (c.args.at + c.args.d) c.args.at c.loop-j.j (c.args.n - c.loop-j.j) (omega arith) (omega (arith, c.requires, c.loop-j.invariant.0)) ∙ ap (copied c.args.s.now (c.args.at + c.args.d) c.args.s.now c.args.at) (sym w)
