use Rattle.std.proofs.Common.{◌≡◌, ℕ, ◌+◌, ◌-◌, List, sym, refl, ap, ◌∙◌, ap₂, arith}
use Rattle.state.specs.Bytes.{copied}
use Rattle.state.proofs.Copies.{copied_one, moved_behind}
use Rattle.lists.proofs.alloc.shift_few.Goals as goal

pub loop-j-init : goal.loop-j-init
unfolding copied
loop-j-init c = let e : c.args.n - c.args.n ≡ 0 = omega arith in rw e refl

pub loop-j-preserved : goal.loop-j-preserved
loop-j-preserved c = let j : c.loop-j.j ≡ c.loop-j.j - 1 + 1 = omega arith in let w : c.args.n - (c.loop-j.j - 1) ≡ 1 + (c.args.n - c.loop-j.j) = omega arith in let a : c.args.at + c.args.d + c.loop-j.j ≡ c.args.at + c.args.d + (c.loop-j.j - 1) + 1 = omega arith in let b : c.args.at + c.loop-j.j ≡ c.args.at + (c.loop-j.j - 1) + 1 = omega arith in let t : c.loop-j.s ≡ copied c.args.s.now (c.args.at + c.args.d + (c.loop-j.j - 1) + 1) c.args.s.now (c.args.at + (c.loop-j.j - 1) + 1) (c.args.n - c.loop-j.j) = c.loop-j.invariant ∙ ap₂ (λ (x y : ℕ). copied c.args.s.now x c.args.s.now y (c.args.n - c.loop-j.j)) a b in sym (copied_one c.loop-j.s c.loop-j.s (c.args.at + c.args.d + (c.loop-j.j - 1)) (c.args.at + (c.loop-j.j - 1)) (omega (arith, c.requires))) ∙ ap (λ (u : List ℕ). copied u (c.args.at + c.args.d + (c.loop-j.j - 1)) u (c.args.at + (c.loop-j.j - 1)) 1) t ∙ moved_behind c.args.s.now (c.args.at + c.args.d + (c.loop-j.j - 1)) (c.args.at + (c.loop-j.j - 1)) 1 (c.args.n - c.loop-j.j) (omega arith) (omega (arith, c.requires)) ∙ ap (copied c.args.s.now (c.args.at + c.args.d + (c.loop-j.j - 1)) c.args.s.now (c.args.at + (c.loop-j.j - 1))) (sym w)
