use Rattle.std.proofs.Common.{◌≡◌, ℕ, ◌+◌, ◌*◌, take, refl, ap, ◌∙◌, arith}
use Rattle.line.specs.Message.{sum}
use Rattle.sums.proofs.InLanes.{lanes_next, evens_fit, uppers_fit, thirds_in, lanes_sum}
use Rattle.sums.proofs.sum_of_words.Goals as goal

pub overflow_add-evens : goal.overflow_add-evens
overflow_add-evens c = omega (arith, evens_fit c.args.part.now (λ j. omega (arith, c.type_inv.part j)) (c.loop-i.i + 1) (lanes_next c.args.part.now c.loop-i.i c.loop-i.invariant c.even-evens.ensures refl) (omega (arith, c.loop-i-test.true, c.requires.0)))

pub overflow_add-uppers : goal.overflow_add-uppers
overflow_add-uppers c = omega (arith, uppers_fit c.args.part.now (λ j. omega (arith, c.type_inv.part j)) (c.loop-i.i + 1) (lanes_next c.args.part.now c.loop-i.i c.loop-i.invariant c.even-evens.ensures c.upper-uppers.ensures) (omega (arith, c.loop-i-test.true, c.requires.0)))

pub folded-requires : goal.folded-requires
folded-requires c = thirds_in c.args.part.now (λ j. omega (arith, c.type_inv.part j)) c.loop-i.i c.loop-i.invariant (omega (arith, c.requires.0, c.loop-i.auto.i-end))

pub returns : goal.returns
returns c =
    let e : c.loop-i.i ≡ c.args.words = omega (arith, c.loop-i.auto.i-end, c.loop-i-test.false) in
    c.folded.ensures ∙ lanes_sum c.args.part.now (λ j. omega (arith, c.type_inv.part j)) c.loop-i.i c.loop-i.invariant (omega (arith, c.requires.0, e)) (omega (arith, c.requires.1, e)) ∙ ap (λ (n : ℕ). sum (take (4 * n) c.args.part.now)) e
