use Rattle.std.proofs.Common.{◌≡◌, ℕ, List, ◌+◌, ◌-◌, ◌*◌, ◌/◌, ◌%◌, length, take, drop, ap, ◌∙◌}
use Rattle.line.specs.Message.{sum as total}
use Rattle.sums.proofs.Parts.{wraps_on, front_sum, words_sum}
use Rattle.sums.proofs.sum_of.Goals as goal

pub loop-run-preserved : goal.loop-run-preserved
loop-run-preserved c =
    let all : c.sum_of_words-sum.result + total c.in-Some.behind.now ≡ total c.loop-run.rest.now = front_sum 1024 _ c.loop-run.rest.now c.in-Some.run'.now c.in-Some.behind.now c.in-Some.ensures.cases.0 c.in-Some.ensures.cases.1 c.sum_of_words-sum.ensures in
    wraps_on c.loop-run.sum c.sum_of_words-sum.result (total c.in-Some.behind.now) (total c.args.part.now % 65536) (ap (λ (n : ℕ). (c.loop-run.sum + n) % 65536) all ∙ c.loop-run.invariant)

pub loop-byte-init : goal.loop-byte-init
loop-byte-init c =
    let rest : List ℕ = c.loop-run.rest.now in
    let n : ℕ = 4 * (length rest / 4) in
    let few : List ℕ = take (length rest - n) (drop n rest) in
    let all : c.sum_of_words-sum-2.result + total few ≡ total rest = words_sum n _ rest c.sum_of_words-sum-2.ensures in
    wraps_on c.loop-run.sum c.sum_of_words-sum-2.result (total few) (total c.args.part.now % 65536) (ap (λ (m : ℕ). (c.loop-run.sum + m) % 65536) all ∙ c.loop-run.invariant)
