use Rattle.std.proofs.Common.{◌≡◌, ℕ, ◌≤◌, length, take, min, ap, ◌∙◌, arith, length-take-le}
use Rattle.std.proofs.lemmas.List.{take-append-le, take_min, take-take}
use Rattle.line.specs.Message.{room}
use Rattle.bench.proofs.bytes.Bytes.of.Goals as goal

pub returns : goal.returns
returns c =
    let e = c.copy_from_slice.ensures.after in
    let n = c.min-count.result in
    let xs = c.args.bytes.now in
    let m : n ≡ min room (length xs) = omega (arith, c.min-count.ensures) in
    let few : n ≤ length xs = omega (arith, c.min-count.ensures) in
    let whole : length c.copy_from_slice.new.self ≡ n = ap length e ∙ length-take-le n xs few in
    take-append-le n c.copy_from_slice.new.self _ (omega (arith, whole)) ∙ ap (take n) e ∙ take-take n n xs (omega arith) ∙ ap (λ (k : ℕ). take k xs) m ∙ take_min room xs
