use Rattle.std.proofs.Common.{◌≡◌, ℕ, List, get_or, ap, arith}
use Rattle.lists.proofs.Words.{put_one, put_two, put_three}
use Rattle.lists.proofs.word.put_few.Goals as goal

pub returns-then-n-eq1 : goal.returns-then-n-eq1
returns-then-n-eq1 c =
    let at = λ (i : ℕ). ap (λ (xs : List ℕ). get_or xs i 0) c.to_le_bytes.ensures in
    rw c.if-n-eq1.true (put_one c.args.s.now c.args.to c.args.w _ (at 0))

pub returns-then-n-eq2 : goal.returns-then-n-eq2
returns-then-n-eq2 c =
    let at = λ (i : ℕ). ap (λ (xs : List ℕ). get_or xs i 0) c.to_le_bytes.ensures in
    rw c.if-n-eq2.true (put_two c.args.s.now c.args.to c.args.w _ (at 0) _ (at 1))

pub returns : goal.returns
returns c =
    let at = λ (i : ℕ). ap (λ (xs : List ℕ). get_or xs i 0) c.to_le_bytes.ensures in
    let three : c.args.n ≡ 3 = omega (arith, c.requires.0, c.requires.1, c.if-n-eq1.false, c.if-n-eq2.false) in
    rw three (put_three c.args.s.now c.args.to c.args.w _ (at 0) _ (at 1) _ (omega (arith, at 2)))
