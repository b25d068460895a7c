use Rattle.std.proofs.Common.{ℕ, List, get_or, ap, arith}
use Rattle.lists.proofs.Words.{put_four}
use Rattle.lists.proofs.word.put_four.Goals as goal

pub returns : goal.returns
returns c =
    let at = λ (i : ℕ). ap (λ (xs : List ℕ). get_or xs i 0) c.to_le_bytes.ensures in
    put_four c.args.s.now c.args.to c.args.w _ _ _ _ (at 0) (at 1) (omega (arith, at 2)) (omega (arith, at 3))
