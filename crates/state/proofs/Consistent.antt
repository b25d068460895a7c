-- What a consistent state says of its size. Assumes nothing.
use Rattle.std.proofs.Common.{◌≡◌, ℕ, Bool, true, eqb, List, length, eqb-true}
use Rattle.line.proofs.Laws.{cond_ind}
use Rattle.line.proofs.Stuffed.{false_true}
use Rattle.state.specs.Layout.{size}
use Rattle.state.specs.State.{consistent}

pub consistent_size : (s : List ℕ) → consistent s ≡ true → length s ≡ size
unfolding consistent
consistent_size s =
    cond_ind (λ (t : Bool). t ≡ true → length s ≡ size) (eqb (length s) size) (λ e _. eqb-true (length s) size e) (λ _ f. absurd (false_true f))
