-- A verdict where nothing is expected, and where something is. Assumes nothing.
use Rattle.std.proofs.Common.{◌≡◌, ℕ, Bool, true, List, [], ◌∷◌, length, refl, arith}
use Rattle.report.specs.Verdict.{Says, AsExpected}

pub verdict_none : (came expected : List ℕ) → length expected ≡ 0 → Says true (AsExpected came expected)
unfolding AsExpected
verdict_none came [] e = (λ _. tt, λ _. refl)
verdict_none came (b ∷ bs) e = absurd (omega arith)

pub verdict_some : (good : Bool) (came expected : List ℕ) → (length expected ≡ 0 → ⊥) → Says good (came ≡ expected) → Says good (AsExpected came expected)
unfolding AsExpected
verdict_some good came [] h v = absurd (h refl)
verdict_some good came (b ∷ bs) h v = v
