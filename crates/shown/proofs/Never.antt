-- Whether a test holds at no byte of a run can be computed. Assumes nothing.
use Rattle.std.proofs.Common.{◌≡◌, ℕ, Bool, true, false, cond, List, [], ◌∷◌}
use Rattle.std.proofs.lemmas.Bool.{false≢true}
use Rattle.line.proofs.Laws.{cond_ind}
use Rattle.demands.specs.Slave.{AnySlave}
use Rattle.demands.specs.Runs.{Call, Byte, Event, SendingSlot, Elsewhere, after_call, Never}

unfoldable pub never : (List ℕ → List ℕ → List ℕ → ℕ → Bool) → AnySlave → List ℕ → List Call → Bool
never test v s [] = true
never test v s (Byte cal meas b ∷ cs) = cond (test s cal meas b) false (never test v (after_call v s (Byte cal meas b)) cs)
never test v s (Event cal meas event clock ∷ cs) = never test v (after_call v s (Event cal meas event clock)) cs
never test v s (SendingSlot out ∷ cs) = never test v (after_call v s (SendingSlot out)) cs
never test v s (Elsewhere ∷ cs) = never test v s cs

pub never_so : (test : List ℕ → List ℕ → List ℕ → ℕ → Bool) (v : AnySlave) (s : List ℕ) (cs : List Call) → never test v s cs ≡ true → Never test v s cs
unfolding never
never_so test v s [] e = tt
never_so test v s (Byte cal meas b ∷ cs) e =
    cond_ind (λ (t : Bool). t ≡ true → (test s cal meas b ≡ false) × Never test v (after_call v s (Byte cal meas b)) cs) (test s cal meas b)
    (λ _ x. absurd (false≢true x)) (λ f x. (f, never_so test v (after_call v s (Byte cal meas b)) cs x)) e
never_so test v s (Event cal meas event clock ∷ cs) e = never_so test v (after_call v s (Event cal meas event clock)) cs e
never_so test v s (SendingSlot out ∷ cs) e = never_so test v (after_call v s (SendingSlot out)) cs e
never_so test v s (Elsewhere ∷ cs) e = never_so test v s cs e
