-- A block inside a memory ends inside it, and within what can be addressed. Assumes nothing.
use Rattle.std.proofs.Common.{◌≡◌, ℕ, ◌+◌, ◌≤◌, min, true, arith, leb-true}
use Rattle.std.proofs.Math.Nat.{min-le_left, min-le_right}
use Rattle.state.specs.Layout.{addressable}
use Rattle.state.specs.Memory.{inside_of}

pub inside_le : (a n len : ℕ) → inside_of a n len ≡ true → (a + n ≤ len) × (a + n ≤ addressable)
unfolding inside_of
inside_le a n len e =
    let h : a + n ≤ min len addressable = leb-true _ _ e in
    (omega (arith, min-le_left len addressable), omega (arith, min-le_right len addressable))
