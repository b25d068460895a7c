-- A law of the keys. Assumes nothing.
use Rattle.std.proofs.Common.{◌≡◌, ℕ, ◌*◌, ◌/◌, ◌%◌, ◌^◌, ◌<◌, arith, shr_lt}
use Rattle.std.proofs.lemmas.Nat.{or_shifted}
use Rattle.std.specs.Int.{w32, rotate_left}
use Rattle.state.specs.Generator.{rotated_left8}

-- the low byte of a number moved up is free for its high one
pub rotated : (x : ℕ) → x < 2 ^ 32 → rotate_left w32 x 8 ≡ rotated_left8 x
rotated x h =
    let high : x / 2 ^ 24 < 2 ^ 8 = shr_lt {n = x} 8 24 h in
    let low : (x * 2 ^ 8) % 2 ^ 32 ≡ (x % 2 ^ 24) * 2 ^ 8 = omega arith in
    rw low (or_shifted (x % 2 ^ 24) 8 (x / 2 ^ 24) high)
