-- The generator of seeds, Marsaglia's 32-bit xorshift; the keys; and how many of them may be wrong.
use Rattle.std.specs.Prelude.{ℕ, ◌+◌, ◌*◌, ◌/◌, ◌%◌, ◌^◌, Bool, cond, ◌==◌, bit_xor, nat_le}
use Rattle.state.specs.Layout.{wrong_most}
use Rattle.words.specs.declared.Resource.{Resource}
use Rattle.words.specs.declared.Resource.TheVariants.{Calibration, Lists}

abbrev pub left : ℕ → ℕ → ℕ
left x k = (x * 2 ^ k) % 2 ^ 32

abbrev pub right : ℕ → ℕ → ℕ
right x k = x / 2 ^ k

abbrev pub xor_left : ℕ → ℕ → ℕ
xor_left x k = bit_xor x (left x k)

abbrev pub xor_right : ℕ → ℕ → ℕ
xor_right x k = bit_xor x (right x k)

-- left 13, right 17, left 5
unfoldable pub next_of : ℕ → ℕ
next_of x = xor_left (xor_right (xor_left x 13) 17) 5

-- a start of 0 becomes the default
unfoldable pub start_of : ℕ → ℕ
start_of x = cond (x == 0) 0x2545F491 x

abbrev pub addend : Resource → ℕ
addend Calibration = 0x0000D05E
addend Lists = 0x0000DA00

abbrev pub rotated_left8 : ℕ → ℕ
rotated_left8 x = left x 8 + right x 24

-- seed plus the resource's number, modulo 2 ^ 32, rotated left 8
unfoldable pub key_of : Resource → ℕ → ℕ
key_of r seed = rotated_left8 ((seed + addend r) % 2 ^ 32)

-- with n wrong keys it stays shut: no seed is given any more
abbrev pub stays_shut : ℕ → Bool
stays_shut n = nat_le wrong_most n

-- one wrong key more, at most 3
abbrev pub one_wrong_more : ℕ → ℕ
one_wrong_more n = cond (stays_shut n) wrong_most (n + 1)
