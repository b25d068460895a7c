-- The two lent memories.
use Rattle.std.specs.Prelude.{ℕ, zero, suc, ◌+◌, ◌%◌, min, Bool, cond, List, [], ◌∷◌, length, nat_le, nat_lt, slice_index}
use Rattle.line.specs.Message.{sum}
use Rattle.state.specs.Layout.{addressable}
use Rattle.state.specs.Bytes.{block}
use Rattle.words.specs.declared.Extension.{Extension}
use Rattle.words.specs.declared.Extension.TheVariants.{Calibration, Measured}

-- how many bytes of a memory of that length can be addressed
abbrev pub reach : ℕ → ℕ
reach len = min len addressable

-- what an extension stands for: extension 0 is calibration, 1 is measured values
abbrev pub pick : {A : Type 0} → Extension → A → A → A
pick Calibration cal meas = cal
pick Measured cal meas = meas

-- a block is inside a memory of that length when its address plus size is within what can be addressed
unfoldable pub inside_of : ℕ → ℕ → ℕ → Bool
inside_of address n len = nat_le (address + n) (reach len)

-- the sum of a block's bytes, modulo 65,536
unfoldable pub block_sum : List ℕ → ℕ → ℕ → ℕ
block_sum mem a n = sum (block mem a n) % 65536

-- a byte no longer inside reads 0
unfoldable pub byte_of : List ℕ → ℕ → ℕ
byte_of mem a = cond (nat_lt a (reach (length mem))) (slice_index mem a) 0

unfoldable pub bytes_of : List ℕ → ℕ → ℕ → List ℕ
bytes_of mem a zero = []
bytes_of mem a (suc n) = byte_of mem a ∷ bytes_of mem (suc a) n
