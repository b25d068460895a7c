-- A form of messages: how wide LEN and CTR are, what fills a packet up, and which checksum ends the message.
use Rattle.std.specs.Prelude.{ℕ, zero, suc, ◌+◌, ◌*◌, ◌/◌, ◌%◌, List, [], ◌∷◌, ◌++◌, slice_index}

pub record Form : Type 0 where
  -- bytes of LEN, and of CTR
  pub width : ℕ
  -- packets are 1 to `most` bytes
  pub most : ℕ
  -- zero bytes behind a packet of n bytes
  pub fill : ℕ → ℕ
  -- bytes of the checksum
  pub sum_width : ℕ
  -- the checksum of all bytes before it
  pub checksum : List ℕ → ℕ

-- a number in w bytes, the lowest first; the last has what is left
abbrev pub in_bytes : ℕ → ℕ → List ℕ
in_bytes zero n = []
in_bytes (suc zero) n = n ∷ []
in_bytes (suc (suc w)) n = n % 256 ∷ in_bytes (suc w) (n / 256)

-- the number in the w bytes of m from place i on
abbrev pub number_at : ℕ → ℕ → List ℕ → ℕ
number_at zero i m = 0
number_at (suc zero) i m = slice_index m i
number_at (suc (suc w)) i m = slice_index m i + 256 * number_at (suc w) (suc i) m

-- bs, and k zero bytes behind them
abbrev pub filled : ℕ → List ℕ → List ℕ
filled zero bs = bs
filled (suc k) bs = filled k bs ++ 0 ∷ []
