-- Bytes that are stored in a memory.
use Rattle.std.specs.Prelude.{ℕ, ◌-◌, List, length, take, min}
use Rattle.std.proofs.lemmas.List.Edits.{sets}
use Rattle.state.specs.Layout.{addressable}

-- xs stored in a memory from `at` on, as far as it goes
abbrev pub stored_in : List ℕ → ℕ → List ℕ → List ℕ
stored_in m at xs = sets m (min at addressable) (take (min (length xs) (addressable - min at addressable)) xs)
