-- How the lists' bytes read: entries, modes, packets in store. Every value of every byte reads as some legal value.
use Rattle.std.specs.Prelude.{ℕ, ◌+◌, ◌*◌, ◌/◌, ◌%◌, Bool, cond, List, ◌==◌, nat_lt, slice_index}
use Rattle.state.specs.Layout.{events, stored_most, entry_most, mode_at, selected_at, sample_at}
use Rattle.state.specs.Pool.{entry_at}
use Rattle.state.specs.State.{flag_of}
use Rattle.words.specs.declared.Extension.{Extension}
use Rattle.words.specs.declared.Extension.TheVariants.{Calibration, Measured}

-- ---- entries
-- an entry's first byte has its size in the upper three bits, then one of its extension, and the upper four of its address, whose lower eight are the second
-- byte. A size above 4 reads as 0. By where it lies
abbrev pub size_at : List ℕ → ℕ → ℕ
size_at s i = cond (nat_lt entry_most (slice_index s i / 32)) 0 (slice_index s i / 32)

abbrev pub extension_at : List ℕ → ℕ → Extension
extension_at s i = cond (slice_index s i / 16 % 2 == 1) Measured Calibration

abbrev pub address_in : List ℕ → ℕ → ℕ
address_in s i = slice_index s (i + 1) + 256 * (slice_index s i % 16)

-- entry e of ODT k
unfoldable pub size_of : List ℕ → ℕ → ℕ → ℕ
size_of s k e = size_at s (entry_at s k e)

unfoldable pub extension_of : List ℕ → ℕ → ℕ → Extension
extension_of s k e = extension_at s (entry_at s k e)

unfoldable pub address_of : List ℕ → ℕ → ℕ → ℕ
address_of s k e = address_in s (entry_at s k e)

-- ---- lists
-- 0 if a list's mode was never set, else 1 more than its event; any other value reads as 0
unfoldable pub mode_of : List ℕ → ℕ → ℕ
mode_of s l = cond (nat_lt events (slice_index s (mode_at l))) 0 (slice_index s (mode_at l))

abbrev pub selected_of : List ℕ → ℕ → Bool
selected_of s l = flag_of s (selected_at l)

-- ---- packets
-- the length of ODT k's packet in store, without its number; one that no packet can have reads as 0, no packet
unfoldable pub stored_length : List ℕ → ℕ → ℕ
stored_length s k = cond (nat_lt stored_most (slice_index s (sample_at k))) 0 (slice_index s (sample_at k))
