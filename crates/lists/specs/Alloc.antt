-- What FREE_DAQ and the three allocations write. Each allocation writes what lies below it empty, so that no old byte comes to life.
use Rattle.std.specs.Prelude.{ℕ, ◌+◌, ◌-◌, ◌*◌, ◌%◌, List, slice_set}
use Rattle.state.specs.Layout.{lists, all_odts, round_at, phase_at, odts_at, counts_at, mode_at, entry_size, entries_at}
use Rattle.state.specs.Bytes.{copied, cleared}
use Rattle.state.specs.Pool.{first_entry, entry_total}
use Rattle.state.specs.State.{pointer_of, set_pointer, dropped}

-- FREE_DAQ: without lists nothing else is read
abbrev pub lists_freed : List ℕ → List ℕ
lists_freed s = slice_set s phase_at 1

-- ALLOC_DAQ: n lists, of which nothing is set
unfoldable pub lists_allocated : List ℕ → ℕ → List ℕ
lists_allocated s n = slice_set (slice_set (cleared s odts_at (mode_at lists - odts_at)) round_at 0) phase_at ((n + 1) % 256)

-- ALLOC_ODT: n ODTs of list l; no ODT has entries or a packet
unfoldable pub odts_allocated : List ℕ → ℕ → ℕ → List ℕ
odts_allocated s l n = slice_set (cleared (dropped s 0 all_odts) counts_at all_odts) (odts_at + l) n

-- room for n entries before entry i of m: those from there on move up, and the new ones are zeros
unfoldable pub room_made : List ℕ → ℕ → ℕ → ℕ → List ℕ
room_made s i m n = cleared (copied s (entries_at (i + n)) s (entries_at i) (entry_size * (m - i))) (entries_at i) (entry_size * n)

-- ALLOC_ODT_ENTRY: n entries of ODT k. The pointer is as it was: one that reads as unset does not come to life
unfoldable pub entries_allocated : List ℕ → ℕ → ℕ → List ℕ
entries_allocated s k n = set_pointer (slice_set (room_made s (first_entry s k) (entry_total s) n) (counts_at + k) n) (pointer_of s)
