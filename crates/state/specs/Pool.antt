-- The lists that a tool has allocated. Any bytes read as an allocation inside the pool that some tool could have made.
use Rattle.std.specs.Prelude.{ℕ, ◌+◌, ◌-◌, Bool, cond, List, nat_lt, slice_index}
use Rattle.state.specs.Layout.{lists, all_odts, all_entries, round_at, phase_at, odts_at, counts_at, entries_at}
use Rattle.state.specs.Ranges.{start_in, count_in}

-- ---- lists
-- 0 where FREE_DAQ must come first, else 1 more than the lists that there are since; more than the pool has reads as 0
unfoldable pub phase_of : List ℕ → ℕ
phase_of s = cond (nat_lt (lists + 1) (slice_index s phase_at)) 0 (slice_index s phase_at)

abbrev pub freed_of : List ℕ → Bool
freed_of s = nat_lt 0 (phase_of s)

abbrev pub list_count : List ℕ → ℕ
list_count s = phase_of s - 1

-- with which list the round begins; one that there is not reads as list 0
unfoldable pub round_of : List ℕ → ℕ
round_of s = cond (nat_lt (slice_index s round_at) (list_count s)) (slice_index s round_at) 0

-- ---- ODTs: where those of list l begin, by absolute number, how many they are, and all of them
abbrev pub odts_in : List ℕ → ℕ → ℕ
odts_in s l = slice_index s (odts_at + l)

abbrev pub first_odt : List ℕ → ℕ → ℕ
first_odt s l = start_in all_odts (odts_in s) l

abbrev pub odt_count : List ℕ → ℕ → ℕ
odt_count s l = count_in all_odts (odts_in s) l

abbrev pub odt_total : List ℕ → ℕ
odt_total s = first_odt s (list_count s)

-- ---- entries: those of ODT k likewise
abbrev pub entries_in : List ℕ → ℕ → ℕ
entries_in s k = slice_index s (counts_at + k)

abbrev pub first_entry : List ℕ → ℕ → ℕ
first_entry s k = start_in all_entries (entries_in s) k

abbrev pub entry_count : List ℕ → ℕ → ℕ
entry_count s k = count_in all_entries (entries_in s) k

abbrev pub entry_total : List ℕ → ℕ
entry_total s = first_entry s (odt_total s)

-- where entry e of ODT k lies
abbrev pub entry_at : List ℕ → ℕ → ℕ → ℕ
entry_at s k e = entries_at (first_entry s k + e)
