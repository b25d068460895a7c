-- Where everything lies in the lent state. Limits and places have one name each; later limits change numbers here.
use Rattle.std.specs.Prelude.{ℕ, ◌+◌, ◌-◌, ◌*◌, Bool, cond, ◌==◌}
use Rattle.line.specs.Message.{most, longest}

-- the pool, for all lists together
abbrev pub lists : ℕ
lists = 8

abbrev pub all_odts : ℕ
all_odts = 16

abbrev pub all_entries : ℕ
all_entries = 128

-- events 0 and 1
abbrev pub events : ℕ
events = 2

-- most bytes of a packet, and of a sample in store, which is without its ODT's number
abbrev pub packet_most : ℕ
packet_most = most

abbrev pub stored_most : ℕ
stored_most = packet_most - 1

-- the clock before the bytes of a list's first ODT
abbrev pub clock_size : ℕ
clock_size = 2

-- most bytes of an entry
abbrev pub entry_most : ℕ
entry_most = 4

-- most bytes of an UPLOAD, after FF
abbrev pub upload_most : ℕ
upload_most = packet_most - 1

-- where the data lies in a DOWNLOAD, behind its code and count, and in a SHORT_DOWNLOAD, behind its address; and most bytes of it
abbrev pub download_from : ℕ
download_from = 2

abbrev pub short_download_from : ℕ
short_download_from = 8

abbrev pub download_most : ℕ
download_most = packet_most - download_from

abbrev pub short_download_most : ℕ
short_download_most = packet_most - short_download_from

-- after so many wrong keys it stays shut
abbrev pub wrong_most : ℕ
wrong_most = 3

-- the first 4,096 bytes of a memory at most can be addressed
abbrev pub addressable : ℕ
addressable = 4096

-- whether a list's ODT o is its first; most bytes of it in a packet: before those of the first one the clock stands
abbrev pub is_first : ℕ → Bool
is_first o = o == 0

abbrev pub odt_most : ℕ → ℕ
odt_most o = cond (is_first o) (stored_most - clock_size) stored_most

-- ---- the mark that power-up writes; it changes with every layout
abbrev pub mark : ℕ
mark = 0x35504358

abbrev pub mark_at : ℕ
mark_at = 0

-- ---- what runs on across sessions
abbrev pub generator_at : ℕ
generator_at = mark_at + 4

-- how many keys were wrong
abbrev pub wrong_keys_at : ℕ
wrong_keys_at = generator_at + 4

abbrev pub ctr_at : ℕ
ctr_at = wrong_keys_at + 1

-- with which list the round begins
abbrev pub round_at : ℕ
round_at = ctr_at + 1

-- whether the last frame was an answer
abbrev pub last_at : ℕ
last_at = round_at + 1

-- ---- the reader's place with its message buffer, and the waiting answer: before the tables, side by side
abbrev pub place_at : ℕ
place_at = last_at + 1

abbrev pub count_at : ℕ
count_at = place_at + 1

abbrev pub message_at : ℕ
message_at = count_at + 1

abbrev pub packet_at : ℕ
packet_at = message_at + 2

-- the waiting answer: its length, and its bytes
abbrev pub answer_at : ℕ
answer_at = message_at + longest

abbrev pub answer_bytes_at : ℕ
answer_bytes_at = answer_at + 1

-- ---- the session's own bytes: up to the count of lists they are written 0 when it closes, and what is behind it means nothing then
abbrev pub session_at : ℕ
session_at = answer_bytes_at + packet_most

abbrev pub open_at : ℕ
open_at = session_at

abbrev pub calibration_at : ℕ
calibration_at = open_at + 1

abbrev pub lists_at : ℕ
lists_at = calibration_at + 1

abbrev pub seed_at : ℕ
seed_at = lists_at + 1

abbrev pub mta_at : ℕ
mta_at = seed_at + 1

abbrev pub address_at : ℕ
address_at = mta_at + 1

-- the list pointer: its list and ODT, and its entry
abbrev pub pointer_at : ℕ
pointer_at = address_at + 4

abbrev pub pointer_entry_at : ℕ
pointer_entry_at = pointer_at + 1

-- whether the lists were freed, and how many there are since
abbrev pub phase_at : ℕ
phase_at = pointer_entry_at + 1

-- of each list: how many ODTs it has; of each ODT, by its absolute number: how many entries
abbrev pub odts_at : ℕ
odts_at = phase_at + 1

abbrev pub counts_at : ℕ
counts_at = odts_at + lists

-- of each list: mode, selected, running
abbrev pub list_size : ℕ
list_size = 3

abbrev pub mode_at : ℕ → ℕ
mode_at l = counts_at + all_odts + list_size * l

abbrev pub selected_at : ℕ → ℕ
selected_at l = mode_at l + 1

abbrev pub running_at : ℕ → ℕ
running_at l = mode_at l + 2

-- the entries, in the order of the ODTs and without gaps, each two bytes of size, extension and address
abbrev pub entry_size : ℕ
entry_size = 2

abbrev pub entries_at : ℕ → ℕ
entries_at i = mode_at lists + entry_size * i

-- of each ODT: the length of its waiting packet without the number, and its bytes
abbrev pub sample_size : ℕ
sample_size = stored_most + 1

abbrev pub sample_at : ℕ → ℕ
sample_at k = entries_at all_entries + sample_size * k

abbrev pub size : ℕ
size = sample_at all_odts

abbrev pub session_size : ℕ
session_size = odts_at - session_at
