-- Exchanges on the bench: commands that a slave hears from power-up with start number 1, and the slots that take its answers.
use Rattle.std.specs.Prelude.{ℕ, zero, suc, ◌-◌, List, [], ◌∷◌, ◌++◌, map, length, get_or, take, replicate}
use Rattle.line.specs.Message.{room, frame}
use Rattle.state.specs.Layout.{size}
use Rattle.session.specs.PowerUp.{powered}
use Rattle.demands.specs.Slave.{AnySlave, ours}
use Rattle.demands.specs.Runs.{Call, Byte, Event, SendingSlot, Elsewhere, run}
use Rattle.demands.specs.Life.{Device, Moment, PowerOn, Hears, Serves}

-- a slot with just the room
abbrev pub slot : Call
slot = SendingSlot (replicate room 0)

-- wire bytes, with both memories lent
abbrev pub bytes : List ℕ → List ℕ → List ℕ → List Call
bytes cal meas bs = map (λ b. Byte cal meas b) bs

-- command p; and command p and a slot for its answer
abbrev pub says : List ℕ → List ℕ → List ℕ → List Call
says cal meas p = bytes cal meas (frame 0 p)

abbrev pub asks : List ℕ → List ℕ → List ℕ → List Call
asks cal meas p = says cal meas p ++ slot ∷ []

-- commands, each with a slot for its answer
abbrev pub ask_all : List ℕ → List ℕ → List (List ℕ) → List Call
ask_all cal meas [] = []
ask_all cal meas (p ∷ ps) = asks cal meas p ++ ask_all cal meas ps

-- command p but for its last byte; that byte
abbrev pub begun : List ℕ → List ℕ → List ℕ → List Call
begun cal meas p = bytes cal meas (take (length (frame 0 p) - 1) (frame 0 p))

abbrev pub last_byte : List ℕ → ℕ
last_byte p = get_or (frame 0 p) (length (frame 0 p) - 1) 0

-- ---- the same in a life: a state of zeros and a memory of one byte, 0; the power comes on, and commands come, each with a slot for its answer
abbrev pub device : Device
device = record { state = replicate size 0; cal = 0 ∷ [] }

abbrev pub answering : List (List ℕ) → List Moment
answering [] = []
answering (p ∷ ps) = map (λ b. Hears [] b) (frame 0 p) ++ Serves (replicate room 0) ∷ answering ps

abbrev pub powered_on : List (List ℕ) → List Moment
powered_on ps = PowerOn 1 ∷ answering ps

-- the state after calls from power-up
abbrev pub reached : AnySlave → List Call → List ℕ
reached v cs = run v (powered 1) cs

-- ---- commands
abbrev pub connect : List ℕ
connect = 0xFF ∷ 0 ∷ []

abbrev pub disconnect : List ℕ
disconnect = 0xFE ∷ []

abbrev pub synch : List ℕ
synch = 0xFC ∷ []

abbrev pub get_status : List ℕ
get_status = 0xFD ∷ []

abbrev pub seed_of_calibration : List ℕ
seed_of_calibration = 0xF8 ∷ 0 ∷ 1 ∷ []

abbrev pub seed_of_lists : List ℕ
seed_of_lists = 0xF8 ∷ 0 ∷ 4 ∷ []

-- the keys to the first seed
abbrev pub key_of_calibration : List ℕ
key_of_calibration = 0xF7 ∷ 4 ∷ 0x00 ∷ 0x7F ∷ 0xF0 ∷ 0x04 ∷ []

abbrev pub key_of_lists : List ℕ
key_of_lists = 0xF7 ∷ 4 ∷ 0x00 ∷ 0x21 ∷ 0xFA ∷ 0x04 ∷ []

-- a key that is wrong to each seed in these exchanges; a script that tries it n times, each in a session of its own
abbrev pub key_of_none : List ℕ
key_of_none = 0xF7 ∷ 4 ∷ 0 ∷ 0 ∷ 0 ∷ 0 ∷ []

abbrev pub tries : ℕ → List (List ℕ)
tries zero = []
tries (suc n) = connect ∷ seed_of_calibration ∷ key_of_none ∷ tries n

-- calibration memory, from the byte whose address has these two low bytes
abbrev pub mta_to : ℕ → ℕ → List ℕ
mta_to a b = 0xF6 ∷ 0 ∷ 0 ∷ 0 ∷ a ∷ b ∷ 0 ∷ 0 ∷ []

abbrev pub upload : ℕ → List ℕ
upload n = 0xF5 ∷ n ∷ []

-- SHORT_UPLOAD of the first byte
abbrev pub upload_first : List ℕ
upload_first = 0xF4 ∷ 1 ∷ 0 ∷ 0 ∷ 0 ∷ 0 ∷ 0 ∷ 0 ∷ []

abbrev pub download_one : ℕ → List ℕ
download_one b = 0xF0 ∷ 1 ∷ b ∷ []

-- SHORT_DOWNLOAD of one byte to the first place
abbrev pub download_first : ℕ → List ℕ
download_first b = 0xED ∷ 1 ∷ 0 ∷ 0 ∷ 0 ∷ 0 ∷ 0 ∷ 0 ∷ b ∷ []

-- a session with calibration unlocked; one with lists unlocked
abbrev pub writable : List Call
writable = ask_all [] [] (connect ∷ seed_of_calibration ∷ key_of_calibration ∷ [])

abbrev pub listable : List Call
listable = ask_all [] [] (connect ∷ seed_of_lists ∷ key_of_lists ∷ [])

-- a session up to DOWNLOAD of one byte to the first place, but for its last byte; one up to UPLOAD from there likewise
abbrev pub downloading : ℕ → List ℕ → List Call
downloading b cal = writable ++ (asks cal [] (mta_to 0 0) ++ begun cal [] (download_one b))

abbrev pub uploading : List ℕ → ℕ → List Call
uploading cal n = ask_all cal [] (connect ∷ mta_to 0 0 ∷ []) ++ begun cal [] (upload n)

-- two calibration bytes; a session up to SHORT_DOWNLOAD to the first, after these commands, but for its last byte; one up to SHORT_UPLOAD of it likewise
abbrev pub pair : List ℕ
pair = 5 ∷ 6 ∷ []

abbrev pub loading_first : List (List ℕ) → ℕ → List Call
loading_first ps b = writable ++ (ask_all pair [] ps ++ begun pair [] (download_first b))

abbrev pub fetching_first : List Call
fetching_first = asks pair [] connect ++ begun pair [] upload_first

-- after SHORT_UPLOAD of the first a slot for its answer, and UPLOAD of the second but for its last byte
abbrev pub reading_on : List Call
reading_on = slot ∷ begun pair [] (upload 1)

-- a slot for the answer that waits, commands, each with a slot for its answer, an event, a call on another buffer, and command p but for its last byte
abbrev pub meanwhile : List ℕ → List (List ℕ) → List ℕ → List Call
meanwhile cal ps p = slot ∷ (ask_all cal [] ps ++ Event cal [] 0 0 ∷ Elsewhere ∷ begun cal [] p)

-- ---- lists: freed, and n of them allocated; n ODTs of list l; n entries of its ODT; the pointer; an entry of n bytes, the first of the measured values;
-- event 0; a start; a selection
abbrev pub free_lists : List ℕ
free_lists = 0xD6 ∷ []

abbrev pub alloc_lists : ℕ → List ℕ
alloc_lists n = 0xD5 ∷ 0 ∷ n ∷ 0 ∷ []

abbrev pub alloc_odts : ℕ → ℕ → List ℕ
alloc_odts l n = 0xD4 ∷ 0 ∷ l ∷ 0 ∷ n ∷ []

abbrev pub alloc_entries : ℕ → ℕ → ℕ → List ℕ
alloc_entries l odt n = 0xD3 ∷ 0 ∷ l ∷ 0 ∷ odt ∷ n ∷ []

abbrev pub point_to : ℕ → ℕ → ℕ → List ℕ
point_to l odt e = 0xE2 ∷ 0 ∷ l ∷ 0 ∷ odt ∷ e ∷ []

abbrev pub entry_command : ℕ → List ℕ
entry_command n = 0xE1 ∷ 0xFF ∷ n ∷ 1 ∷ 0 ∷ 0 ∷ 0 ∷ 0 ∷ []

abbrev pub on_event0 : ℕ → List ℕ
on_event0 l = 0xE0 ∷ 0x10 ∷ l ∷ 0 ∷ 0 ∷ 0 ∷ 1 ∷ 0 ∷ []

abbrev pub start : ℕ → List ℕ
start l = 0xDE ∷ 1 ∷ l ∷ 0 ∷ []

abbrev pub select_list : ℕ → List ℕ
select_list l = 0xDE ∷ 2 ∷ l ∷ 0 ∷ []

-- two ODTs for each of n lists; a session with n such lists, and no entries yet
abbrev pub two_odts : ℕ → List (List ℕ)
two_odts zero = []
two_odts (suc n) = two_odts n ++ alloc_odts n 2 ∷ []

abbrev pub with_lists : ℕ → List Call
with_lists n = listable ++ ask_all [] [] (free_lists ∷ alloc_lists n ∷ two_odts n)

-- of two ODTs list 0 has one byte, in its second, and runs on event 0; the answer to its start waits
abbrev pub measuring : List ℕ → List Call
measuring meas = with_lists 1 ++ (ask_all [] meas (alloc_entries 0 1 1 ∷ point_to 0 1 0 ∷ entry_command 1 ∷ on_event0 0 ∷ []) ++ says [] meas (start 0))

-- one list of one ODT
abbrev pub one_odt : List (List ℕ)
one_odt = free_lists ∷ alloc_lists 1 ∷ alloc_odts 0 1 ∷ []

-- an entry of it is written; then it is freed, and as large a one allocated, without entries
abbrev pub freed_again : List Call
freed_again = listable ++ ask_all [] (5 ∷ []) (one_odt ++ (alloc_entries 0 0 1 ∷ point_to 0 0 0 ∷ entry_command 1 ∷ one_odt))

-- so has list l; the answer has gone
abbrev pub listed : ℕ → List Call
listed l = ask_all [] (5 ∷ []) (alloc_entries l 1 1 ∷ point_to l 1 0 ∷ entry_command 1 ∷ on_event0 l ∷ start l ∷ [])

-- four lists of two ODTs run, each with one byte in its second; a sample of each has gone, that of list 3 last
abbrev pub four_lists : List Call
four_lists = with_lists 4 ++ (listed 0 ++ (listed 1 ++ (listed 2 ++ (listed 3 ++ Event [] (5 ∷ []) 0 0 ∷ replicate 8 slot))))

-- a command and two slots, n times
abbrev pub turns : ℕ → List Call
turns zero = []
turns (suc n) = says [] [] synch ++ slot ∷ slot ∷ turns n

-- the same, but for the last slot
abbrev pub almost : ℕ → List Call
almost n = turns (n - 1) ++ (says [] [] synch ++ slot ∷ [])

-- eight slots, and sixteen
abbrev pub eight : List Call
eight = turns 4

abbrev pub sixteen : List Call
sixteen = turns 8

-- the event comes, after `four_lists` again, with another byte and clock 1
abbrev pub sampled_again : List ℕ → List ℕ
sampled_again s = (ours.event s [] (6 ∷ []) 0 1).state
