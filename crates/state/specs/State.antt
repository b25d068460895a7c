-- How each byte of the state reads, and the state with a field changed. Every value of every byte reads as some legal value.
use Rattle.std.specs.Prelude.{ℕ, zero, suc, ◌+◌, ◌-◌, ◌*◌, ◌/◌, ◌%◌, ◌<◌, Bool, false, cond, List, ◌∷◌, ◌++◌, length, take, drop, ◌==◌, nat_le, nat_lt, slice_index, slice_set, Some, None}
use Rattle.std.proofs.lemmas.List.Edits.{sets}
use Rattle.line.specs.Message.{longest}
use Rattle.line.specs.declared.Place.{Place}
use Rattle.line.specs.declared.Place.TheVariants.{Outside, Inside, Escaped}
use Rattle.state.specs.Layout.{all_odts, packet_most, wrong_most, mark, mark_at, generator_at, wrong_keys_at, ctr_at, open_at, calibration_at, lists_at, seed_at, mta_at, address_at, pointer_at, pointer_entry_at, place_at, count_at, message_at, answer_at, answer_bytes_at, session_at, session_size, sample_at, size}
use Rattle.state.specs.Pool.{list_count, first_odt, odt_count, entry_count}
use Rattle.state.specs.Bytes.{u32_at, put32, block, cleared}
use Rattle.state.specs.Generator.{start_of, stays_shut, one_wrong_more}
use Rattle.words.specs.declared.Resource.{Resource}
use Rattle.words.specs.declared.Resource.TheVariants.{Calibration, Lists}
use Rattle.words.specs.declared.Extension.{Extension}
use Rattle.words.specs.declared.Extension.TheVariants.{Calibration as CalibrationMemory, Measured}
use Rattle.words.specs.Values.{Seed}
use Rattle.words.specs.declared.Mta.{Mta}
use Rattle.words.specs.declared.Mta.TheVariants.{Unset, At}
use Rattle.words.specs.declared.Pointer.{Pointer}
use Rattle.words.specs.declared.Pointer.TheVariants.{Unset as NoEntry, At as Entry}

-- a consistent state: the one size, and the mark
unfoldable pub consistent : List ℕ → Bool
consistent s = cond (length s == size) (u32_at s mark_at == mark) false

-- a flag is yes only if its byte is 1
unfoldable pub flag_of : List ℕ → ℕ → Bool
flag_of s i = slice_index s i == 1

-- ---- what runs on across sessions
-- 0 reads as the default
unfoldable pub generator_of : List ℕ → ℕ
generator_of s = start_of (u32_at s generator_at)

unfoldable pub set_generator : List ℕ → ℕ → List ℕ
set_generator s x = put32 s generator_at x

-- wrong keys since power-up; above 3 reads as 3
unfoldable pub wrong_keys_of : List ℕ → ℕ
wrong_keys_of s = cond (stays_shut (slice_index s wrong_keys_at)) wrong_most (slice_index s wrong_keys_at)

-- one more is counted
unfoldable pub counted_wrong : List ℕ → List ℕ
counted_wrong s = slice_set s wrong_keys_at (one_wrong_more (wrong_keys_of s))

abbrev pub ctr_of : List ℕ → ℕ
ctr_of s = slice_index s ctr_at

-- ---- the session
abbrev pub open_of : List ℕ → Bool
open_of s = flag_of s open_at

abbrev pub lock_at : Resource → ℕ
lock_at Calibration = calibration_at
lock_at Lists = lists_at

abbrev pub unlocked_of : List ℕ → Resource → Bool
unlocked_of s r = flag_of s (lock_at r)

-- the locked mask: 01 calibration, 04 lists
abbrev pub bit_of : Resource → ℕ
bit_of Calibration = 0x01
bit_of Lists = 0x04

abbrev pub mask_by : (Resource → Bool) → ℕ
mask_by unlocked = cond (unlocked Calibration) 0 (bit_of Calibration) + cond (unlocked Lists) 0 (bit_of Lists)

unfoldable pub mask_of : List ℕ → ℕ
mask_of s = mask_by (unlocked_of s)

-- the resource of the seed that is out; once it stays shut, none is
unfoldable pub seed_of : List ℕ → Seed
seed_of s =
    cond (stays_shut (wrong_keys_of s)) None
    (cond (slice_index s seed_at == bit_of Calibration) (Some Calibration)
    (cond (slice_index s seed_at == bit_of Lists) (Some Lists)
    None))

unfoldable pub set_seed : List ℕ → Seed → List ℕ
set_seed s None = slice_set s seed_at 0
set_seed s (Some r) = slice_set s seed_at (bit_of r)

abbrev pub mta_tag : Extension → ℕ
mta_tag CalibrationMemory = 1
mta_tag Measured = 2

unfoldable pub mta_of : List ℕ → Mta
mta_of s = cond (slice_index s mta_at == 1) (At CalibrationMemory (u32_at s address_at)) (cond (slice_index s mta_at == 2) (At Measured (u32_at s address_at)) Unset)

unfoldable pub set_mta : List ℕ → Mta → List ℕ
set_mta s Unset = slice_set s mta_at 0
set_mta s (At e a) = put32 (slice_set s mta_at (mta_tag e)) address_at a

-- 1 more than 16 times the list plus its ODT, and the entry; what is no entry reads as unset
abbrev pub pointed_list : List ℕ → ℕ
pointed_list s = (slice_index s pointer_at - 1) / all_odts

abbrev pub pointed_odt : List ℕ → ℕ
pointed_odt s = (slice_index s pointer_at - 1) % all_odts

unfoldable pub pointer_of : List ℕ → Pointer
pointer_of s =
    cond (slice_index s pointer_at == 0) NoEntry
    (cond (nat_le (list_count s) (pointed_list s)) NoEntry
    (cond (nat_le (odt_count s (pointed_list s)) (pointed_odt s)) NoEntry
    (cond (nat_le (entry_count s (first_odt s (pointed_list s) + pointed_odt s)) (slice_index s pointer_entry_at)) NoEntry
    (Entry (pointed_list s) (pointed_odt s) (slice_index s pointer_entry_at)))))

unfoldable pub set_pointer : List ℕ → Pointer → List ℕ
set_pointer s NoEntry = slice_set s pointer_at 0
set_pointer s (Entry l o e) = slice_set (slice_set s pointer_at ((all_odts * l + o + 1) % 256)) pointer_entry_at e

-- one of the entries that there are
abbrev pub Pointed : List ℕ → Pointer → Type 0
Pointed s NoEntry = Unit
Pointed s (Entry l o e) = (l < list_count s) × (o < odt_count s l) × (e < entry_count s (first_odt s l + o))

-- the packets of the n ODTs from k on dropped: of none is there a length
unfoldable pub dropped : List ℕ → ℕ → ℕ → List ℕ
dropped s k zero = s
dropped s k (suc n) = slice_set (dropped s k n) (sample_at (k + n)) 0

-- a closed session, with everything in it as in a fresh one, which has no lists; and a fresh one
unfoldable pub closed : List ℕ → List ℕ
closed s = cleared s session_at session_size

unfoldable pub fresh : List ℕ → List ℕ
fresh s = slice_set (closed s) open_at 1

-- ---- the reader
unfoldable pub place_of : List ℕ → Place
place_of s = cond (slice_index s place_at == 1) (Inside (slice_index s count_at)) (cond (slice_index s place_at == 2) (Escaped (slice_index s count_at)) Outside)

unfoldable pub set_place : List ℕ → Place → List ℕ
set_place s Outside = slice_set s place_at 0
set_place s (Inside k) = slice_set (slice_set s place_at 1) count_at (k % 256)
set_place s (Escaped k) = slice_set (slice_set s place_at 2) count_at (k % 256)

unfoldable pub message_of : List ℕ → List ℕ
message_of s = block s message_at longest

-- the state with the message buffer's bytes changed
unfoldable pub set_message : List ℕ → List ℕ → List ℕ
set_message s m = take message_at s ++ (m ++ drop answer_at s)

-- ---- the waiting answer: none, or 1 to 64 bytes
unfoldable pub answer_length : List ℕ → ℕ
answer_length s = cond (slice_index s answer_at == 0) 0 (cond (nat_lt packet_most (slice_index s answer_at)) 0 (slice_index s answer_at))

abbrev pub waits : List ℕ → Bool
waits s = nat_lt 0 (answer_length s)

-- its first byte reads as FE only if it is FE and the length is 2 or 8, else as FF
unfoldable pub answer_kind : List ℕ → ℕ
answer_kind s =
    cond (slice_index s answer_bytes_at == 0xFE)
    (cond (answer_length s == 2) 0xFE (cond (answer_length s == 8) 0xFE 0xFF))
    0xFF

unfoldable pub answer_of : List ℕ → List ℕ
answer_of s = block (slice_set s answer_bytes_at (answer_kind s)) answer_bytes_at (answer_length s)

-- the state with an answer waiting
unfoldable pub answered : List ℕ → List ℕ → List ℕ
answered s bs = sets s answer_at (length bs ∷ bs)
