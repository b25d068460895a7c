-- The table of checks: of each command its code, its fewest bytes, the lock that it needs, and what else it is refused for, each check with its code and
-- in the paper's order. It is told from the packet p, the session c before it, and how many bytes of calibration (nc) and of measured values (nm) are lent.
use Rattle.std.specs.Prelude.{ℕ, ◌+◌, ◌≡◌, Bool, true, false, cond, not, ◌&&◌, ◌||◌, List, [], ◌∷◌, eqb, ltb, leb, length, Some, None}
use Rattle.std.proofs.Math.Option.{Option, none, some}
use Rattle.words.specs.declared.Resource.{Resource}
use Rattle.words.specs.declared.Resource.TheVariants.{Calibration, Lists}
use Rattle.words.specs.declared.Extension.TheVariants.{Calibration as CalibrationMemory, Measured}
use Rattle.words.specs.Values.{Seed}
use Rattle.words.specs.declared.Mta.{Mta}
use Rattle.words.specs.declared.Mta.TheVariants.{Unset, At}
use Rattle.words.specs.declared.Pointer.{Pointer}
use Rattle.words.specs.declared.Pointer.TheVariants.{Unset as NoEntry, At as Points}
use Rattle.model.specs.Model.{byte, Session}
use Rattle.views.specs.Words.{any, outside, lent_to, key_for, unfit, running, odts_in_all, entries_in_all}
use Rattle.views.specs.Commands.{two, four}

-- ---- what the session shows
abbrev pub mta_unset : Mta → Bool
mta_unset Unset = true
mta_unset (At e a) = false

-- the MTA is in measured values; n bytes from it on are not inside
abbrev pub mta_measured : Mta → Bool
mta_measured Unset = false
mta_measured (At CalibrationMemory a) = false
mta_measured (At Measured a) = true

abbrev pub mta_outside : Mta → ℕ → ℕ → ℕ → Bool
mta_outside Unset n nc nm = false
mta_outside (At CalibrationMemory a) n nc nm = outside a n nc
mta_outside (At Measured a) n nc nm = outside a n nm

abbrev pub no_seed_out : Seed → Bool
no_seed_out None = true
no_seed_out (Some r) = false

-- the key is not that to the seed that is out, whose value is the generator's
abbrev pub key_wrong : Seed → ℕ → ℕ → Bool
key_wrong None generator key = false
key_wrong (Some r) generator key = not (eqb key (key_for r generator))

abbrev pub no_such_list : Session → ℕ → Bool
no_such_list c l = leb c.lists l

abbrev pub pointer_unset : Pointer → Bool
pointer_unset NoEntry = true
pointer_unset (Points l o e) = false

abbrev pub pointed_runs : Pointer → Session → Bool
pointed_runs NoEntry c = false
pointed_runs (Points l o e) c = running c l

-- ---- a check: the code that it refuses with, and whether it applies
pub record Check : Type 0 where
  pub code : ℕ
  pub applies : Bool

infix 70 ◌when◌
abbrev pub ◌when◌ : ℕ → Bool → Check
code when test = record { code = code; applies = test }

-- ---- each command's own checks, in the paper's order; before them come 21 for too few bytes and 25 for a lock
-- FF CONNECT: mode
abbrev pub of_connect : List ℕ → List Check
of_connect p = 0x22 when not (eqb (byte p 1) 0) ∷ []

-- FC SYNCH: always
abbrev pub of_synch : List Check
of_synch = 0x00 when true ∷ []

-- F8 GET_SEED: three wrong keys since power-up; mode; resource
abbrev pub of_get_seed : List ℕ → Session → List Check
of_get_seed p c =
    0x25 when leb 3 c.wrong_keys
    ∷ 0x29 when eqb (byte p 1) 1
    ∷ 0x22 when ltb 1 (byte p 1)
    ∷ 0x22 when not (eqb (byte p 2) 0x01 || eqb (byte p 2) 0x04)
    ∷ []

-- F7 UNLOCK: no seed; length; bytes missing; the key
abbrev pub of_unlock : List ℕ → Seed → ℕ → List Check
of_unlock p seed generator =
    0x29 when no_seed_out seed
    ∷ 0x22 when not (eqb (byte p 1) 4)
    ∷ 0x21 when ltb (length p) 6
    ∷ 0x25 when key_wrong seed generator (four p 2)
    ∷ []

-- F6 SET_MTA: extension
abbrev pub of_set_mta : List ℕ → List Check
of_set_mta p = 0x22 when ltb 1 (byte p 3) ∷ []

-- F5 UPLOAD: MTA; count; block
abbrev pub of_upload : List ℕ → Mta → ℕ → ℕ → List Check
of_upload p mta nc nm =
    0x29 when mta_unset mta
    ∷ 0x22 when eqb (byte p 1) 0
    ∷ 0x22 when ltb 63 (byte p 1)
    ∷ 0x24 when mta_outside mta (byte p 1) nc nm
    ∷ []

-- F4 SHORT_UPLOAD: count; extension; block
abbrev pub of_short_upload : List ℕ → ℕ → ℕ → List Check
of_short_upload p nc nm =
    0x22 when eqb (byte p 1) 0
    ∷ 0x22 when ltb 63 (byte p 1)
    ∷ 0x22 when ltb 1 (byte p 3)
    ∷ 0x24 when outside (four p 4) (byte p 1) (lent_to (byte p 3) nc nm)
    ∷ []

-- F3 BUILD_CHECKSUM: MTA; size; block
abbrev pub of_build_checksum : List ℕ → Mta → ℕ → ℕ → List Check
of_build_checksum p mta nc nm =
    0x29 when mta_unset mta
    ∷ 0x22 when eqb (four p 4) 0
    ∷ 0x22 when ltb 4096 (four p 4)
    ∷ 0x24 when mta_outside mta (four p 4) nc nm
    ∷ []

-- F0 DOWNLOAD: MTA; count; data missing; extension 1; block
abbrev pub of_download : List ℕ → Mta → ℕ → ℕ → List Check
of_download p mta nc nm =
    0x29 when mta_unset mta
    ∷ 0x22 when eqb (byte p 1) 0
    ∷ 0x22 when ltb 62 (byte p 1)
    ∷ 0x21 when ltb (length p) (byte p 1 + 2)
    ∷ 0x23 when mta_measured mta
    ∷ 0x24 when mta_outside mta (byte p 1) nc nm
    ∷ []

-- ED SHORT_DOWNLOAD: count; extension; data missing; extension 1; block
abbrev pub of_short_download : List ℕ → ℕ → List Check
of_short_download p nc =
    0x22 when eqb (byte p 1) 0
    ∷ 0x22 when ltb 56 (byte p 1)
    ∷ 0x22 when ltb 1 (byte p 3)
    ∷ 0x21 when ltb (length p) (byte p 1 + 8)
    ∷ 0x23 when eqb (byte p 3) 1
    ∷ 0x24 when outside (four p 4) (byte p 1) nc
    ∷ []

-- E3 CLEAR_DAQ_LIST: list; it runs
abbrev pub of_clear_daq_list : List ℕ → Session → List Check
of_clear_daq_list p c =
    0x22 when no_such_list c (two p 2)
    ∷ 0x11 when running c (two p 2)
    ∷ []

-- E2 SET_DAQ_PTR: list; ODT; entry
abbrev pub of_set_daq_ptr : List ℕ → Session → List Check
of_set_daq_ptr p c =
    0x22 when no_such_list c (two p 2)
    ∷ 0x22 when leb (c.list (two p 2)).odts (byte p 4)
    ∷ 0x22 when leb ((c.list (two p 2)).odt (byte p 4)).entries (byte p 5)
    ∷ []

-- E1 WRITE_DAQ: pointer; bit offset; size; extension; the list runs; block, which of size 0 is always inside
abbrev pub of_write_daq : List ℕ → Pointer → Session → ℕ → ℕ → List Check
of_write_daq p pointer c nc nm =
    0x29 when pointer_unset pointer
    ∷ 0x22 when not (eqb (byte p 1) 0xFF)
    ∷ 0x22 when ltb 4 (byte p 2)
    ∷ 0x22 when ltb 1 (byte p 3)
    ∷ 0x11 when pointed_runs pointer c
    ∷ 0x24 when (not (eqb (byte p 2) 0) && outside (four p 4) (byte p 2) (lent_to (byte p 3) nc nm))
    ∷ []

-- E0 SET_DAQ_LIST_MODE: mode; list; event; prescaler; priority; it runs
abbrev pub of_set_daq_list_mode : List ℕ → Session → List Check
of_set_daq_list_mode p c =
    0x22 when not (eqb (byte p 1) 0x10)
    ∷ 0x22 when no_such_list c (two p 2)
    ∷ 0x22 when ltb 1 (two p 4)
    ∷ 0x22 when not (eqb (byte p 6) 1)
    ∷ 0x22 when not (eqb (byte p 7) 0)
    ∷ 0x11 when running c (two p 2)
    ∷ []

-- DE START_STOP_DAQ_LIST: mode; list; a start of one that does not run and cannot be started
abbrev pub of_start_stop_daq_list : List ℕ → Session → List Check
of_start_stop_daq_list p c =
    0x22 when ltb 2 (byte p 1)
    ∷ 0x22 when no_such_list c (two p 2)
    ∷ 0x2A when (eqb (byte p 1) 1 && (not (running c (two p 2)) && unfit (c.list (two p 2))))
    ∷ []

-- DD START_STOP_SYNCH: mode; a start of the selected, of which one does not run and cannot be started
abbrev pub of_start_stop_synch : List ℕ → Session → List Check
of_start_stop_synch p c =
    0x22 when ltb 2 (byte p 1)
    ∷ 0x2A when (eqb (byte p 1) 1 && any c.lists (λ l. (c.list l).selected && (not (running c l) && unfit (c.list l))))
    ∷ []

-- D5 ALLOC_DAQ: FREE_DAQ first, and once; count; the pool's 8 lists
abbrev pub of_alloc_daq : List ℕ → Session → List Check
of_alloc_daq p c =
    0x29 when not c.freed
    ∷ 0x29 when ltb 0 c.lists
    ∷ 0x22 when eqb (two p 2) 0
    ∷ 0x30 when ltb 8 (two p 2)
    ∷ []

-- D4 ALLOC_ODT: ALLOC_DAQ first, no entry yet, once for a list, and no list started; list; count; it runs; the pool's 16 ODTs
abbrev pub of_alloc_odt : List ℕ → Session → List Check
of_alloc_odt p c =
    0x29 when eqb c.lists 0
    ∷ 0x29 when ltb 0 (entries_in_all c)
    ∷ 0x29 when ltb 0 (c.list (two p 2)).odts
    ∷ 0x29 when any c.lists (λ l. (c.list l).started)
    ∷ 0x22 when no_such_list c (two p 2)
    ∷ 0x22 when eqb (byte p 4) 0
    ∷ 0x11 when running c (two p 2)
    ∷ 0x30 when ltb 16 (odts_in_all c + byte p 4)
    ∷ []

-- D3 ALLOC_ODT_ENTRY: ALLOC_ODT first, and once for an ODT; list; ODT; count; it runs; the pool's 128 entries
abbrev pub of_alloc_odt_entry : List ℕ → Session → List Check
of_alloc_odt_entry p c =
    0x29 when eqb (odts_in_all c) 0
    ∷ 0x29 when ltb 0 ((c.list (two p 2)).odt (byte p 4)).entries
    ∷ 0x22 when no_such_list c (two p 2)
    ∷ 0x22 when leb (c.list (two p 2)).odts (byte p 4)
    ∷ 0x22 when eqb (byte p 5) 0
    ∷ 0x11 when running c (two p 2)
    ∷ 0x30 when ltb 128 (entries_in_all c + byte p 5)
    ∷ []

-- ---- the table: code, fewest bytes, the lock that must be open, and these checks; FE, FD, DA, D9 and D6 have none of their own
pub record Row : Type 0 where
  pub code : ℕ
  pub fewest : ℕ
  pub lock : Option Resource
  pub checks : List Check

abbrev pub row : ℕ → ℕ → Option Resource → List Check → Row
row code fewest lock checks = record { code = code; fewest = fewest; lock = lock; checks = checks }

unfoldable pub table : List ℕ → Session → ℕ → ℕ → List Row
table p c nc nm =
    row 0xFF 2 none (of_connect p)
    ∷ row 0xFE 1 none []
    ∷ row 0xFD 1 none []
    ∷ row 0xFC 1 none of_synch
    ∷ row 0xF8 3 none (of_get_seed p c)
    ∷ row 0xF7 2 none (of_unlock p c.seed c.generator)
    ∷ row 0xF6 8 none (of_set_mta p)
    ∷ row 0xF5 2 none (of_upload p c.mta nc nm)
    ∷ row 0xF4 8 none (of_short_upload p nc nm)
    ∷ row 0xF3 8 none (of_build_checksum p c.mta nc nm)
    ∷ row 0xF0 2 (some Calibration) (of_download p c.mta nc nm)
    ∷ row 0xED 8 (some Calibration) (of_short_download p nc)
    ∷ row 0xE3 4 (some Lists) (of_clear_daq_list p c)
    ∷ row 0xE2 6 (some Lists) (of_set_daq_ptr p c)
    ∷ row 0xE1 8 (some Lists) (of_write_daq p c.pointer c nc nm)
    ∷ row 0xE0 8 (some Lists) (of_set_daq_list_mode p c)
    ∷ row 0xDE 4 (some Lists) (of_start_stop_daq_list p c)
    ∷ row 0xDD 2 (some Lists) (of_start_stop_synch p c)
    ∷ row 0xDA 1 (some Lists) []
    ∷ row 0xD9 1 (some Lists) []
    ∷ row 0xD6 1 (some Lists) []
    ∷ row 0xD5 4 (some Lists) (of_alloc_daq p c)
    ∷ row 0xD4 5 (some Lists) (of_alloc_odt p c)
    ∷ row 0xD3 6 (some Lists) (of_alloc_odt_entry p c)
    ∷ []

-- the lock is shut
abbrev pub lock_shut : Option Resource → Session → Bool
lock_shut none c = false
lock_shut (some r) c = not (c.unlocked r)

-- the code of the first check that applies
abbrev pub first_of_these : List Check → Option ℕ
first_of_these [] = none
first_of_these (x ∷ xs) = cond x.applies (some x.code) (first_of_these xs)

-- of a packet of n bytes with that code: too short and locked come before the row's own checks, and a code that no row has is unknown
abbrev pub first_in_row : ℕ → Session → Row → Option ℕ
first_in_row n c r = first_of_these (0x21 when ltb n r.fewest ∷ 0x25 when lock_shut r.lock c ∷ r.checks)

abbrev pub first_in_table : ℕ → ℕ → Session → List Row → Option ℕ
first_in_table code n c [] = some 0x20
first_in_table code n c (r ∷ rs) = cond (eqb code r.code) (first_in_row n c r) (first_in_table code n c rs)

-- the first fault of the command in packet p
unfoldable pub first_fault : List ℕ → Session → ℕ → ℕ → Option ℕ
unfolding table
first_fault p c nc nm = first_in_table (byte p 0) (length p) c (table p c nc nm)

-- ---- how a fault is answered: FE and its code; BUILD_CHECKSUM's 22 has eight bytes, and says the largest size
abbrev pub refusal : ℕ → ℕ → List ℕ
refusal command code = cond (eqb code 0x22 && eqb command 0xF3) (0xFE ∷ 0x22 ∷ 0x00 ∷ 0x00 ∷ 0x00 ∷ 0x10 ∷ 0x00 ∷ 0x00 ∷ []) (0xFE ∷ code ∷ [])

-- answer a is that of packet p: FE and the code of its first fault, and done exactly if it has none
pub record AnswersFirst (p : List ℕ) (c : Session) (nc nm : ℕ) (a : List ℕ) : Type 0 where
  pub refused : (code : ℕ) → first_fault p c nc nm ≡ some code → a ≡ refusal (byte p 0) code
  pub done : first_fault p c nc nm ≡ none → byte a 0 ≡ 0xFF
