-- What a command leads to, by its packet p, what is seen v of the state, and how many bytes of calibration and of measured values are lent. Of each
-- command the checks stand in the paper's order, and the first that applies answers.
use Rattle.std.specs.Prelude.{ℕ, zero, suc, ◌+◌, Bool, true, false, cond, not, List, eqb, ltb, leb, get_or, Some, None}
use Rattle.state.specs.Layout.{lists, all_odts, all_entries, events, entry_most, upload_most, download_from, download_most, short_download_from, short_download_most, addressable}
use Rattle.state.specs.Bytes.{u16_at}
use Rattle.state.specs.Generator.{key_of, stays_shut}
use Rattle.state.specs.Memory.{pick, inside_of}
use Rattle.words.specs.Command.{command_of, fewest, needs_of}
use Rattle.model.specs.Model.{Session, odts_taken, entries_taken, fits, runs_in, some_started}
use Rattle.model.specs.Seen.{Packet, numbers_of, Seen}
use Rattle.words.specs.Values.{Needs, Seed}
use Rattle.words.specs.declared.Command.{Command}
use Rattle.words.specs.declared.Command.TheVariants.{Unknown, Connect, Disconnect, GetStatus, Synch, GetSeed, Unlock, SetMta, Upload, ShortUpload, BuildChecksum, Download, ShortDownload, ClearDaqList, SetDaqPtr, WriteDaq, SetDaqListMode, StartStopDaqList, StartStopSynch, GetDaqProcessorInfo, GetDaqResolutionInfo, FreeDaq, AllocDaq, AllocOdt, AllocOdtEntry}
use Rattle.words.specs.declared.Resource.{Resource}
use Rattle.words.specs.declared.Resource.TheVariants.{Calibration, Lists}
use Rattle.words.specs.declared.Extension.{Extension}
use Rattle.words.specs.declared.Extension.TheVariants.{Calibration as CalibrationMemory, Measured}
use Rattle.words.specs.declared.Mta.{Mta}
use Rattle.words.specs.declared.Mta.TheVariants.{Unset, At}
use Rattle.words.specs.declared.Pointer.{Pointer}
use Rattle.words.specs.declared.Pointer.TheVariants.{Unset as NoEntry, At as Entry}
use Rattle.words.specs.declared.Reason.TheVariants.{Unknown as UnknownCode, TooShort, Locked, Sequence, OutOfRange, DataMissing, ListRuns, ReadOnly, NotInside, CannotStart, PoolFull}
use Rattle.model.specs.declared.Deed.{Deed}
use Rattle.model.specs.declared.Deed.TheVariants as deed

abbrev pub extension_from : ℕ → Extension
extension_from n = cond (eqb n 0) CalibrationMemory Measured

-- CONNECT
unfoldable pub connect_deed : ℕ → Deed
connect_deed mode = cond (eqb mode 0) deed.Connect (deed.Refuse OutOfRange)

-- GET_SEED
abbrev pub seed_deed : Bool → Resource → Deed
seed_deed unlocked r = cond unlocked deed.NoSeed (deed.GiveSeed r)

unfoldable pub get_seed_deed : ℕ → Bool → Bool → ℕ → ℕ → Deed
get_seed_deed wrong cal lis mode resource =
    cond (stays_shut wrong) (deed.Refuse Locked)
    (cond (eqb mode 1) (deed.Refuse Sequence)
    (cond (ltb 1 mode) (deed.Refuse OutOfRange)
    (cond (eqb resource 0x01) (seed_deed cal Calibration)
    (cond (eqb resource 0x04) (seed_deed lis Lists)
    (deed.Refuse OutOfRange)))))

-- UNLOCK
unfoldable pub unlock_by : Seed → ℕ → ℕ → ℕ → ℕ → Deed
unlock_by None g size n key = deed.Refuse Sequence
unlock_by (Some r) g size n key =
    cond (eqb size 4)
    (cond (ltb n 6) (deed.Refuse DataMissing)
    (cond (eqb key (key_of r g)) (deed.Unlock r)
    deed.WrongKey))
    (deed.Refuse OutOfRange)

-- SET_MTA
unfoldable pub set_mta_deed : ℕ → ℕ → Deed
set_mta_deed ext a = cond (ltb 1 ext) (deed.Refuse OutOfRange) (deed.SetMta (extension_from ext) a)

-- UPLOAD
unfoldable pub upload_deed : Mta → ℕ → ℕ → ℕ → Deed
upload_deed Unset n nc nm = deed.Refuse Sequence
upload_deed (At e a) n nc nm =
    cond (eqb n 0) (deed.Refuse OutOfRange)
    (cond (ltb upload_most n) (deed.Refuse OutOfRange)
    (cond (inside_of a n (pick e nc nm)) (deed.Upload e a n)
    (deed.Refuse NotInside)))

-- SHORT_UPLOAD: UPLOAD from its own extension and address
unfoldable pub short_upload_deed : ℕ → ℕ → ℕ → ℕ → ℕ → Deed
short_upload_deed n ext a nc nm =
    cond (eqb n 0) (deed.Refuse OutOfRange)
    (cond (ltb upload_most n) (deed.Refuse OutOfRange)
    (cond (ltb 1 ext) (deed.Refuse OutOfRange)
    (cond (inside_of a n (pick (extension_from ext) nc nm)) (deed.Upload (extension_from ext) a n)
    (deed.Refuse NotInside))))

-- BUILD_CHECKSUM
unfoldable pub checksum_deed : Mta → ℕ → ℕ → ℕ → Deed
checksum_deed Unset n nc nm = deed.Refuse Sequence
checksum_deed (At e a) n nc nm =
    cond (eqb n 0) deed.RefuseSize
    (cond (ltb addressable n) deed.RefuseSize
    (cond (inside_of a n (pick e nc nm)) (deed.Checksum e a n)
    (deed.Refuse NotInside)))

-- DOWNLOAD or SHORT_DOWNLOAD of n bytes, which lie in the packet from byte `from` on
unfoldable pub download_to : ℕ → Extension → ℕ → ℕ → ℕ → Deed
download_to from CalibrationMemory a n nc = cond (inside_of a n nc) (deed.Download from a n) (deed.Refuse NotInside)
download_to from Measured a n nc = deed.Refuse ReadOnly

-- DOWNLOAD; len is the packet's
unfoldable pub download_deed : Mta → ℕ → ℕ → ℕ → Deed
download_deed Unset n len nc = deed.Refuse Sequence
download_deed (At e a) n len nc =
    cond (eqb n 0) (deed.Refuse OutOfRange)
    (cond (ltb download_most n) (deed.Refuse OutOfRange)
    (cond (ltb len (n + download_from)) (deed.Refuse DataMissing)
    (download_to download_from e a n nc)))

-- SHORT_DOWNLOAD: DOWNLOAD to its own extension and address
unfoldable pub short_download_deed : ℕ → ℕ → ℕ → ℕ → ℕ → Deed
short_download_deed n ext a len nc =
    cond (eqb n 0) (deed.Refuse OutOfRange)
    (cond (ltb short_download_most n) (deed.Refuse OutOfRange)
    (cond (ltb 1 ext) (deed.Refuse OutOfRange)
    (cond (ltb len (n + short_download_from)) (deed.Refuse DataMissing)
    (download_to short_download_from (extension_from ext) a n nc))))

-- CLEAR_DAQ_LIST, of so many lists that there are
unfoldable pub clear_deed : ℕ → Bool → ℕ → Deed
clear_deed present runs l =
    cond (leb present l) (deed.Refuse OutOfRange)
    (cond runs (deed.Refuse ListRuns)
    (deed.ClearList l))

-- SET_DAQ_PTR; so many ODTs has the list, so many entries the ODT
unfoldable pub pointer_deed : ℕ → ℕ → ℕ → ℕ → ℕ → ℕ → Deed
pointer_deed present odts entries l o e =
    cond (leb present l) (deed.Refuse OutOfRange)
    (cond (leb odts o) (deed.Refuse OutOfRange)
    (cond (leb entries e) (deed.Refuse OutOfRange)
    (deed.SetPointer l o e)))

-- WRITE_DAQ; a block of size 0 is always inside
unfoldable pub write_block : ℕ → ℕ → ℕ → ℕ → Extension → ℕ → ℕ → Deed
write_block l o e n ext a len =
    cond (eqb n 0) (deed.ClearEntry l o e)
    (cond (inside_of a n len) (deed.WriteEntry l o e n ext a)
    (deed.Refuse NotInside))

unfoldable pub write_deed : Pointer → Bool → ℕ → ℕ → ℕ → ℕ → ℕ → ℕ → Deed
write_deed NoEntry runs bit n ext a nc nm = deed.Refuse Sequence
write_deed (Entry l o e) runs bit n ext a nc nm =
    cond (eqb bit 0xFF)
    (cond (ltb entry_most n) (deed.Refuse OutOfRange)
    (cond (ltb 1 ext) (deed.Refuse OutOfRange)
    (cond runs (deed.Refuse ListRuns)
    (write_block l o e n (extension_from ext) a (pick (extension_from ext) nc nm)))))
    (deed.Refuse OutOfRange)

-- SET_DAQ_LIST_MODE
unfoldable pub mode_deed : ℕ → Bool → ℕ → ℕ → ℕ → ℕ → ℕ → Deed
mode_deed present runs mode l event prescaler priority =
    cond (eqb mode 0x10)
    (cond (leb present l) (deed.Refuse OutOfRange)
    (cond (leb events event) (deed.Refuse OutOfRange)
    (cond (eqb prescaler 1)
    (cond (eqb priority 0)
    (cond runs (deed.Refuse ListRuns)
    (deed.SetMode l event))
    (deed.Refuse OutOfRange))
    (deed.Refuse OutOfRange))))
    (deed.Refuse OutOfRange)

-- START_STOP_DAQ_LIST; of a list that runs no more is asked
unfoldable pub start_deed : Bool → Bool → ℕ → Deed
start_deed runs fit l =
    cond runs (deed.KeepRunning l)
    (cond fit (deed.Start l)
    (deed.Refuse CannotStart))

unfoldable pub start_stop_deed : ℕ → Bool → Bool → ℕ → ℕ → Deed
start_stop_deed present runs fit mode l =
    cond (ltb 2 mode) (deed.Refuse OutOfRange)
    (cond (leb present l) (deed.Refuse OutOfRange)
    (cond (eqb mode 0) (deed.Stop l)
    (cond (eqb mode 1) (start_deed runs fit l)
    (deed.Select l))))

-- START_STOP_SYNCH
unfoldable pub synch_deed : Bool → ℕ → Deed
synch_deed ready mode =
    cond (ltb 2 mode) (deed.Refuse OutOfRange)
    (cond (eqb mode 0) deed.StopAll
    (cond (eqb mode 1) (cond ready deed.StartSelected (deed.Refuse CannotStart))
    deed.StopSelected))

-- ALLOC_DAQ: first FREE_DAQ, and once
unfoldable pub alloc_lists_deed : Bool → ℕ → ℕ → Deed
alloc_lists_deed freed present n =
    cond freed
    (cond (ltb 0 present) (deed.Refuse Sequence)
    (cond (eqb n 0) (deed.Refuse OutOfRange)
    (cond (ltb lists n) (deed.Refuse PoolFull)
    (deed.AllocLists n))))
    (deed.Refuse Sequence)

-- ALLOC_ODT: first ALLOC_DAQ, no ALLOC_ODT_ENTRY yet, no list started, and once for a list. A list without ODTs does not run, so that it is not asked
unfoldable pub alloc_odts_deed : ℕ → ℕ → ℕ → ℕ → Bool → ℕ → ℕ → Deed
alloc_odts_deed present odts taken entries started l n =
    cond (eqb present 0) (deed.Refuse Sequence)
    (cond (ltb 0 entries) (deed.Refuse Sequence)
    (cond (ltb 0 odts) (deed.Refuse Sequence)
    (cond started (deed.Refuse Sequence)
    (cond (leb present l) (deed.Refuse OutOfRange)
    (cond (eqb n 0) (deed.Refuse OutOfRange)
    (cond (ltb all_odts (taken + n)) (deed.Refuse PoolFull)
    (deed.AllocOdts l n)))))))

-- ALLOC_ODT_ENTRY: first ALLOC_ODT, and once for an ODT
unfoldable pub alloc_entries_deed : ℕ → ℕ → ℕ → ℕ → Bool → ℕ → ℕ → ℕ → Deed
alloc_entries_deed odts entries odts_all taken runs l o n =
    cond (eqb odts_all 0) (deed.Refuse Sequence)
    (cond (ltb 0 entries) (deed.Refuse Sequence)
    (cond (leb odts o) (deed.Refuse OutOfRange)
    (cond (eqb n 0) (deed.Refuse OutOfRange)
    (cond runs (deed.Refuse ListRuns)
    (cond (ltb all_entries (taken + n)) (deed.Refuse PoolFull)
    (deed.AllocEntries l o n))))))

-- each command's own checks
unfoldable pub judge_the : Command → Packet → Seen → ℕ → ℕ → Deed
judge_the Unknown p v nc nm = deed.Refuse UnknownCode
judge_the Connect p v nc nm = connect_deed p.b1
judge_the Disconnect p v nc nm = deed.Disconnect
judge_the GetStatus p v nc nm = deed.Status
judge_the Synch p v nc nm = deed.Synch
judge_the GetSeed p v nc nm = get_seed_deed v.wrong_keys v.calibration v.lists p.b1 p.b2
judge_the Unlock p v nc nm = unlock_by v.seed v.generator p.b1 p.n p.d2
judge_the SetMta p v nc nm = set_mta_deed p.b3 p.d4
judge_the Upload p v nc nm = upload_deed v.mta p.b1 nc nm
judge_the ShortUpload p v nc nm = short_upload_deed p.b1 p.b3 p.d4 nc nm
judge_the BuildChecksum p v nc nm = checksum_deed v.mta p.d4 nc nm
judge_the Download p v nc nm = download_deed v.mta p.b1 p.n nc
judge_the ShortDownload p v nc nm = short_download_deed p.b1 p.b3 p.d4 p.n nc
judge_the ClearDaqList p v nc nm = clear_deed v.present v.runs p.w2
judge_the SetDaqPtr p v nc nm = pointer_deed v.present v.odts v.entries p.w2 p.b4 p.b5
judge_the WriteDaq p v nc nm = write_deed v.pointer v.pointed p.b1 p.b2 p.b3 p.d4 nc nm
judge_the SetDaqListMode p v nc nm = mode_deed v.present v.runs p.b1 p.w2 p.w4 p.b6 p.b7
judge_the StartStopDaqList p v nc nm = start_stop_deed v.present v.runs v.fits p.b1 p.w2
judge_the StartStopSynch p v nc nm = synch_deed v.ready p.b1
judge_the GetDaqProcessorInfo p v nc nm = deed.ProcessorInfo
judge_the GetDaqResolutionInfo p v nc nm = deed.ResolutionInfo
judge_the FreeDaq p v nc nm = deed.FreeLists
judge_the AllocDaq p v nc nm = alloc_lists_deed v.freed v.present p.w2
judge_the AllocOdt p v nc nm = alloc_odts_deed v.present v.odts v.odts_taken v.entries_taken v.started p.w2 p.b4
judge_the AllocOdtEntry p v nc nm = alloc_entries_deed v.odts v.entries v.odts_taken v.entries_taken v.runs p.w2 p.b4 p.b5

-- the lock that a command needs is shut
abbrev pub locked_by : Needs → Seen → Bool
locked_by None v = false
locked_by (Some Calibration) v = not v.calibration
locked_by (Some Lists) v = not v.lists

-- too short and locked, once for all commands; an unknown code is never either, and `judge_the` refuses it
unfoldable pub judge_by : Command → Packet → Seen → ℕ → ℕ → Deed
judge_by c p v nc nm =
    cond (ltb p.n (fewest c)) (deed.Refuse TooShort)
    (cond (locked_by (needs_of c) v) (deed.Refuse Locked)
    (judge_the c p v nc nm))

unfoldable pub judge : Packet → Seen → ℕ → ℕ → Deed
judge p v nc nm = judge_by (command_of p.b0) p v nc nm

-- ---- what is seen of a session
-- the pointer's list runs
abbrev pub pointed_in : Pointer → Session → Bool
pointed_in NoEntry c = false
pointed_in (Entry l o e) c = runs_in c l

-- every selected one of the first n lists runs or can be started
abbrev pub startable : Session → ℕ → Bool
startable c l = cond (c.list l).selected (cond (runs_in c l) true (fits (c.list l))) true

unfoldable pub all_startable : Session → ℕ → Bool
all_startable c zero = true
all_startable c (suc n) = cond (all_startable c n) (startable c n) false

-- by the checks of a command that names list l and its ODT o
abbrev pub seen_in : ℕ → ℕ → Session → Seen
seen_in l o c = record {
  wrong_keys = c.wrong_keys;
  calibration = c.unlocked Calibration;
  lists = c.unlocked Lists;
  seed = c.seed;
  generator = c.generator;
  mta = c.mta;
  pointer = c.pointer;
  freed = c.freed;
  present = c.lists;
  odts_taken = odts_taken c;
  entries_taken = entries_taken c;
  odts = (c.list l).odts;
  entries = ((c.list l).odt o).entries;
  runs = runs_in c l;
  fits = fits (c.list l);
  pointed = pointed_in c.pointer c;
  ready = all_startable c c.lists;
  started = some_started c c.lists;
}

-- what the command in packet p leads to
unfoldable pub judge_in : List ℕ → Session → ℕ → ℕ → Deed
judge_in p c nc nm = judge (numbers_of p) (seen_in (u16_at p 2) (get_or p 4 0) c) nc nm
