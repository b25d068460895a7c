-- What judging a command has found out of its packet and the session, by the deed that it leads to. Assumes nothing.
use Rattle.std.proofs.Common.{◌≡◌, ℕ, ◌≤◌, ◌<◌, true, false, List, length, Some, subst, le-ltb}
use Rattle.model.specs.Judge.{pointed_in, all_startable, seen_in, judge_in, extension_from}
use Rattle.model.specs.Model.{byte, Session, fits, runs_in, some_started}
use Rattle.state.specs.Layout.{entry_most, addressable}
use Rattle.state.specs.Bytes.{u16_at, u32_at}
use Rattle.state.specs.Memory.{pick}
use Rattle.words.specs.Command.{command_of}
use Rattle.words.specs.declared.Command.{Command}
use Rattle.words.specs.declared.Resource.{Resource}
use Rattle.words.specs.declared.Resource.TheVariants.{Calibration}
use Rattle.words.specs.Values.{Seed}
use Rattle.words.specs.declared.Pointer.{Pointer}
use Rattle.model.specs.declared.Deed.{Deed}
use Rattle.model.specs.Seen.{numbers_of, Seen}
use Rattle.model.specs.declared.Deed.TheVariants.{Refuse, RefuseSize, WrongKey, Connect, Disconnect, Status, Synch, NoSeed, GiveSeed, Unlock, SetMta, Upload, Checksum, Download, ClearList, SetPointer, ClearEntry, WriteEntry, SetMode, Stop, Start, KeepRunning, Select, StopAll, StartSelected, StopSelected, ProcessorInfo, ResolutionInfo, FreeLists, AllocLists, AllocOdts, AllocEntries}
use Rattle.views.proofs.Fit.{entry_low}
use Rattle.views.proofs.Stepped.{Entered}
use Rattle.demands.specs.Heard.{brings_key, key_matches, wrong_key_by, wrong_key}
use Rattle.views.proofs.Coded.{Coded, coded}
use Rattle.views.proofs.Verdict.{Keyed, Pointing, Verdict, refused, connects, disconnects, tells, synchs, no_seed_lem, gives, unlocks, wrong, sets, uploads, shorts, no_size_lem, sums, downloads, short_downloads, clears, points, zeroes, writes, modes, stops, starts, goes_on_lem, selects, stops_all_lem, starts_all, stops_some, processor, resolution, frees, allocs_lists, allocs_odts, allocs_entries, found}

-- UNLOCK with the right key, for the seed that is out
pub record RightKey (r : Resource) (p : List ℕ) (c : Session) : Type 0 where
  pub seed : c.seed ≡ Some r
  pub key : brings_key p ≡ true
  pub right : key_matches p r c ≡ true

-- WRITE_DAQ to an entry of a list that does not run; it fits in the bytes that it is stored in
pub record Entering (l n a : ℕ) (c : Session) : Type 0 where
  pub still : runs_in c l ≡ false
  pub few : n ≤ entry_most
  pub low : a < addressable

-- ALLOC_ODT_ENTRY for an ODT without entries, of a list that does not run
pub record Filling (l o : ℕ) (c : Session) : Type 0 where
  pub still : runs_in c l ≡ false
  pub none : ((c.list l).odt o).entries ≡ 0

-- START_STOP_DAQ_LIST of a list that does not run and can be started
pub record Starting (l : ℕ) (c : Session) : Type 0 where
  pub still : runs_in c l ≡ false
  pub fit : fits (c.list l) ≡ true

-- what was found of packet p and session c; calibration is unlocked where it is written, and the lists that are changed do not run; lists are started that
-- can be; lists are allocated where there are none, ODTs where none was started
abbrev pub Found : Deed → List ℕ → Session → Type 0
Found (Refuse r) p c = Unit
Found RefuseSize p c = Unit
Found WrongKey p c = wrong_key p c ≡ true
Found Connect p c = Unit
Found Disconnect p c = Unit
Found Status p c = Unit
Found Synch p c = Unit
Found NoSeed p c = Unit
Found (GiveSeed r) p c = Unit
Found (Unlock r) p c = RightKey r p c
Found (SetMta e a) p c = Unit
Found (Upload e a n) p c = Unit
Found (Checksum e a n) p c = Unit
Found (Download from a n) p c = c.unlocked Calibration ≡ true
Found (ClearList l) p c = runs_in c l ≡ false
Found (SetPointer l o e) p c = Unit
Found (ClearEntry l o e) p c = runs_in c l ≡ false
Found (WriteEntry l o e n x a) p c = Entering l n a c
Found (SetMode l event) p c = runs_in c l ≡ false
Found (Stop l) p c = Unit
Found (Start l) p c = Starting l c
Found (KeepRunning l) p c = Unit
Found (Select l) p c = Unit
Found StopAll p c = Unit
Found StartSelected p c = all_startable c c.lists ≡ true
Found StopSelected p c = Unit
Found ProcessorInfo p c = Unit
Found ResolutionInfo p c = Unit
Found FreeLists p c = Unit
Found (AllocLists n) p c = c.lists ≡ 0
Found (AllocOdts l n) p c = some_started c c.lists ≡ false
Found (AllocEntries l o n) p c = Filling l o c

-- ---- what the verdict of a packet of bytes found
-- UNLOCK with four key bytes
key_found : (p : List ℕ) (v : Seen) (r : Resource) → byte p 0 ≡ 0xF7 → Keyed (numbers_of p) v r → brings_key p ≡ true
unfolding brings_key
key_found p v r code w = simp (code, w.four, le-ltb (length p) 6 w.long)

wrong_found : (seed : Seed) (r : Resource) (p : List ℕ) (c : Session) → seed ≡ Some r → brings_key p ≡ true → key_matches p r c ≡ false → wrong_key_by seed p c ≡ true
unfolding wrong_key_by
wrong_found seed r p c e key off = rw e (simp (key, off))

module _ (p : List ℕ) (c : Session) (nc nm : ℕ) where
  abbrev seen : Seen
  seen = seen_in (u16_at p 2) (byte p 4) c

  -- the pointer's list does not run
  still_found : (l o e : ℕ) → Pointing seen l o e → runs_in c l ≡ false
  still_found l o e w = subst (λ (q : Pointer). pointed_in q c ≡ false) w.here w.still

  by_verdict : (m : Command) (d : Deed) → Coded (byte p 0) m → Verdict (numbers_of p) seen nc nm m d → Found d p c
  by_verdict _ _ code (refused m r) = tt
  by_verdict _ _ code connects = tt
  by_verdict _ _ code disconnects = tt
  by_verdict _ _ code tells = tt
  by_verdict _ _ code synchs = tt
  by_verdict _ _ code no_seed_lem = tt
  by_verdict _ _ code (gives r still) = tt
  by_verdict _ _ code (unlocks r w right) = record { seed = w.seed; key = key_found p seen r code w; right = right }
  by_verdict _ _ code (wrong r w off) = wrong_found c.seed r p c w.seed (key_found p seen r code w) off
  by_verdict _ _ code sets = tt
  by_verdict _ _ code (uploads x a there inside) = tt
  by_verdict _ _ code (shorts inside) = tt
  by_verdict _ _ code no_size_lem = tt
  by_verdict _ _ code (sums x a there inside) = tt
  by_verdict _ _ code (downloads a free there long inside) = free
  by_verdict _ _ code (short_downloads free named long inside) = free
  by_verdict _ _ code (clears free list still) = still
  by_verdict _ _ code (points free list odt entry) = tt
  by_verdict _ _ code (zeroes l o e free w) = still_found l o e w
  by_verdict _ _ code (writes l o e free w some inside) =
      record { still = still_found l o e w; few = inside.0; low = entry_low (u32_at p 4) (byte p 2) (pick (extension_from (byte p 3)) nc nm) some inside.1 }
  by_verdict _ _ code (modes free list event still) = still
  by_verdict _ _ code (stops free list) = tt
  by_verdict _ _ code (starts free list mode still fit) = record { still = still; fit = fit }
  by_verdict _ _ code (goes_on_lem free list) = tt
  by_verdict _ _ code (selects free list) = tt
  by_verdict _ _ code (stops_all_lem free) = tt
  by_verdict _ _ code (starts_all free mode ready) = ready
  by_verdict _ _ code (stops_some free) = tt
  by_verdict _ _ code processor = tt
  by_verdict _ _ code resolution = tt
  by_verdict _ _ code (frees free) = tt
  by_verdict _ _ code (allocs_lists free freed none some few) = none
  by_verdict _ _ code (allocs_odts free list none unused still some room) = still
  by_verdict _ _ code (allocs_entries free odt none still some room) = record { still = still; none = none }

pub judged : (p : List ℕ) (c : Session) (nc nm : ℕ) → Found (judge_in p c nc nm) p c
unfolding judge_in
judged p c nc nm = by_verdict p c nc nm (command_of (byte p 0)) _ (coded (byte p 0)) (found (numbers_of p) (seen_in (u16_at p 2) (byte p 4) c) nc nm)

-- an entry that is written fits
pub found_entered : (d : Deed) (p : List ℕ) (c : Session) → Found d p c → Entered d
found_entered d p c f l o e n x a same =
    let w : Entering l n a c = subst (λ (y : Deed). Found y p c) same f in
    (w.few, w.low)
