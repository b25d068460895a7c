-- What a deed leans on: what was judged before it is done, in session c. n is the length of its packet, nc and nm of the lent memories.
use Rattle.std.specs.Prelude.{ℕ, ◌+◌, ◌≤◌, ◌<◌, ◌≡◌, true}
use Rattle.state.specs.Layout.{lists, all_odts, all_entries, events, upload_most, download_most, addressable}
use Rattle.state.specs.Memory.{pick, inside_of}
use Rattle.model.specs.declared.Deed.{Deed}
use Rattle.model.specs.declared.Deed.TheVariants.{Refuse, RefuseSize, WrongKey, Connect, Disconnect, Status, Synch, NoSeed, GiveSeed, Unlock, SetMta, Upload, Checksum, Download, ClearList, SetPointer, ClearEntry, WriteEntry, SetMode, Stop, Start, KeepRunning, Select, StopAll, StartSelected, StopSelected, ProcessorInfo, ResolutionInfo, FreeLists, AllocLists, AllocOdts, AllocEntries}
use Rattle.model.specs.Model.{Session, odts_taken, entries_taken}

-- m bytes from a, at most `most` of them, lie inside a memory of that length
abbrev pub Inside : ℕ → ℕ → ℕ → ℕ → Type 0
Inside most a m len = (m ≤ most) × (inside_of a m len ≡ true)

-- entry e of ODT o of list l is there
abbrev pub Entered : Session → ℕ → ℕ → ℕ → Type 0
Entered c l o e = (l < c.lists) × (o < (c.list l).odts) × (e < ((c.list l).odt o).entries)

abbrev pub Doable : Deed → Session → ℕ → ℕ → ℕ → Type 0
Doable (Refuse r) c n nc nm = Unit
Doable RefuseSize c n nc nm = Unit
Doable WrongKey c n nc nm = Unit
Doable Connect c n nc nm = Unit
Doable Disconnect c n nc nm = Unit
Doable Status c n nc nm = Unit
Doable Synch c n nc nm = Unit
Doable NoSeed c n nc nm = Unit
Doable (GiveSeed r) c n nc nm = Unit
Doable (Unlock r) c n nc nm = Unit
Doable (SetMta e a) c n nc nm = Unit
Doable (Upload e a m) c n nc nm = Inside upload_most a m (pick e nc nm)
Doable (Checksum e a m) c n nc nm = Inside addressable a m (pick e nc nm)
Doable (Download from a m) c n nc nm = (m + from ≤ n) × Inside download_most a m nc
Doable (ClearList l) c n nc nm = l < c.lists
Doable (SetPointer l o e) c n nc nm = Entered c l o e
Doable (ClearEntry l o e) c n nc nm = Entered c l o e
Doable (WriteEntry l o e m ext a) c n nc nm = Entered c l o e
Doable (SetMode l event) c n nc nm = (l < c.lists) × (event < events)
Doable (Stop l) c n nc nm = l < c.lists
Doable (Start l) c n nc nm = l < c.lists
Doable (KeepRunning l) c n nc nm = l < c.lists
Doable (Select l) c n nc nm = l < c.lists
Doable StopAll c n nc nm = Unit
Doable StartSelected c n nc nm = Unit
Doable StopSelected c n nc nm = Unit
Doable ProcessorInfo c n nc nm = Unit
Doable ResolutionInfo c n nc nm = Unit
Doable FreeLists c n nc nm = Unit
Doable (AllocLists m) c n nc nm = (c.freed ≡ true) × (c.lists ≡ 0) × (m ≤ lists)
Doable (AllocOdts l m) c n nc nm = (l < c.lists) × ((c.list l).odts ≡ 0) × (entries_taken c ≡ 0) × (odts_taken c + m ≤ all_odts)
Doable (AllocEntries l o m) c n nc nm = (l < c.lists) × (o < (c.list l).odts) × (((c.list l).odt o).entries ≡ 0) × (entries_taken c + m ≤ all_entries)
