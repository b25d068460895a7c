-- What each deed makes of the slave, but for its answer.
use Rattle.std.specs.Prelude.{ℕ, ◌+◌, Bool, true, false, cond, [], eqb, Some, None}
use Rattle.state.specs.Generator.{next_of, one_wrong_more}
use Rattle.words.specs.declared.Resource.{Resource}
use Rattle.words.specs.declared.Resource.TheVariants.{Calibration, Lists}
use Rattle.words.specs.declared.Extension.TheVariants.{Calibration as CalibrationMemory}
use Rattle.words.specs.Values.{Seed}
use Rattle.words.specs.declared.Mta.{Mta}
use Rattle.words.specs.declared.Mta.TheVariants.{At}
use Rattle.words.specs.declared.Pointer.{Pointer}
use Rattle.words.specs.declared.Pointer.TheVariants.{Unset as NoEntry, At as Points}
use Rattle.model.specs.declared.Deed.{Deed}
use Rattle.model.specs.declared.Deed.TheVariants.{Refuse, RefuseSize, WrongKey, Connect, Disconnect, Status, Synch, NoSeed, GiveSeed, Unlock, SetMta, Upload, Checksum, Download, ClearList, SetPointer, ClearEntry, WriteEntry, SetMode, Stop, Start, KeepRunning, Select, StopAll, StartSelected, StopSelected, ProcessorInfo, ResolutionInfo, FreeLists, AllocLists, AllocOdts, AllocEntries}
use Rattle.model.specs.Model.{put, Entry, no_entry, Odt, no_odt, DaqList, no_list, Session, Slave, blank, runs}

-- ---- one part changed
abbrev pub with_session : Slave → Session → Slave
with_session v c = record { session = c; place = v.place; message = v.message; answer = v.answer; ctr = v.ctr; last_answer = v.last_answer }

abbrev pub with_generator : Session → ℕ → Session
with_generator c x = record { generator = x; wrong_keys = c.wrong_keys; opened = c.opened; unlocked = c.unlocked; seed = c.seed; mta = c.mta; pointer = c.pointer; freed = c.freed; lists = c.lists; round = c.round; list = c.list }

abbrev pub unlock : Resource → (Resource → Bool) → Resource → Bool
unlock Calibration f Calibration = true
unlock Calibration f Lists = f Lists
unlock Lists f Calibration = f Calibration
unlock Lists f Lists = true

abbrev pub with_lock : Session → Resource → Session
with_lock c r = record { generator = c.generator; wrong_keys = c.wrong_keys; opened = c.opened; unlocked = unlock r c.unlocked; seed = c.seed; mta = c.mta; pointer = c.pointer; freed = c.freed; lists = c.lists; round = c.round; list = c.list }

abbrev pub with_seed : Session → Seed → Session
with_seed c x = record { generator = c.generator; wrong_keys = c.wrong_keys; opened = c.opened; unlocked = c.unlocked; seed = x; mta = c.mta; pointer = c.pointer; freed = c.freed; lists = c.lists; round = c.round; list = c.list }

abbrev pub with_mta : Session → Mta → Session
with_mta c m = record { generator = c.generator; wrong_keys = c.wrong_keys; opened = c.opened; unlocked = c.unlocked; seed = c.seed; mta = m; pointer = c.pointer; freed = c.freed; lists = c.lists; round = c.round; list = c.list }

abbrev pub with_pointer : Session → Pointer → Session
with_pointer c p = record { generator = c.generator; wrong_keys = c.wrong_keys; opened = c.opened; unlocked = c.unlocked; seed = c.seed; mta = c.mta; pointer = p; freed = c.freed; lists = c.lists; round = c.round; list = c.list }

abbrev pub with_lists : Session → (ℕ → DaqList) → Session
with_lists c f = record { generator = c.generator; wrong_keys = c.wrong_keys; opened = c.opened; unlocked = c.unlocked; seed = c.seed; mta = c.mta; pointer = c.pointer; freed = c.freed; lists = c.lists; round = c.round; list = f }

-- list l changed
abbrev pub at : ℕ → (DaqList → DaqList) → Session → Session
at l f c = with_lists c (put l (f (c.list l)) c.list)

-- every list changed
abbrev pub each_list : (ℕ → DaqList → DaqList) → Session → Session
each_list f c = with_lists c (λ l. f l (c.list l))

-- ---- a list's changes
abbrev pub emptied : Odt → Odt
emptied y = record { entries = y.entries; entry = y.entry; store = [] }

-- started or stopped, and its packets dropped
abbrev pub switch : Bool → DaqList → DaqList
switch on x = record { mode = x.mode; selected = x.selected; started = on; odts = x.odts; odt = λ o. emptied (x.odt o) }

abbrev pub select : Bool → DaqList → DaqList
select on x = record { mode = x.mode; selected = on; started = x.started; odts = x.odts; odt = x.odt }

abbrev pub unset : Odt → Odt
unset y = record { entries = y.entries; entry = λ e. no_entry; store = y.store }

-- E3: entries zeroed, mode forgotten, not selected
abbrev pub clear : DaqList → DaqList
clear x = record { mode = 0; selected = false; started = false; odts = x.odts; odt = λ o. unset (x.odt o) }

abbrev pub set_mode : ℕ → DaqList → DaqList
set_mode event x = record { mode = event + 1; selected = x.selected; started = false; odts = x.odts; odt = x.odt }

abbrev pub with_entry : ℕ → Entry → Odt → Odt
with_entry e y o = record { entries = o.entries; entry = put e y o.entry; store = o.store }

abbrev pub set_entry : ℕ → ℕ → Entry → DaqList → DaqList
set_entry o e y x = record { mode = x.mode; selected = x.selected; started = false; odts = x.odts; odt = put o (with_entry e y (x.odt o)) x.odt }

-- ALLOC_ODT: list l has n ODTs; none has entries yet
abbrev pub with_odts : ℕ → ℕ → ℕ → DaqList → DaqList
with_odts l n i x = record { mode = x.mode; selected = x.selected; started = x.started; odts = cond (eqb i l) n x.odts; odt = λ o. no_odt }

-- ALLOC_ODT_ENTRY: ODT o has n entries, each of size 0
abbrev pub with_entries : ℕ → Odt → Odt
with_entries n y = record { entries = n; entry = λ e. no_entry; store = y.store }

abbrev pub alloc_entries : ℕ → ℕ → DaqList → DaqList
alloc_entries o n x = record { mode = x.mode; selected = x.selected; started = x.started; odts = x.odts; odt = put o (with_entries n (x.odt o)) x.odt }

-- START_STOP_SYNCH: what is done to a list, and it is deselected
abbrev pub stop_it : DaqList → DaqList
stop_it x = select false (switch false x)

abbrev pub start_if_selected : Bool → DaqList → DaqList
start_if_selected opened x = select false (cond x.selected (cond (runs opened x) x (switch true x)) x)

abbrev pub stop_if_selected : DaqList → DaqList
stop_if_selected x = select false (cond x.selected (switch false x) x)

-- after the last of an ODT's n entries the pointer is unset
unfoldable pub next_entry : ℕ → ℕ → ℕ → ℕ → Pointer
next_entry n l o e = cond (eqb (e + 1) n) NoEntry (Points l o (e + 1))

-- so many entries has ODT o of list l
abbrev pub entries_there : Session → ℕ → ℕ → ℕ
entries_there c l o = ((c.list l).odt o).entries

-- ---- the lists freed: there are none, and the round begins with list 0; n lists allocated, without ODTs
abbrev pub without_lists : Session → Session
without_lists c = record { generator = c.generator; wrong_keys = c.wrong_keys; opened = c.opened; unlocked = c.unlocked; seed = c.seed; mta = c.mta; pointer = NoEntry; freed = true; lists = 0; round = 0; list = λ l. no_list }

abbrev pub with_new_lists : ℕ → Session → Session
with_new_lists n c = record { generator = c.generator; wrong_keys = c.wrong_keys; opened = c.opened; unlocked = c.unlocked; seed = c.seed; mta = c.mta; pointer = c.pointer; freed = c.freed; lists = n; round = c.round; list = λ l. no_list }

-- ---- the deeds
unfoldable pub step_in : Deed → Session → Session
step_in (Refuse r) c = c
step_in RefuseSize c = c
step_in WrongKey c = blank c.generator (one_wrong_more c.wrong_keys) false
step_in Connect c = blank c.generator c.wrong_keys true
step_in Disconnect c = blank c.generator c.wrong_keys false
step_in Status c = c
step_in Synch c = c
step_in NoSeed c = c
step_in (GiveSeed r) c = with_seed (with_generator c (next_of c.generator)) (Some r)
step_in (Unlock r) c = with_seed (with_lock c r) None
step_in (SetMta e a) c = with_mta c (At e a)
step_in (Upload e a n) c = with_mta c (At e (a + n))
step_in (Checksum e a n) c = with_mta c (At e (a + n))
step_in (Download from a n) c = with_mta c (At CalibrationMemory (a + n))
step_in (ClearList l) c = at l clear c
step_in (SetPointer l o e) c = with_pointer c (Points l o e)
step_in (ClearEntry l o e) c = with_pointer (at l (set_entry o e no_entry) c) (next_entry (entries_there c l o) l o e)
step_in (WriteEntry l o e n x a) c = with_pointer (at l (set_entry o e (record { size = n; extension = x; address = a })) c) (next_entry (entries_there c l o) l o e)
step_in (SetMode l event) c = at l (set_mode event) c
step_in (Stop l) c = at l (switch false) c
step_in (Start l) c = at l (switch true) c
step_in (KeepRunning l) c = c
step_in (Select l) c = at l (select true) c
step_in StopAll c = each_list (λ l. stop_it) c
step_in StartSelected c = each_list (λ l. start_if_selected c.opened) c
step_in StopSelected c = each_list (λ l. stop_if_selected) c
step_in ProcessorInfo c = c
step_in ResolutionInfo c = c
step_in FreeLists c = without_lists c
step_in (AllocLists n) c = with_new_lists n c
step_in (AllocOdts l n) c = each_list (with_odts l n) c
step_in (AllocEntries l o n) c = at l (alloc_entries o n) c

abbrev pub step : Deed → Slave → Slave
step d v = with_session v (step_in d v.session)
