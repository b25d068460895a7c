-- What is done: of each deed the state after it, in bytes; its answer and the calibration memory after it are the model's. No check is left.
use Rattle.std.specs.Prelude.{ℕ, ◌+◌, ◌≡◌, List, set, Some, None}
use Rattle.state.specs.Layout.{selected_at}
use Rattle.state.specs.Pool.{list_count, first_odt, entry_count}
use Rattle.state.specs.Generator.{next_of}
use Rattle.state.specs.State.{generator_of, set_generator, counted_wrong, lock_at, set_seed, set_mta, set_pointer, closed, fresh, answered}
use Rattle.lists.specs.Alloc.{lists_freed, lists_allocated, odts_allocated, entries_allocated}
use Rattle.lists.specs.Lists.{stopped, started, list_cleared, mode_set, entry_set, stop_each, start_selected, stop_selected}
use Rattle.words.specs.declared.Extension.{Extension}
use Rattle.words.specs.declared.Extension.TheVariants.{Calibration}
use Rattle.words.specs.declared.Mta.TheVariants.{At}
use Rattle.words.specs.declared.Pointer.TheVariants.{At as Entry}
use Rattle.model.specs.declared.Deed.{Deed}
use Rattle.model.specs.declared.Deed.TheVariants.{Refuse, RefuseSize, WrongKey, Connect, Disconnect, Status, Synch, NoSeed, GiveSeed, Unlock, SetMta, Upload, Checksum, Download, ClearList, SetPointer, ClearEntry, WriteEntry, SetMode, Stop, Start, KeepRunning, Select, StopAll, StartSelected, StopSelected, ProcessorInfo, ResolutionInfo, FreeLists, AllocLists, AllocOdts, AllocEntries}
use Rattle.model.specs.Step.{next_entry}
use Rattle.model.specs.Answers.{reply_in, written}
use Rattle.model.specs.View.{session_of}

-- entry e of list l's ODT o is written, and the next one is pointed to
abbrev pub entry_written : List ℕ → ℕ → ℕ → ℕ → ℕ → Extension → ℕ → List ℕ
entry_written s l o e n ext a =
    set_pointer (entry_set s l (first_odt s l + o) e n ext a) (next_entry (entry_count s (first_odt s l + o)) l o e)

-- ---- the state after a deed, but for its answer
unfoldable pub effect : Deed → List ℕ → List ℕ
effect (Refuse r) s = s
effect RefuseSize s = s
effect WrongKey s = counted_wrong (closed s)
effect Connect s = fresh s
effect Disconnect s = closed s
effect Status s = s
effect Synch s = s
effect NoSeed s = s
effect (GiveSeed r) s = set_seed (set_generator s (next_of (generator_of s))) (Some r)
effect (Unlock r) s = set_seed (set s (lock_at r) 1) None
effect (SetMta e a) s = set_mta s (At e a)
effect (Upload e a n) s = set_mta s (At e (a + n))
effect (Checksum e a n) s = set_mta s (At e (a + n))
effect (Download from a n) s = set_mta s (At Calibration (a + n))
effect (ClearList l) s = list_cleared s l
effect (SetPointer l o e) s = set_pointer s (Entry l o e)
effect (ClearEntry l o e) s = entry_written s l o e 0 Calibration 0
effect (WriteEntry l o e n ext a) s = entry_written s l o e n ext a
effect (SetMode l event) s = mode_set s l event
effect (Stop l) s = stopped s l
effect (Start l) s = started s l
effect (KeepRunning l) s = s
effect (Select l) s = set s (selected_at l) 1
effect StopAll s = stop_each s (list_count s)
effect StartSelected s = start_selected s (list_count s)
effect StopSelected s = stop_selected s (list_count s)
effect ProcessorInfo s = s
effect ResolutionInfo s = s
effect FreeLists s = lists_freed s
effect (AllocLists n) s = lists_allocated s n
effect (AllocOdts l n) s = odts_allocated s l n
effect (AllocEntries l o n) s = entries_allocated s (first_odt s l + o) n

-- the answer, by what the state shows before the deed
abbrev pub reply : Deed → List ℕ → List ℕ → List ℕ → List ℕ
reply d s cal meas = reply_in d (session_of s) cal meas

-- the state with the deed done and its answer waiting
abbrev pub after : Deed → List ℕ → List ℕ → List ℕ → List ℕ
after d s cal meas = answered (effect d s) (reply d s cal meas)

-- a function that leaves s and cal does deed d, whose packet is p, from s₀ and cal₀
pub record Performs (d : Deed) (p s₀ cal₀ meas s cal : List ℕ) : Type 0 where
  pub state : s ≡ after d s₀ cal₀ meas
  pub memory : cal ≡ written d p cal₀
