-- What each deed answers, and what it leaves of the calibration memory.
use Rattle.std.specs.Prelude.{ℕ, cond, List, [], ◌∷◌, length}
use Rattle.std.proofs.Math.Option.{Option, none, some}
use Rattle.std.proofs.lemmas.List.Edits.{sets}
use Rattle.state.specs.Layout.{events, packet_most, entry_most, addressable}
use Rattle.state.specs.Bytes.{block, bytes32}
use Rattle.state.specs.Generator.{next_of}
use Rattle.state.specs.Memory.{pick, block_sum}
use Rattle.state.specs.State.{mask_by}
use Rattle.words.specs.Command.{code_of}
use Rattle.words.specs.declared.Reason.TheVariants as reason
use Rattle.model.specs.Judge.{judge_in}
use Rattle.model.specs.declared.Deed.{Deed}
use Rattle.model.specs.declared.Deed.TheVariants.{Refuse, RefuseSize, WrongKey, Connect, Disconnect, Status, Synch, NoSeed, GiveSeed, Unlock, SetMta, Upload, Checksum, Download, ClearList, SetPointer, ClearEntry, WriteEntry, SetMode, Stop, Start, KeepRunning, Select, StopAll, StartSelected, StopSelected, ProcessorInfo, ResolutionInfo, FreeLists, AllocLists, AllocOdts, AllocEntries}
use Rattle.model.specs.Model.{Session, first_of, some_runs}
use Rattle.model.specs.Step.{unlock, step_in}

-- ---- the answer, by the session and the memories before the deed
unfoldable pub reply_in : Deed → Session → List ℕ → List ℕ → List ℕ
reply_in (Refuse r) c cal meas = 0xFE ∷ code_of r ∷ []
reply_in RefuseSize c cal meas = 0xFE ∷ code_of reason.OutOfRange ∷ 0x00 ∷ 0x00 ∷ bytes32 addressable
reply_in WrongKey c cal meas = 0xFE ∷ code_of reason.WrongKey ∷ []
reply_in Connect c cal meas = 0xFF ∷ 0x05 ∷ 0x00 ∷ packet_most ∷ packet_most ∷ 0x00 ∷ 0x01 ∷ 0x01 ∷ []
reply_in Disconnect c cal meas = 0xFF ∷ []
reply_in Status c cal meas = 0xFF ∷ cond (some_runs c c.lists) 0x40 0x00 ∷ mask_by c.unlocked ∷ 0x00 ∷ 0x00 ∷ 0x00 ∷ []
reply_in Synch c cal meas = 0xFE ∷ 0x00 ∷ []
reply_in NoSeed c cal meas = 0xFF ∷ 0x00 ∷ []
reply_in (GiveSeed r) c cal meas = 0xFF ∷ 0x04 ∷ bytes32 (next_of c.generator)
reply_in (Unlock r) c cal meas = 0xFF ∷ mask_by (unlock r c.unlocked) ∷ []
reply_in (SetMta e a) c cal meas = 0xFF ∷ []
reply_in (Upload e a n) c cal meas = 0xFF ∷ block (pick e cal meas) a n
reply_in (Checksum e a n) c cal meas = 0xFF ∷ 0x02 ∷ 0x00 ∷ 0x00 ∷ bytes32 (block_sum (pick e cal meas) a n)
reply_in (Download from a n) c cal meas = 0xFF ∷ []
reply_in (ClearList l) c cal meas = 0xFF ∷ []
reply_in (SetPointer l o e) c cal meas = 0xFF ∷ []
reply_in (ClearEntry l o e) c cal meas = 0xFF ∷ []
reply_in (WriteEntry l o e n x a) c cal meas = 0xFF ∷ []
reply_in (SetMode l event) c cal meas = 0xFF ∷ []
reply_in (Stop l) c cal meas = 0xFF ∷ first_of c l ∷ []
reply_in (Start l) c cal meas = 0xFF ∷ first_of c l ∷ []
reply_in (KeepRunning l) c cal meas = 0xFF ∷ first_of c l ∷ []
reply_in (Select l) c cal meas = 0xFF ∷ first_of c l ∷ []
reply_in StopAll c cal meas = 0xFF ∷ []
reply_in StartSelected c cal meas = 0xFF ∷ []
reply_in StopSelected c cal meas = 0xFF ∷ []
reply_in ProcessorInfo c cal meas = 0xFF ∷ 0x11 ∷ c.lists ∷ 0x00 ∷ events ∷ 0x00 ∷ 0x00 ∷ 0x00 ∷ []
reply_in ResolutionInfo c cal meas = 0xFF ∷ 0x01 ∷ entry_most ∷ 0x00 ∷ 0x00 ∷ 0x6A ∷ 0x01 ∷ 0x00 ∷ []
reply_in FreeLists c cal meas = 0xFF ∷ []
reply_in (AllocLists n) c cal meas = 0xFF ∷ []
reply_in (AllocOdts l n) c cal meas = 0xFF ∷ []
reply_in (AllocEntries l o n) c cal meas = 0xFF ∷ []

-- ---- what a deed writes into the calibration memory: DOWNLOAD and SHORT_DOWNLOAD alone do, so many bytes of their packet from byte `from` on
pub record Write : Type 0 where
  pub from : ℕ
  pub address : ℕ
  pub count : ℕ

unfoldable pub writes : Deed → Option Write
writes (Refuse r) = none
writes RefuseSize = none
writes WrongKey = none
writes Connect = none
writes Disconnect = none
writes Status = none
writes Synch = none
writes NoSeed = none
writes (GiveSeed r) = none
writes (Unlock r) = none
writes (SetMta e a) = none
writes (Upload e a n) = none
writes (Checksum e a n) = none
writes (Download from a n) = some (record { from = from; address = a; count = n })
writes (ClearList l) = none
writes (SetPointer l o e) = none
writes (ClearEntry l o e) = none
writes (WriteEntry l o e n ext a) = none
writes (SetMode l event) = none
writes (Stop l) = none
writes (Start l) = none
writes (KeepRunning l) = none
writes (Select l) = none
writes StopAll = none
writes StartSelected = none
writes StopSelected = none
writes ProcessorInfo = none
writes ResolutionInfo = none
writes FreeLists = none
writes (AllocLists n) = none
writes (AllocOdts l n) = none
writes (AllocEntries l o n) = none

abbrev pub memory_after : Option Write → List ℕ → List ℕ → List ℕ
memory_after none p cal = cal
memory_after (some w) p cal = sets cal w.address (block p w.from w.count)

-- the calibration memory after a deed whose packet is p
abbrev pub written : Deed → List ℕ → List ℕ → List ℕ
written d p cal = memory_after (writes d) p cal

-- ---- a command in all: the session and the calibration memory after it, and its answer
pub record Done : Type 0 where
  pub session : Session
  pub memory : List ℕ
  pub answer : List ℕ

abbrev pub done_by : Deed → List ℕ → Session → List ℕ → List ℕ → Done
done_by d p c cal meas = record { session = step_in d c; memory = written d p cal; answer = reply_in d c cal meas }

abbrev pub command_in : List ℕ → Session → List ℕ → List ℕ → Done
command_in p c cal meas = done_by (judge_in p c (length cal) (length meas)) p c cal meas
