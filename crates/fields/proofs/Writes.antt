-- DOWNLOAD and SHORT_DOWNLOAD, which are one deed, alone write into the calibration memory: what holds of deeds that write nothing and of that one
-- holds of all. Assumes nothing.
use Rattle.std.proofs.Common.{◌≡◌, ℕ, refl}
use Rattle.std.proofs.Math.Option.{none}
use Rattle.model.specs.declared.Deed.{Deed}
use Rattle.model.specs.declared.Deed.TheVariants.{Refuse, RefuseSize, WrongKey, Connect, Disconnect, Status, Synch, NoSeed, GiveSeed, Unlock, SetMta, Upload, Checksum, Download, ClearList, SetPointer, ClearEntry, WriteEntry, SetMode, Stop, Start, KeepRunning, Select, StopAll, StartSelected, StopSelected, ProcessorInfo, ResolutionInfo, FreeLists, AllocLists, AllocOdts, AllocEntries}
use Rattle.model.specs.Answers.{writes}

module _ (P : Deed → Type 0) (nothing : (d : Deed) → writes d ≡ none → P d) (download : (from a n : ℕ) → P (Download from a n)) where
  pub by_write : (d : Deed) → P d
  unfolding writes
  by_write (Refuse r) = nothing (Refuse r) refl
  by_write RefuseSize = nothing RefuseSize refl
  by_write WrongKey = nothing WrongKey refl
  by_write Connect = nothing Connect refl
  by_write Disconnect = nothing Disconnect refl
  by_write Status = nothing Status refl
  by_write Synch = nothing Synch refl
  by_write NoSeed = nothing NoSeed refl
  by_write (GiveSeed r) = nothing (GiveSeed r) refl
  by_write (Unlock r) = nothing (Unlock r) refl
  by_write (SetMta e a) = nothing (SetMta e a) refl
  by_write (Upload e a n) = nothing (Upload e a n) refl
  by_write (Checksum e a n) = nothing (Checksum e a n) refl
  by_write (Download from a n) = download from a n
  by_write (ClearList l) = nothing (ClearList l) refl
  by_write (SetPointer l o e) = nothing (SetPointer l o e) refl
  by_write (ClearEntry l o e) = nothing (ClearEntry l o e) refl
  by_write (WriteEntry l o e n ext a) = nothing (WriteEntry l o e n ext a) refl
  by_write (SetMode l event) = nothing (SetMode l event) refl
  by_write (Stop l) = nothing (Stop l) refl
  by_write (Start l) = nothing (Start l) refl
  by_write (KeepRunning l) = nothing (KeepRunning l) refl
  by_write (Select l) = nothing (Select l) refl
  by_write StopAll = nothing StopAll refl
  by_write StartSelected = nothing StartSelected refl
  by_write StopSelected = nothing StopSelected refl
  by_write ProcessorInfo = nothing ProcessorInfo refl
  by_write ResolutionInfo = nothing ResolutionInfo refl
  by_write FreeLists = nothing FreeLists refl
  by_write (AllocLists n) = nothing (AllocLists n) refl
  by_write (AllocOdts l n) = nothing (AllocOdts l n) refl
  by_write (AllocEntries l o n) = nothing (AllocEntries l o n) refl
