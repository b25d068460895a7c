-- The commands: their codes, fewest bytes and locks; the extensions and resources, and the reasons of a refusal.
use Rattle.std.specs.Prelude.{ℕ, cond, eqb, Some, None, Result, Ok, Err}
use Rattle.words.specs.declared.Command.{Command}
use Rattle.words.specs.declared.Command.TheVariants.{Unknown, Connect, Disconnect, GetStatus, Synch, GetSeed, Unlock, SetMta, Upload, ShortUpload, BuildChecksum, Download, ShortDownload, ClearDaqList, SetDaqPtr, WriteDaq, SetDaqListMode, StartStopDaqList, StartStopSynch, GetDaqProcessorInfo, GetDaqResolutionInfo, FreeDaq, AllocDaq, AllocOdt, AllocOdtEntry}
use Rattle.words.specs.Values.{Needs}
use Rattle.words.specs.declared.Resource.{Resource}
use Rattle.words.specs.declared.Resource.TheVariants.{Calibration, Lists}
use Rattle.words.specs.declared.Extension.{Extension}
use Rattle.words.specs.declared.Extension.TheVariants.{Calibration as CalibrationMemory, Measured}
use Rattle.words.specs.declared.Reason.{Reason}
use Rattle.words.specs.declared.Reason.TheVariants.{Unknown as UnknownCode, TooShort, Locked, Sequence, OutOfRange, DataMissing, ListRuns, ReadOnly, NotInside, CannotStart, PoolFull, WrongKey}

-- every other code is unknown
unfoldable pub command_of : ℕ → Command
command_of code =
    cond (eqb code 0xFF) Connect
    (cond (eqb code 0xFE) Disconnect
    (cond (eqb code 0xFD) GetStatus
    (cond (eqb code 0xFC) Synch
    (cond (eqb code 0xF8) GetSeed
    (cond (eqb code 0xF7) Unlock
    (cond (eqb code 0xF6) SetMta
    (cond (eqb code 0xF5) Upload
    (cond (eqb code 0xF4) ShortUpload
    (cond (eqb code 0xF3) BuildChecksum
    (cond (eqb code 0xF0) Download
    (cond (eqb code 0xED) ShortDownload
    (cond (eqb code 0xE3) ClearDaqList
    (cond (eqb code 0xE2) SetDaqPtr
    (cond (eqb code 0xE1) WriteDaq
    (cond (eqb code 0xE0) SetDaqListMode
    (cond (eqb code 0xDE) StartStopDaqList
    (cond (eqb code 0xDD) StartStopSynch
    (cond (eqb code 0xDA) GetDaqProcessorInfo
    (cond (eqb code 0xD9) GetDaqResolutionInfo
    (cond (eqb code 0xD6) FreeDaq
    (cond (eqb code 0xD5) AllocDaq
    (cond (eqb code 0xD4) AllocOdt
    (cond (eqb code 0xD3) AllocOdtEntry
    Unknown)))))))))))))))))))))))

-- an unknown command is never too short
abbrev pub fewest : Command → ℕ
fewest Unknown = 0
fewest Connect = 2
fewest Disconnect = 1
fewest GetStatus = 1
fewest Synch = 1
fewest GetSeed = 3
fewest Unlock = 2
fewest SetMta = 8
fewest Upload = 2
fewest ShortUpload = 8
fewest BuildChecksum = 8
fewest Download = 2
fewest ShortDownload = 8
fewest ClearDaqList = 4
fewest SetDaqPtr = 6
fewest WriteDaq = 8
fewest SetDaqListMode = 8
fewest StartStopDaqList = 4
fewest StartStopSynch = 2
fewest GetDaqProcessorInfo = 1
fewest GetDaqResolutionInfo = 1
fewest FreeDaq = 1
fewest AllocDaq = 4
fewest AllocOdt = 5
fewest AllocOdtEntry = 6

-- F0 and ED need calibration, E3 to D3 need lists
abbrev pub needs_of : Command → Needs
needs_of Unknown = None
needs_of Connect = None
needs_of Disconnect = None
needs_of GetStatus = None
needs_of Synch = None
needs_of GetSeed = None
needs_of Unlock = None
needs_of SetMta = None
needs_of Upload = None
needs_of ShortUpload = None
needs_of BuildChecksum = None
needs_of Download = Some Calibration
needs_of ShortDownload = Some Calibration
needs_of ClearDaqList = Some Lists
needs_of SetDaqPtr = Some Lists
needs_of WriteDaq = Some Lists
needs_of SetDaqListMode = Some Lists
needs_of StartStopDaqList = Some Lists
needs_of StartStopSynch = Some Lists
needs_of GetDaqProcessorInfo = Some Lists
needs_of GetDaqResolutionInfo = Some Lists
needs_of FreeDaq = Some Lists
needs_of AllocDaq = Some Lists
needs_of AllocOdt = Some Lists
needs_of AllocOdtEntry = Some Lists

-- the code of each reason; 0x21 and 0x25 have two each
abbrev pub code_of : Reason → ℕ
code_of UnknownCode = 0x20
code_of TooShort = 0x21
code_of Locked = 0x25
code_of Sequence = 0x29
code_of OutOfRange = 0x22
code_of DataMissing = 0x21
code_of ListRuns = 0x11
code_of ReadOnly = 0x23
code_of NotInside = 0x24
code_of CannotStart = 0x2A
code_of PoolFull = 0x30
code_of WrongKey = 0x25

-- 0 is calibration, 1 is measured values, and no other number is an extension
abbrev pub extension_of : ℕ → Result Extension Reason
extension_of n = cond (eqb n 0) (Ok CalibrationMemory) (cond (eqb n 1) (Ok Measured) (Err OutOfRange))

-- 1 is calibration, 4 is the lists, and no other number is a resource
abbrev pub resource_of : ℕ → Result Resource Reason
resource_of n = cond (eqb n 0x01) (Ok Calibration) (cond (eqb n 0x04) (Ok Lists) (Err OutOfRange))
