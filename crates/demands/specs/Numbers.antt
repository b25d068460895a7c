-- Which answers of one call share a number, and which reasons of a refusal share a code: those of one sort, and no others.
use Rattle.std.specs.Prelude.{None, Ok, Err}
use Rattle.words.specs.Values.{Evented, event_done, Slotted}
use Rattle.words.specs.declared.Reason.{Reason}
use Rattle.words.specs.declared.Reason.TheVariants.{Unknown, TooShort, Locked, Sequence, OutOfRange, DataMissing, ListRuns, ReadOnly, NotInside, CannotStart, PoolFull, WrongKey}

-- an event that is done, whatever it counted
abbrev pub event_sort : Evented → Evented
event_sort (Ok counted) = event_done 0 0
event_sort (Err refusal) = Err refusal

-- a slot that is done, with a frame or without
abbrev pub slot_sort : Slotted → Slotted
slot_sort (Ok sent) = Ok None
slot_sort (Err refusal) = Err refusal

-- a packet too short and bytes missing in it; a lock and a wrong key
abbrev pub reason_sort : Reason → Reason
reason_sort Unknown = Unknown
reason_sort TooShort = TooShort
reason_sort Locked = Locked
reason_sort Sequence = Sequence
reason_sort OutOfRange = OutOfRange
reason_sort DataMissing = TooShort
reason_sort ListRuns = ListRuns
reason_sort ReadOnly = ReadOnly
reason_sort NotInside = NotInside
reason_sort CannotStart = CannotStart
reason_sort PoolFull = PoolFull
reason_sort WrongKey = Locked
