-- The paper's number and value for each answer of a call.
use Rattle.std.specs.Prelude.{ℕ, ◌+◌, ◌*◌, Some, None, Ok, Err}
use Rattle.words.specs.Values.{Received, Evented, Slotted, PoweredUp}
use Rattle.words.specs.declared.EventRefusal.TheVariants.{BadEvent, NoState}
use Rattle.words.specs.declared.Heard.TheVariants.{Nothing, Answered, Silent, BadLength, BadEscape, BadChecksum, Unread, CutOff}
use Rattle.words.specs.declared.SlotRefusal.TheVariants.{NoRoom, NoState as NoStateSlot}

abbrev pub received_number : Received → ℕ
received_number (Ok Nothing) = 0
received_number (Ok Answered) = 1
received_number (Ok Silent) = 2
received_number (Ok BadLength) = 3
received_number (Ok BadEscape) = 4
received_number (Ok BadChecksum) = 5
received_number (Ok Unread) = 6
received_number (Ok CutOff) = 7
received_number (Err _) = 10

abbrev pub evented_number : Evented → ℕ
evented_number (Ok counted) = 0
evented_number (Err BadEvent) = 8
evented_number (Err NoState) = 10

abbrev pub slotted_number : Slotted → ℕ
slotted_number (Ok None) = 0
slotted_number (Ok (Some size)) = 0
slotted_number (Err NoRoom) = 9
slotted_number (Err NoStateSlot) = 10

abbrev pub powered_up_number : PoweredUp → ℕ
powered_up_number (Ok _) = 0
powered_up_number (Err _) = 10

-- the value of a call that is done: 256 times the sampled lists plus the missed, or a slot's size; a refusal has 0
abbrev pub evented_value : Evented → ℕ
evented_value (Ok counted) = 256 * counted.sampled + counted.missed
evented_value (Err BadEvent) = 0
evented_value (Err NoState) = 0

abbrev pub slotted_value : Slotted → ℕ
slotted_value (Ok None) = 0
slotted_value (Ok (Some size)) = size
slotted_value (Err NoRoom) = 0
slotted_value (Err NoStateSlot) = 0

-- to C: 65,536 times the number, plus the value
abbrev pub received_c : Received → ℕ
received_c r = 65536 * received_number r

abbrev pub evented_c : Evented → ℕ
evented_c r = evented_value r + 65536 * evented_number r

abbrev pub slotted_c : Slotted → ℕ
slotted_c r = slotted_value r + 65536 * slotted_number r

abbrev pub powered_up_c : PoweredUp → ℕ
powered_up_c r = 65536 * powered_up_number r
