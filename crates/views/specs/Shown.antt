-- What a call in bytes shows: its answer, the slave in the state that it leaves, and the lent bytes.
use Rattle.lists.specs.Event.{Happened}
use Rattle.lists.specs.Slot.{Slot}
use Rattle.session.specs.Receive.{Step}
use Rattle.model.specs.View.{view_of}
use Rattle.model.specs.Whole.{AfterByte, AfterEvent, AfterSlot}

abbrev pub byte_shown : Step → AfterByte
byte_shown o = record { received = o.received; slave = view_of o.state; memory = o.cal }

abbrev pub event_shown : Happened → AfterEvent
event_shown o = record { evented = o.evented; slave = view_of o.state }

abbrev pub slot_shown : Slot → AfterSlot
slot_shown o = record { slotted = o.slotted; slave = view_of o.state; out = o.out }
