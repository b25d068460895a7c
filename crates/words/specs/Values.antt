-- Values that may be unset, and what a call answers: what it did, or why it is refused.
use Rattle.std.specs.Prelude.{ℕ, Option, Result, Ok}
use Rattle.words.specs.declared.Resource.{Resource}
use Rattle.words.specs.declared.Heard.{Heard}
use Rattle.words.specs.declared.Counted.{Counted}
use Rattle.words.specs.declared.NoState.{NoState}
use Rattle.words.specs.declared.EventRefusal.{EventRefusal}
use Rattle.words.specs.declared.SlotRefusal.{SlotRefusal}

-- the resource of the seed that is out; its value is the generator's state
abbrev pub Seed : Type 0
Seed = Option Resource

-- the lock that must be open for a command
abbrev pub Needs : Type 0
Needs = Option Resource

-- what a call answers that was lent no consistent state
abbrev pub no_state : NoState
no_state = record {}

abbrev pub Received : Type 0
Received = Result Heard NoState

abbrev pub Evented : Type 0
Evented = Result Counted EventRefusal

abbrev pub event_done : ℕ → ℕ → Evented
event_done sampled missed = Ok (record { sampled = sampled; missed = missed })

-- a slot: the size of its frame, if it sent one
abbrev pub Slotted : Type 0
Slotted = Result (Option ℕ) SlotRefusal

abbrev pub PoweredUp : Type 0
PoweredUp = Result Unit NoState
