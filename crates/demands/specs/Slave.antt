-- A slave: what each of the four calls answers, and what it leaves of the lent state, memories and bytes.
use Rattle.std.specs.Prelude.{ℕ, List}
use Rattle.session.specs.Receive.{Step, receive_of}
use Rattle.lists.specs.Event.{Happened, event_of}
use Rattle.lists.specs.Slot.{Slot, slot_of}
use Rattle.session.specs.PowerUp.{Power, power_up_of}

pub record AnySlave : Type 0 where
  pub power_up : List ℕ → ℕ → Power
  pub receive : List ℕ → List ℕ → List ℕ → ℕ → Step
  pub event : List ℕ → List ℕ → List ℕ → ℕ → ℕ → Happened
  pub slot : List ℕ → List ℕ → Slot

-- the slave of the public calls' promises
abbrev pub ours : AnySlave
ours = record { power_up = power_up_of; receive = receive_of; event = event_of; slot = slot_of }
