-- What each call of a slave shows is what document 01 says of that call, over the model: the answer, and the slave, the memory and the lent bytes after
-- it.
use Rattle.std.specs.Prelude.{ℕ, ◌^◌, ◌≤◌, ◌<◌, ◌≡◌, true, List, length}
use Rattle.line.specs.Message.{room}
use Rattle.state.specs.Layout.{size}
use Rattle.state.specs.State.{consistent}
use Rattle.model.specs.Model.{Bytes}
use Rattle.model.specs.Calls.{powered_up}
use Rattle.model.specs.Whole.{received_in, event_in, slot_in}
use Rattle.model.specs.View.{session_of, view_of}
use Rattle.views.specs.Events.{EventLeaves}
use Rattle.model.specs.Turn.{Turn}
use Rattle.views.specs.Turns.{Goes, Leaves}
use Rattle.views.specs.PoweredUp.{PowerUpLeaves}
use Rattle.views.specs.Shown.{byte_shown, event_shown, slot_shown}
use Rattle.demands.specs.Slave.{AnySlave}

pub record Shows (v : AnySlave) : Type 0 where
  -- of a byte, in a state of bytes: a generator or an address of more than its bytes would read as another
  pub byte : (s cal meas : List ℕ) (b : ℕ) → consistent s ≡ true → Bytes s → b < 256 → byte_shown (v.receive s cal meas b) ≡ received_in b (view_of s) cal meas
  pub event : (s cal meas : List ℕ) (number clock : ℕ) → consistent s ≡ true → event_shown (v.event s cal meas number clock) ≡ event_in number clock (view_of s) cal meas
  pub slot : (s out : List ℕ) → consistent s ≡ true → slot_shown (v.slot s out) ≡ slot_in (view_of s) out
  -- whose turn it is, and why; whose packet it was is gone, and the round begins with the list after it
  pub leaves : (s out : List ℕ) → consistent s ≡ true → room ≤ length out → (t : Turn) × Goes (view_of s) t × Leaves t (view_of s) (view_of (v.slot s out).state)
  pub power_up : (s : List ℕ) (start : ℕ) → length s ≡ size → start < 2 ^ 32 → view_of (v.power_up s start).state ≡ powered_up start
  pub power_up_leaves : (s : List ℕ) (start : ℕ) → length s ≡ size → start < 2 ^ 32 → PowerUpLeaves start (view_of (v.power_up s start).state)
  -- which lists sample and which miss, what is told of them, and where each byte of a sample comes from
  pub samples : (s cal meas : List ℕ) (number clock : ℕ) → consistent s ≡ true → number ≤ 1
      → EventLeaves number clock cal meas (session_of s) (session_of (v.event s cal meas number clock).state) (v.event s cal meas number clock).evented
