-- Any bytes, at any moment, with any lent memory, get a defined outcome and never a fault. No entry point leans on its caller.
use Rattle.std.specs.Prelude.{ℕ, ◌≤◌, ◌<◌, ◌≡◌, ◌≢◌, true, false, List, length}
use Rattle.line.specs.Message.{room}
use Rattle.state.specs.Layout.{size}
use Rattle.state.specs.State.{consistent}
use Rattle.words.specs.Number.{received_number, evented_number, slotted_number, powered_up_number}
use Rattle.demands.specs.Slave.{AnySlave}
use Rattle.demands.specs.Life.{Device, Moment, lived}

pub record Outcomes (v : AnySlave) : Type 0 where
  -- 10 is for a state that is not consistent, and changes nothing
  pub no_state : (s cal meas out : List ℕ) (b event clock : ℕ) → consistent s ≡ false
      → (received_number (v.receive s cal meas b).received ≡ 10) × ((v.receive s cal meas b).state ≡ s) × ((v.receive s cal meas b).cal ≡ cal)
      × (evented_number (v.event s cal meas event clock).evented ≡ 10) × ((v.event s cal meas event clock).state ≡ s)
      × (slotted_number (v.slot s out).slotted ≡ 10) × ((v.slot s out).state ≡ s) × ((v.slot s out).out ≡ out)
  -- at power-up it is for a state of another size; one of the right size gets 0 and is consistent then, whatever it held
  pub no_size : (s : List ℕ) (start : ℕ) → length s ≢ size → (powered_up_number (v.power_up s start).powered_up ≡ 10) × ((v.power_up s start).state ≡ s)
  pub right_size : (s : List ℕ) (start : ℕ) → length s ≡ size → (powered_up_number (v.power_up s start).powered_up ≡ 0) × (consistent (v.power_up s start).state ≡ true)
  -- 8 is for an event above 1, and changes nothing
  pub bad_event : (s cal meas : List ℕ) (event clock : ℕ) → consistent s ≡ true → 1 < event
      → (evented_number (v.event s cal meas event clock).evented ≡ 8) × ((v.event s cal meas event clock).state ≡ s)
  -- 9 is for a slot with less room than the longest frame, and changes nothing
  pub no_room : (s out : List ℕ) → consistent s ≡ true → length out < room
      → (slotted_number (v.slot s out).slotted ≡ 9) × ((v.slot s out).state ≡ s) × ((v.slot s out).out ≡ out)
  -- no other call of these has such a number
  pub otherwise : (s cal meas out : List ℕ) (b event clock : ℕ) → consistent s ≡ true
      → (received_number (v.receive s cal meas b).received ≤ 7)
      × (event ≤ 1 → evented_number (v.event s cal meas event clock).evented ≡ 0)
      × (room ≤ length out → slotted_number (v.slot s out).slotted ≡ 0)
  -- whatever calls come, a consistent state stays one
  pub stays : (s cal meas out : List ℕ) (b event clock : ℕ) → consistent s ≡ true
      → (consistent (v.receive s cal meas b).state ≡ true) × (consistent (v.event s cal meas event clock).state ≡ true) × (consistent (v.slot s out).state ≡ true)
  -- so it does whatever calls and power-ups come
  pub lasts : (h : Device) (ms : List Moment) → consistent h.state ≡ true → consistent (lived v h ms).state ≡ true
