-- The life of a slave: power-ups and calls in any order, over one calibration memory that nothing else writes.
use Rattle.std.specs.Prelude.{ℕ, List, [], ◌∷◌, ◌++◌}
use Rattle.demands.specs.Slave.{AnySlave}
use Rattle.demands.specs.Runs.{SendingSlot, sends}

-- what lasts from call to call
pub record Device : Type 0 where
  pub state : List ℕ
  pub cal : List ℕ

-- the power comes on; or a call: a byte or an event, with the measured memory that is lent to it, or a slot, with the bytes lent to it
pub data Moment : Type 0 where
  PowerOn : (start : ℕ) → Moment
  Hears : (meas : List ℕ) (b : ℕ) → Moment
  OnEvent : (meas : List ℕ) (event clock : ℕ) → Moment
  Serves : (out : List ℕ) → Moment

-- the device once a moment has passed, and once a life has
abbrev pub after_moment : AnySlave → Device → Moment → Device
after_moment v h (PowerOn start) = record { state = (v.power_up h.state start).state; cal = h.cal }
after_moment v h (Hears meas b) = record { state = (v.receive h.state h.cal meas b).state; cal = (v.receive h.state h.cal meas b).cal }
after_moment v h (OnEvent meas event clock) = record { state = (v.event h.state h.cal meas event clock).state; cal = h.cal }
after_moment v h (Serves out) = record { state = (v.slot h.state out).state; cal = h.cal }

abbrev pub lived : AnySlave → Device → List Moment → Device
lived v h [] = h
lived v h (m ∷ ms) = lived v (after_moment v h m) ms

-- the frame that a moment sends, if any; those of a life
abbrev pub sends_at : AnySlave → Device → Moment → List (List ℕ)
sends_at v h (PowerOn start) = []
sends_at v h (Hears meas b) = []
sends_at v h (OnEvent meas event clock) = []
sends_at v h (Serves out) = sends v h.state (SendingSlot out)

abbrev pub sent_in_life : AnySlave → Device → List Moment → List (List ℕ)
sent_in_life v h [] = []
sent_in_life v h (m ∷ ms) = sends_at v h m ++ sent_in_life v (after_moment v h m) ms

-- P holds of every byte that comes in a life, and of the device as it then is
abbrev pub OfByte : (Device → List ℕ → ℕ → Type 0) → Device → Moment → Type 0
OfByte P h (PowerOn start) = Unit {0}
OfByte P h (Hears meas b) = P h meas b
OfByte P h (OnEvent meas event clock) = Unit {0}
OfByte P h (Serves out) = Unit {0}

abbrev pub OfBytes : (Device → List ℕ → ℕ → Type 0) → AnySlave → Device → List Moment → Type 0
OfBytes P v h [] = Unit {0}
OfBytes P v h (m ∷ ms) = OfByte P h m × OfBytes P v (after_moment v h m) ms
