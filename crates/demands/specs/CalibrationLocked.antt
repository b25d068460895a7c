-- While calibration is locked no calibration byte changes.
use Rattle.std.specs.Prelude.{ℕ, ◌≡◌, true, false, Bool, cond, List}
use Rattle.state.specs.State.{consistent}
use Rattle.model.specs.Model.{Session}
use Rattle.model.specs.View.{session_of}
use Rattle.demands.specs.Slave.{AnySlave}
use Rattle.demands.specs.Life.{Device, Moment, lived, OfBytes}
use Rattle.words.specs.declared.Resource.TheVariants.{Calibration}
use Rattle.demands.specs.Keys.{RightKeyEnds}

-- the calibration resource is locked, or no session is open
abbrev pub calibration_shut : Session → Bool
calibration_shut c = cond c.opened (cond (c.unlocked Calibration) false true) true

-- a byte comes while calibration is locked, or no session is open
abbrev pub WhileShut : Device → List ℕ → ℕ → Type 0
WhileShut h meas b = calibration_shut (session_of h.state) ≡ true

-- byte b does not end UNLOCK with the right key to calibration
abbrev pub Keyless : Device → List ℕ → ℕ → Type 0
Keyless h meas b = RightKeyEnds h.state b Calibration → ⊥

pub record CalibrationLocked (v : AnySlave) : Type 0 where
  -- while calibration is locked, or no session is open, no calibration byte changes
  pub locked : (s cal meas : List ℕ) (b : ℕ) → calibration_shut (session_of s) ≡ true → (v.receive s cal meas b).cal ≡ cal
  -- so a memory that nothing else writes stays as it is through a life in which calibration is locked whenever a byte comes
  pub locked_on : (h : Device) (ms : List Moment) → OfBytes WhileShut v h ms → (lived v h ms).cal ≡ h.cal
  -- and from any state that is locked or without a session until the right key to calibration comes
  pub locked_till : (h : Device) (ms : List Moment) → consistent h.state ≡ true → calibration_shut (session_of h.state) ≡ true → OfBytes Keyless v h ms → (lived v h ms).cal ≡ h.cal
