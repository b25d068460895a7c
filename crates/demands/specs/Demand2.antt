-- What it does on the wire and in memory is what XCP and its SxI transport say, with our choices in document 01. Bytes are read by those rules, and
-- what it sends reads back by the same rules as the very packet meant. While calibration is locked no calibration byte changes.
use Rattle.std.specs.Prelude.{ℕ, ◌≤◌, ◌≡◌, true, List}
use Rattle.state.specs.State.{consistent}
use Rattle.model.specs.View.{session_of}
use Rattle.demands.specs.Slave.{AnySlave}
use Rattle.demands.specs.Waiting.{waiting_of, sample_of}
use Rattle.views.specs.Events.{takes_sample}
use Rattle.demands.specs.AsDefined.{AsDefined}
use Rattle.demands.specs.Wire.{Wire}
use Rattle.demands.specs.Keys.{Keys}
use Rattle.demands.specs.CalibrationLocked.{CalibrationLocked}
use Rattle.demands.specs.Memory.{Memory}

pub record Demand2 (v : AnySlave) : Type 0 where
  pub as_defined : AsDefined v
  pub wire : Wire v
  pub locked : CalibrationLocked v
  pub memory : Memory v
  pub keys : Keys v
  -- the lists that an event samples gain a sample, each byte as the memories lent to this event hold it
  pub gains_sample : (s cal meas : List ℕ) (event clock l : ℕ) → consistent s ≡ true → event ≤ 1 → takes_sample (session_of s) event l ≡ true
      → waiting_of (v.event s cal meas event clock).state l ≡ sample_of s l clock cal meas
