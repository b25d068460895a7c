-- Any bytes, at any moment, with any lent memory, get a defined outcome and never a fault. Each refusal has one fixed number, and apart from a wrong
-- key, which ends the session and is counted, a refused command changes no memory byte, setting, list or lock.
use Rattle.demands.specs.Slave.{AnySlave}
use Rattle.demands.specs.Outcomes.{Outcomes}
use Rattle.demands.specs.Refusals.{Refusals}

pub record Demand1 (v : AnySlave) : Type 0 where
  pub outcomes : Outcomes v
  pub refusals : Refusals v
