-- The second demand is met. Assumes nothing.
use Rattle.demands.specs.Slave.{ours}
use Rattle.demands.specs.Wire.{Wire}
use Rattle.demands.specs.CalibrationLocked.{CalibrationLocked}
use Rattle.demands.specs.Memory.{Memory}
use Rattle.demands.specs.Keys.{Keys}
use Rattle.demands.specs.AsDefined.{AsDefined}
use Rattle.demands.specs.Demand2.{Demand2}
use Rattle.demands.proofs.Received.{received_by_lem}
use Rattle.demands.proofs.Numbering.{power_up_is, frames_numbered}
use Rattle.demands.proofs.Sends.{slot_is, slot_reads_back, slot_past}
use Rattle.demands.proofs.Locks.{locked_keeps, unlocks_own}
use Rattle.demands.proofs.Keys.{seed_opens_lem}
use Rattle.demands.proofs.Opening.{opens_by_key_lem, life_keyless}
use Rattle.demands.proofs.Cut.{cut, cut_event}
use Rattle.demands.proofs.Downloads.{gives_back_lem}
use Rattle.demands.proofs.ReadsOn.{goes_on_lem}
use Rattle.demands.proofs.Life.{life_locked, gives_back_later_lem, life_numbered}
use Rattle.demands.proofs.Events.{tells_counts_lem, gains_sample_lem, stores, others, stores_only}

our_wire : Wire ours
our_wire = record { numbers = frames_numbered; numbers_on = life_numbered; reads_back = slot_reads_back; rest_stays = slot_past }

our_lock : CalibrationLocked ours
our_lock = record { locked = locked_keeps; locked_on = life_locked; locked_till = life_keyless }

our_memory : Memory ours
our_memory = record { cut = cut; cut_event = cut_event; gives_back = gives_back_lem; gives_back_later = gives_back_later_lem; goes_on = goes_on_lem }

our_keys : Keys ours
our_keys = record { unlocks = unlocks_own; opens_by_key = opens_by_key_lem; seed_opens = seed_opens_lem }

as_defined_lem : AsDefined ours
as_defined_lem = record { powers_up = power_up_is; reads = received_by_lem; serves = slot_is; tells_counts = tells_counts_lem; stores = stores; others = others; stores_only = stores_only }

pub demand2 : Demand2 ours
demand2 = record { as_defined = as_defined_lem; wire = our_wire; locked = our_lock; memory = our_memory; keys = our_keys; gains_sample = gains_sample_lem }
