-- Our slave does what the letter says, sentence by sentence, and so does every slave that meets the first two demands. Assumes nothing.
use Rattle.std.proofs.Common.{sym, subst}
use Rattle.demands.specs.Slave.{AnySlave, ours}
use Rattle.demands.specs.Demand1.{Demand1}
use Rattle.demands.specs.Demand2.{Demand2}
use Rattle.demands.specs.Letter.{Letter}
use Rattle.demands.proofs.Demand1.{demand1}
use Rattle.demands.proofs.Demand2.{demand2}
use Rattle.demands.proofs.Demand3.{demand3}
use Rattle.demands.proofs.CallNumbers.{call_numbers_lem}
use Rattle.demands.proofs.Checked.{ours_checked}
use Rattle.demands.proofs.Obeyed.{ours_obeys}
use Rattle.demands.proofs.ListsLocked.{lists_locked_lem}
use Rattle.demands.proofs.Conserved.{nothing_lost_lem}
use Rattle.demands.proofs.Pool.{whole_pool}
use Rattle.demands.proofs.StaysShut.{stays_shut_lem}
use Rattle.demands.proofs.Slices.{takes_slices}
use Rattle.demands.proofs.Shows.{ours_shows}
use Rattle.demands.proofs.NoChoice.{only_ours}

pub letter : Letter ours
letter = record {
  any_bytes = demand1.outcomes;
  call_numbers = call_numbers_lem;
  command_codes = ours_checked;
  changes_nothing = demand1.refusals;
  commands = ours_obeys;
  calls = ours_shows;
  memory = demand2.memory;
  keys = demand2.keys;
  lists_locked = lists_locked_lem;
  reads_back = demand2.wire;
  calibration_locked = demand2.locked;
  answered = demand3.answered;
  sample_leaves = demand3.sampled;
  nothing_lost = nothing_lost_lem;
  request2 = ours_obeys.short_upload;
  request3 = ours_obeys.build_checksum;
  request4 = ours_obeys.short_download;
  request9 = whole_pool;
  request9_next = demand3.next;
  request10 = stays_shut_lem;
  request12 = takes_slices;
}

-- whatever stands of ours stands of every slave that meets the first two demands
pub every : (P : AnySlave → Type 0) → P ours → (v : AnySlave) → Demand1 v → Demand2 v → P v
every P p v d e = subst P (sym (only_ours v d e)) p

pub every_letter : (v : AnySlave) → Demand1 v → Demand2 v → Letter v
every_letter = every Letter letter
