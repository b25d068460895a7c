-- The customer's letter at a glance: a part for each of its sentences, in its words and order, and one for each of the requests that have landed.
use Rattle.std.specs.Prelude.{◌*◌}
use Rattle.views.specs.Commands.{Law, BUILD_CHECKSUM, SHORT_UPLOAD, SHORT_DOWNLOAD, Obeys}
use Rattle.demands.specs.Slave.{AnySlave}
use Rattle.demands.specs.Obeyed.{Obeyed}
use Rattle.demands.specs.CallNumbers.{CallNumbers}
use Rattle.demands.specs.Checked.{Checked}
use Rattle.demands.specs.Shows.{Shows}
use Rattle.demands.specs.ListsLocked.{ListsLocked}
use Rattle.demands.specs.StaysShut.{StaysShut}
use Rattle.demands.specs.Outcomes.{Outcomes}
use Rattle.demands.specs.Refusals.{Refusals}
use Rattle.demands.specs.Wire.{Wire}
use Rattle.demands.specs.Keys.{Keys}
use Rattle.demands.specs.CalibrationLocked.{CalibrationLocked}
use Rattle.demands.specs.Memory.{Memory}
use Rattle.demands.specs.Demand3.{AnsweredBy, NextBy, SampledBy}
use Rattle.demands.specs.Pool.{WholePool}
use Rattle.demands.specs.Kept.{NothingLost}
use Rattle.demands.specs.Slices.{TakesSlices}

pub record Letter (v : AnySlave) : Type 0 where
  -- 1. "Any bytes, at any moment, with any lent memory, get a defined outcome and never a fault. No entry point leans on its caller."
  pub any_bytes : Outcomes v
  -- "Each refusal has one fixed number, ...": of a call, and of a command
  pub call_numbers : CallNumbers v
  pub command_codes : Checked v
  -- "... and apart from a wrong key, which ends the session, a refused command changes no memory byte, setting, list or lock."
  pub changes_nothing : Refusals v
  -- 2. "What it does on the wire and in memory is what XCP and its SxI transport say, with our choices in document 01.": every command that is done, and
  -- every call; what is written and read back; seeds and keys; the lists' lock
  pub commands : Obeys (Obeyed v)
  pub calls : Shows v
  pub memory : Memory v
  pub keys : Keys v
  pub lists_locked : ListsLocked v
  -- "Bytes are read by those rules, and what it sends reads back by the same rules as the very packet meant."
  pub reads_back : Wire v
  -- "While calibration is locked no calibration byte changes."
  pub calibration_locked : CalibrationLocked v
  -- 3. "Nobody waits for ever. From any state reached, a whole framed command with a right length and checksum that ends while a session is open and no
  -- answer waits is answered, and its answer leaves in the first or second sending slot after, whatever bytes and events come between."
  pub answered : AnsweredBy 2 v
  -- "A captured sample leaves whole by the sixteenth slot, unless its list is stopped or its session ends or is renewed.": of L lists and p packets by
  -- slot 2Lp, since request 9
  pub sample_leaves : SampledBy (λ L p. 2 * (L * p)) v
  -- what waits is lost by nothing else
  pub nothing_lost : NothingLost v
  -- request 2: SHORT_UPLOAD moves the address
  pub request2 : Law (Obeyed v) 0xF4 SHORT_UPLOAD
  -- request 3: block sums are faster, and answer and MTA stay as they are
  pub request3 : Law (Obeyed v) 0xF3 BUILD_CHECKSUM
  -- request 4: packets of 64 bytes, whose limits are those of `command_codes` and `call_numbers`; and SHORT_DOWNLOAD
  pub request4 : Law (Obeyed v) 0xED SHORT_DOWNLOAD
  -- request 9: lists sized by the tool; after FREE_DAQ the whole pool is there again, and a list's next packet leaves by slot 2L
  pub request9 : WholePool v
  pub request9_next : NextBy (λ L. 2 * L) v
  -- request 10: three wrong keys and it stays shut
  pub request10 : StaysShut v
  -- request 12: keep up with the fast wire; bytes are taken by slices, and each slice is the byte call repeated
  pub request12 : TakesSlices v
