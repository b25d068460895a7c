-- What the state in bytes shows of the slave.
use Rattle.std.specs.Prelude.{ℕ, ◌+◌, List}
use Rattle.state.specs.Layout.{running_at, sample_at, last_at}
use Rattle.state.specs.Bytes.{block}
use Rattle.state.specs.Pool.{freed_of, list_count, round_of, first_odt, odt_count, entry_count}
use Rattle.state.specs.State.{flag_of, generator_of, wrong_keys_of, ctr_of, open_of, unlocked_of, seed_of, mta_of, pointer_of, place_of, message_of, answer_of}
use Rattle.state.specs.Lists.{size_of, extension_of, address_of, mode_of, selected_of, stored_length}
use Rattle.model.specs.Answers.{Done}
use Rattle.model.specs.Model.{up_to, Entry, no_entry, Odt, no_odt, DaqList, no_list, Session, Slave}

abbrev pub entry_of : List ℕ → ℕ → ℕ → Entry
entry_of s k e = record { size = size_of s k e; extension = extension_of s k e; address = address_of s k e }

abbrev pub odt_of : List ℕ → ℕ → Odt
odt_of s k = record { entries = entry_count s k; entry = up_to (entry_count s k) no_entry (entry_of s k); store = block s (sample_at k + 1) (stored_length s k) }

abbrev pub daq_of : List ℕ → ℕ → DaqList
daq_of s l = record {
  mode = mode_of s l;
  selected = selected_of s l;
  started = flag_of s (running_at l);
  odts = odt_count s l;
  odt = up_to (odt_count s l) no_odt (λ o. odt_of s (first_odt s l + o));
}

unfoldable pub lists_of : List ℕ → ℕ → DaqList
lists_of s = up_to (list_count s) no_list (daq_of s)

unfoldable pub session_of : List ℕ → Session
session_of s = record {
  generator = generator_of s;
  wrong_keys = wrong_keys_of s;
  opened = open_of s;
  unlocked = unlocked_of s;
  seed = seed_of s;
  mta = mta_of s;
  pointer = pointer_of s;
  freed = freed_of s;
  lists = list_count s;
  round = round_of s;
  list = lists_of s;
}

unfoldable pub view_of : List ℕ → Slave
view_of s = record {
  session = session_of s;
  place = place_of s;
  message = message_of s;
  answer = answer_of s;
  ctr = ctr_of s;
  last_answer = flag_of s last_at;
}

-- what a state and a calibration memory show of a command that is done
abbrev pub shown : List ℕ → List ℕ → Done
shown s cal = record { session = session_of s; memory = cal; answer = (view_of s).answer }
