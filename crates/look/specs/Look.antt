-- What the checks look at: the packet's numbers, and what is seen of the state. Total: a byte that is not there reads 0.
use Rattle.std.specs.Prelude.{ℕ, ◌+◌, Bool, false, List, get_or}
use Rattle.state.specs.Layout.{packet_at}
use Rattle.state.specs.Bytes.{u16_at, u32_at}
use Rattle.state.specs.Pool.{freed_of, list_count, odt_total, entry_total}
use Rattle.state.specs.State.{generator_of, wrong_keys_of, unlocked_of, seed_of, mta_of, pointer_of}
use Rattle.lists.specs.Lists.{runs_named, fits_named, any_started, ready}
use Rattle.words.specs.declared.Resource.TheVariants.{Calibration, Lists}
use Rattle.words.specs.declared.Pointer.{Pointer}
use Rattle.words.specs.declared.Pointer.TheVariants.{Unset as NoEntry, At as Entry}
use Rattle.model.specs.Judge.{judge_in}
use Rattle.model.specs.View.{session_of}
use Rattle.model.specs.Seen.{Packet, Seen}
use Rattle.model.specs.declared.Deed.{Deed}

-- the numbers in a packet of n bytes, read where it lies in the message buffer; what is behind its end is no number of it
abbrev pub numbers_at : List ℕ → ℕ → Packet
numbers_at s m = record {
  n = m;
  b0 = get_or s packet_at 0;
  b1 = get_or s (packet_at + 1) 0;
  b2 = get_or s (packet_at + 2) 0;
  b3 = get_or s (packet_at + 3) 0;
  b4 = get_or s (packet_at + 4) 0;
  b5 = get_or s (packet_at + 5) 0;
  b6 = get_or s (packet_at + 6) 0;
  b7 = get_or s (packet_at + 7) 0;
  w2 = u16_at s (packet_at + 2);
  w4 = u16_at s (packet_at + 4);
  d2 = u32_at s (packet_at + 2);
  d4 = u32_at s (packet_at + 4);
}

-- the pointer's list runs
abbrev pub pointed_named : Pointer → List ℕ → Bool
pointed_named NoEntry s = false
pointed_named (Entry l o e) s = runs_named s l

-- what is seen of a state with such a message
abbrev pub looked_at : List ℕ → Seen
looked_at s = record {
  wrong_keys = wrong_keys_of s;
  calibration = unlocked_of s Calibration;
  lists = unlocked_of s Lists;
  seed = seed_of s;
  generator = generator_of s;
  mta = mta_of s;
  pointer = pointer_of s;
  freed = freed_of s;
  present = list_count s;
  odts_taken = odt_total s;
  entries_taken = entry_total s;
  odts = ((session_of s).list (u16_at s (packet_at + 2))).odts;
  entries = (((session_of s).list (u16_at s (packet_at + 2))).odt (get_or s (packet_at + 4) 0)).entries;
  runs = runs_named s (u16_at s (packet_at + 2));
  fits = fits_named s (u16_at s (packet_at + 2));
  pointed = pointed_named (pointer_of s) s;
  ready = ready s;
  started = any_started s;
}

-- what the command in packet p leads to, by what the state shows
abbrev pub judge_of : List ℕ → List ℕ → ℕ → ℕ → Deed
judge_of p s nc nm = judge_in p (session_of s) nc nm
