-- What the bytes show of the lists, and the lists changed.
use Rattle.std.specs.Prelude.{◌≡◌, ℕ, zero, suc, ◌+◌, ◌-◌, ◌*◌, ◌/◌, ◌%◌, ◌≤◌, Bool, false, cond, List, length, ◌==◌, nat_lt, slice_set}
use Rattle.state.specs.Layout.{all_odts, all_entries, size, list_size, mode_at, selected_at, running_at, entry_size, entries_at}
use Rattle.state.specs.Pool.{list_count, first_odt, odt_count, first_entry, entry_at}
use Rattle.state.specs.Bytes.{cleared}
use Rattle.state.specs.State.{dropped}
use Rattle.state.specs.Lists.{selected_of}
use Rattle.words.specs.declared.Extension.{Extension}
use Rattle.words.specs.declared.Extension.TheVariants.{Calibration, Measured}
use Rattle.model.specs.Model.{bytes_in, fits, runs_in, some_runs, some_started}
use Rattle.model.specs.Judge.{all_startable}
use Rattle.model.specs.View.{odt_of, session_of}

-- ---- what the bytes show of the lists
-- the bytes of ODT k
abbrev pub odt_bytes : List ℕ → ℕ → ℕ
odt_bytes s k = bytes_in (odt_of s k)

-- whether list l can be started, and whether it runs
abbrev pub fit_of : List ℕ → ℕ → Bool
fit_of s l = fits ((session_of s).list l)

abbrev pub runs_of : List ℕ → ℕ → Bool
runs_of s l = runs_in (session_of s) l

-- ---- what a command asks of the lists: in a state of another size there is none, and a list that there is not does nothing
abbrev pub is_state : List ℕ → Bool
is_state s = length s == size

abbrev pub is_list : List ℕ → ℕ → Bool
is_list s l = cond (is_state s) (nat_lt l (list_count s)) false

abbrev pub runs_named : List ℕ → ℕ → Bool
runs_named s l = cond (is_state s) (runs_of s l) false

abbrev pub fits_named : List ℕ → ℕ → Bool
fits_named s l = cond (is_state s) (fit_of s l) false

abbrev pub any_runs : List ℕ → Bool
any_runs s = cond (is_state s) (some_runs (session_of s) (list_count s)) false

abbrev pub any_started : List ℕ → Bool
any_started s = cond (is_state s) (some_started (session_of s) (list_count s)) false

abbrev pub ready : List ℕ → Bool
ready s = cond (is_state s) (all_startable (session_of s) (list_count s)) false

-- what list l has of the pool: its first ODT, how many, and the first entry of these
pub record Spans (s : List ℕ) (l odt odts entry : ℕ) : Type 0 where
  pub first : odt ≡ first_odt s l
  pub count : odts ≡ odt_count s l
  pub entered : entry ≡ first_entry s odt
  pub inside : odt + odts ≤ all_odts
  pub few : entry ≤ all_entries

-- ---- changes
-- the running flag switched on or off, and all packets dropped
unfoldable pub switched : List ℕ → ℕ → ℕ → List ℕ
switched s l on = dropped (slice_set s (running_at l) on) (first_odt s l) (odt_count s l)

abbrev pub stopped : List ℕ → ℕ → List ℕ
stopped s l = switched s l 0

abbrev pub started : List ℕ → ℕ → List ℕ
started s l = switched s l 1

-- how many entries list l has: those of its ODTs lie one behind the other
abbrev pub entries_of_list : List ℕ → ℕ → ℕ
entries_of_list s l = first_entry s (first_odt s (suc l)) - first_entry s (first_odt s l)

-- as after E3: each of its entries is zeros
unfoldable pub list_cleared : List ℕ → ℕ → List ℕ
list_cleared s l = cleared (cleared s (mode_at l) list_size) (entries_at (first_entry s (first_odt s l))) (entry_size * entries_of_list s l)

unfoldable pub mode_set : List ℕ → ℕ → ℕ → List ℕ
mode_set s l event = slice_set (slice_set s (mode_at l) ((event + 1) % 256)) (running_at l) 0

abbrev pub tag_of : Extension → ℕ
tag_of Calibration = 0
tag_of Measured = 1

-- an entry's first byte
abbrev pub head_of : ℕ → Extension → ℕ → ℕ
head_of n ext a = (32 * n + 16 * tag_of ext + a / 256) % 256

-- an entry of ODT k, whose list is l
unfoldable pub entry_set : List ℕ → ℕ → ℕ → ℕ → ℕ → Extension → ℕ → List ℕ
entry_set s l k e n ext a = slice_set (slice_set (slice_set s (running_at l) 0) (entry_at s k e) (head_of n ext a)) (entry_at s k e + 1) (a % 256)

-- START_STOP_SYNCH, list by list
abbrev pub deselected : List ℕ → ℕ → List ℕ
deselected s l = slice_set s (selected_at l) 0

unfoldable pub stop_each : List ℕ → ℕ → List ℕ
stop_each s zero = s
stop_each s (suc n) = deselected (stopped (stop_each s n) n) n

abbrev pub start_one : List ℕ → ℕ → List ℕ
start_one s l = cond (selected_of s l) (cond (runs_of s l) s (started s l)) s

unfoldable pub start_selected : List ℕ → ℕ → List ℕ
start_selected s zero = s
start_selected s (suc n) = deselected (start_one (start_selected s n) n) n

abbrev pub stop_one : List ℕ → ℕ → List ℕ
stop_one s l = cond (selected_of s l) (stopped s l) s

unfoldable pub stop_selected : List ℕ → ℕ → List ℕ
stop_selected s zero = s
stop_selected s (suc n) = deselected (stop_one (stop_selected s n) n) n
