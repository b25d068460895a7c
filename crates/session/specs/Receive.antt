-- A received byte.
use Rattle.std.specs.Prelude.{ℕ, ◌≡◌, cond, List, length, Some, None, Ok, Err}
use Rattle.line.specs.Unstuffing.{Fed}
use Rattle.line.specs.Reader.{take_of}
use Rattle.line.specs.Values.{Outcome}
use Rattle.state.specs.Bytes.{block}
use Rattle.state.specs.State.{consistent, place_of, set_place, message_of, set_message, waits}
use Rattle.model.specs.Heed.{Heeding, Dropped, Obeyed, Ignored, heeding_in}
use Rattle.model.specs.View.{session_of}
use Rattle.session.specs.Perform.{after}
use Rattle.model.specs.Answers.{written}
use Rattle.model.specs.declared.Deed.{Deed}
use Rattle.words.specs.Values.{Received, no_state}
use Rattle.line.specs.declared.Fault.{Fault}
use Rattle.line.specs.declared.Fault.TheVariants.{BadLength as BadLengthLine, BadEscape as BadEscapeLine, BadChecksum as BadChecksumLine, CutOff as CutOffLine, ShortBuffer}
use Rattle.words.specs.declared.Heard.TheVariants.{Nothing, Answered, Silent, BadLength, BadEscape, BadChecksum, Unread, CutOff}

-- what the call answers, and the state and the calibration memory after it
pub record Step : Type 0 where
  pub received : Received
  pub state : List ℕ
  pub cal : List ℕ

abbrev pub only : Received → List ℕ → List ℕ → Step
only r s cal = record { received = r; state = s; cal = cal }

-- a deed is done and its answer waits
abbrev pub obeyed : Deed → List ℕ → List ℕ → List ℕ → List ℕ → Step
obeyed d p s cal meas = record { received = Ok Answered; state = after d s cal meas; cal = written d p cal }

-- a good message with packet p, by what it is to the slave
abbrev pub heeded_by : Heeding → List ℕ → List ℕ → List ℕ → List ℕ → Step
heeded_by Dropped p s cal meas = only (Ok Unread) s cal
heeded_by (Obeyed d) p s cal meas = obeyed d p s cal meas
heeded_by Ignored p s cal meas = only (Ok Silent) s cal

unfoldable pub heeded : List ℕ → List ℕ → List ℕ → List ℕ → Step
heeded p s cal meas = heeded_by (heeding_in (waits s) p (session_of s) (length cal) (length meas)) p s cal meas

-- why the line dropped a message, as the session tells it
abbrev pub dropped_as : Fault → Received
dropped_as BadLengthLine = Ok BadLength
dropped_as BadEscapeLine = Ok BadEscape
dropped_as BadChecksumLine = Ok BadChecksum
dropped_as CutOffLine = Ok CutOff
dropped_as ShortBuffer = Err no_state

-- what the line's outcome means, with the message buffer m
unfoldable pub meant : Outcome → List ℕ → List ℕ → List ℕ → List ℕ → Step
meant (Ok None) m s cal meas = only (Ok Nothing) s cal
meant (Ok (Some good)) m s cal meas = heeded (block m good.at good.len) s cal meas
meant (Err BadLengthLine) m s cal meas = only (Ok BadLength) s cal
meant (Err BadEscapeLine) m s cal meas = only (Ok BadEscape) s cal
meant (Err BadChecksumLine) m s cal meas = only (Ok BadChecksum) s cal
meant (Err CutOffLine) m s cal meas = only (Ok CutOff) s cal
meant (Err ShortBuffer) m s cal meas = only (Err no_state) s cal

-- the state with the reader where the line left it
unfoldable pub read_on : List ℕ → Fed → List ℕ
read_on s f = set_place (set_message s f.message) f.taken.place

abbrev pub fed_of : List ℕ → ℕ → Fed
fed_of s b = take_of (place_of s) (message_of s) b

abbrev pub received_by : Fed → List ℕ → List ℕ → List ℕ → Step
received_by f s cal meas = meant f.taken.outcome f.message (read_on s f) cal meas

unfoldable pub receive_of : List ℕ → List ℕ → List ℕ → ℕ → Step
receive_of s cal meas b = cond (consistent s) (received_by (fed_of s b) s cal meas) (only (Err no_state) s cal)

-- a function that answers r and leaves s and cal does what o says
pub record Receives (o : Step) (r : Received) (s cal : List ℕ) : Type 0 where
  pub result : r ≡ o.received
  pub state : s ≡ o.state
  pub memory : cal ≡ o.cal
