-- Nothing lost, nothing invented: what slots sent, and what waits, is what waited before and what was accepted since.
use Rattle.std.specs.Prelude.{ℕ, ◌≡◌, true, cond, List, [], ◌∷◌, ◌++◌, ltb, Ok, Err}
use Rattle.state.specs.State.{consistent}
use Rattle.model.specs.View.{session_of, view_of}
use Rattle.views.specs.Events.{takes_sample}
use Rattle.words.specs.Values.{Received}
use Rattle.words.specs.declared.Heard.TheVariants.{Nothing, Answered, Silent, BadLength, BadEscape, BadChecksum, Unread, CutOff}
use Rattle.demands.specs.Slave.{AnySlave}
use Rattle.demands.specs.Runs.{Call, Byte, Event, SendingSlot, Elsewhere, run, sends, each, frames}
use Rattle.demands.specs.Heard.{stops_at}
use Rattle.demands.specs.Waiting.{waiting_answer, waiting_of, sample_of, answers_in, packets_in}

-- an answer is accepted with number 1 alone
abbrev pub answer_by : Received → List ℕ → List (List ℕ)
answer_by (Ok Nothing) s = []
answer_by (Ok Answered) s = (view_of s).answer ∷ []
answer_by (Ok Silent) s = []
answer_by (Ok BadLength) s = []
answer_by (Ok BadEscape) s = []
answer_by (Ok BadChecksum) s = []
answer_by (Ok Unread) s = []
answer_by (Ok CutOff) s = []
answer_by (Err _) s = []

abbrev pub accepts : AnySlave → List ℕ → Call → List (List ℕ)
accepts v s (Byte cal meas b) = answer_by (v.receive s cal meas b).received (v.receive s cal meas b).state
accepts v s (Event cal meas event clock) = []
accepts v s (SendingSlot out) = []
accepts v s Elsewhere = []

abbrev pub accepted : AnySlave → List ℕ → List Call → List (List ℕ)
accepted v s cs = each (accepts v) v s cs

-- list l gains a sample at an event alone
abbrev pub gains : ℕ → List ℕ → Call → List (List ℕ)
gains l s (Byte cal meas b) = []
gains l s (Event cal meas event clock) = cond (ltb 1 event) [] (cond (takes_sample (session_of s) event l) (sample_of s l clock cal meas) [])
gains l s (SendingSlot out) = []
gains l s Elsewhere = []

abbrev pub gained : AnySlave → ℕ → List ℕ → List Call → List (List ℕ)
gained v l s cs = each (gains l) v s cs

-- its packets go when a slot sends them, or when it is stopped or freed or its session ends or is renewed, and then all at once
abbrev pub goes : AnySlave → ℕ → List ℕ → Call → List (List ℕ)
goes v l s (Byte cal meas b) = cond (stops_at l s cal meas b) (waiting_of s l) []
goes v l s (Event cal meas event clock) = []
goes v l s (SendingSlot out) = packets_in (session_of s) l (sends v s (SendingSlot out))
goes v l s Elsewhere = []

abbrev pub gone : AnySlave → ℕ → List ℕ → List Call → List (List ℕ)
gone v l s cs = each (goes v l) v s cs

pub record NothingLost (v : AnySlave) : Type 0 where
  -- the answers sent and the one that waits are the one that waited and those accepted since
  pub answers : (s : List ℕ) (cs : List Call) → consistent s ≡ true → answers_in (frames v s cs) ++ waiting_answer (run v s cs) ≡ waiting_answer s ++ accepted v s cs
  -- of each list the packets gone and those that wait are those that waited and those gained since
  pub packets : (s : List ℕ) (l : ℕ) (cs : List Call) → consistent s ≡ true → gone v l s cs ++ waiting_of (run v s cs) l ≡ waiting_of s l ++ gained v l s cs
