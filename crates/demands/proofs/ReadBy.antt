-- A byte that is read changes the reader's place alone, and there is always room for it. Assumes nothing.
use Rattle.std.proofs.Common.{◌≡◌, ℕ, ◌≤◌, true, List, length, Some, None, Ok, Err, eqb, ltb, sym, ap, ◌∙◌, arith}
use Rattle.line.specs.Message.{longest}
use Rattle.line.specs.Unstuffing.{Fed, cut_of, place_by}
use Rattle.line.specs.Reader.{messages, take_of}
use Rattle.line.specs.declared.Place.{Place}
use Rattle.line.specs.declared.Place.TheVariants.{Outside, Inside, Escaped}
use Rattle.line.specs.Values.{Outcome}
use Rattle.line.specs.declared.Fault.TheVariants.{BadLength, BadEscape, BadChecksum, CutOff, ShortBuffer}
use Rattle.line.proofs.Laws.{cond_ind}
use Rattle.line.proofs.Unframing.{Takes, begins, passes, escapes, brings, breaks, takes}
use Rattle.line.proofs.Steps.{Puts, refuses, goes, fills, spoils, puts, take_long}
use Rattle.state.specs.Layout.{place_at, answer_at, size}
use Rattle.state.specs.State.{consistent, place_of, message_of, waits}
use Rattle.session.specs.Receive.{fed_of}
use Rattle.model.specs.Model.{Slave, has_answer}
use Rattle.model.specs.View.{session_of, view_of}
use Rattle.model.proofs.Shown.{answer_long}
use Rattle.state.proofs.Consistent.{consistent_size}
use Rattle.fields.proofs.Frames.{Only}
use Rattle.model.specs.Calls.{with_reader}
use Rattle.views.proofs.Receiving.{message_long, view_read}
use Rattle.views.proofs.Receiving as receiving
use Rattle.demands.specs.Heard.{read_by}

-- an answer waits where one is shown
pub waits_shown : (s : List ℕ) → length s ≡ size → waits s ≡ has_answer (view_of s)
unfolding view_of
waits_shown s h = ap (ltb 0) (sym (answer_long s h))

-- ---- the state once a byte is read
module _ (s : List ℕ) (b : ℕ) (c : consistent s ≡ true) where
  pub read_only : Only place_at answer_at s (read_by s b)
  read_only = receiving.read_only s b (consistent_size s c)

  pub read_length : length (read_by s b) ≡ size
  read_length = read_only.long ∙ consistent_size s c

  -- of the slave that it shows nothing but the reader, which is where the line left it
  pub read_shows : view_of (read_by s b) ≡ with_reader (view_of s) (fed_of s b).taken.place (fed_of s b).message
  read_shows = view_read s b (consistent_size s c)

  pub read_session : session_of (read_by s b) ≡ session_of s
  unfolding view_of
  read_session = ap (λ (v : Slave). v.session) read_shows

  pub read_answer : (view_of (read_by s b)).answer ≡ (view_of s).answer
  read_answer = ap (λ (v : Slave). v.answer) read_shows

-- ---- the state's message buffer has room for every message
abbrev pub Roomy : Outcome → Type 0
Roomy (Ok None) = Unit
Roomy (Ok (Some good)) = Unit
Roomy (Err BadLength) = Unit
Roomy (Err BadEscape) = Unit
Roomy (Err BadChecksum) = Unit
Roomy (Err CutOff) = Unit
Roomy (Err ShortBuffer) = ⊥

cut_roomy : (q : Place) → Roomy (cut_of q)
cut_roomy Outside = tt
cut_roomy (Inside k) = cond_ind Roomy (eqb k 0) (λ _. tt) (λ _. tt)
cut_roomy (Escaped k) = tt

put_roomy : {k : ℕ} {m : List ℕ} {x : ℕ} {f : Fed} → Puts k m x f → Roomy f.taken.outcome
put_roomy refuses = tt
put_roomy (goes g) = tt
put_roomy (fills n some few e l s) = tt
put_roomy spoils = tt

take_roomy : {p : Place} {m : List ℕ} {b : ℕ} {f : Fed} → longest ≤ length m → Takes messages p m b f → Roomy f.taken.outcome
take_roomy {p} {m} fits (begins e) = cut_roomy (place_by messages p m)
take_roomy fits (passes e) = tt
take_roomy fits (escapes k e g b) = tt
take_roomy {p} {m} fits (brings k x g e) = put_roomy (puts k m x fits g)
take_roomy fits breaks = tt

fed_roomy : (p : Place) (m : List ℕ) (b : ℕ) → longest ≤ length m → Roomy (take_of p m b).taken.outcome
fed_roomy p m b fits = rw (take_long p m b fits) (take_roomy fits (takes messages p m b))

pub read_roomy : (s : List ℕ) (b : ℕ) → consistent s ≡ true → Roomy (fed_of s b).taken.outcome
read_roomy s b c = fed_roomy (place_of s) (message_of s) b (omega (arith, message_long s (consistent_size s c)))
