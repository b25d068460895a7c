-- Nobody waits for ever.
use Rattle.std.specs.Prelude.{ℕ, ◌*◌, ◌≤◌, ◌<◌, ◌≡◌, true, false, List, [], ◌∷◌, ◌++◌, length, Some, Ok}
use Rattle.line.specs.Message.{most, room, frame}
use Rattle.state.specs.Layout.{place_at, answer_at}
use Rattle.state.specs.State.{consistent}
use Rattle.model.specs.Model.{has_answer}
use Rattle.model.specs.View.{session_of, view_of}
use Rattle.words.specs.declared.Heard.TheVariants.{Answered, Unread}
use Rattle.views.specs.Events.{takes_sample}
use Rattle.demands.specs.Slave.{AnySlave}
use Rattle.demands.specs.Runs.{Call, SendingSlot, after_call, run, frames, sends, slots, received, Never}
use Rattle.demands.specs.Heard.{packet_ended, answer_to, stops_at}
use Rattle.demands.specs.Waiting.{waiting_of, sample_of, answers_in, packets_in}
use Rattle.demands.specs.Refusals.{ChangesOnly}

-- the answer a leaves in one of the first n counted slots of cs: before it no answer does, and after it none waits
pub record LeavesWithin (n : ℕ) (v : AnySlave) (s : List ℕ) (a : List ℕ) (cs : List Call) : Type 0 where
  pub before : List Call
  pub out : List ℕ
  pub later : List Call
  pub split : cs ≡ before ++ SendingSlot out ∷ later
  pub roomy : room ≤ length out
  pub early : slots before < n
  pub none_before : answers_in (frames v s before) ≡ []
  pub sent : sends v (run v s before) (SendingSlot out) ≡ frame (view_of (run v s before)).ctr a ∷ []
  pub none_after : has_answer (view_of (after_call v (run v s before) (SendingSlot out))) ≡ false

-- byte b ends command p in state s: it is answered, and the answer that the definitions give leaves in one of the first n counted slots after
pub record AnsweredSoon (n : ℕ) (v : AnySlave) (s cal meas : List ℕ) (b : ℕ) (p : List ℕ) (later : List Call) : Type 0 where
  pub number : (v.receive s cal meas b).received ≡ Ok Answered
  pub waiting : has_answer (view_of (v.receive s cal meas b).state) ≡ true
  pub answer : (view_of (v.receive s cal meas b).state).answer ≡ answer_to p (session_of s) cal meas
  pub leaves : n ≤ slots later → LeavesWithin n v (v.receive s cal meas b).state (answer_to p (session_of s) cal meas) later

-- in no call of the run list l is stopped or freed, or its session ended or renewed
abbrev pub Undisturbed : AnySlave → ℕ → List ℕ → List Call → Type 0
Undisturbed v l s cs = Never (stops_at l) v s cs

-- xs are the first of ys
abbrev pub Begins : List (List ℕ) → List (List ℕ) → Type 0
Begins xs ys = (rest : List (List ℕ)) × (ys ≡ xs ++ rest)

-- ---- the demand, with its numbers to be given
-- from any state, a whole frame, its bytes interleaved with any events and slots, that ends while a session is open and no answer waits, is answered,
-- and its answer leaves in one of the first n counted slots after, whatever calls come between
abbrev pub AnsweredBy : ℕ → AnySlave → Type 0
AnsweredBy n v =
    (s : List ℕ) (before : List Call) (cal meas : List ℕ) (b : ℕ) (later : List Call) (ctr : ℕ) (p : List ℕ) → consistent s ≡ true
    → 1 ≤ length p → length p ≤ most → received before ++ b ∷ [] ≡ frame ctr p
    → (session_of (run v s before)).opened ≡ true → has_answer (view_of (run v s before)) ≡ false
    → AnsweredSoon n v (run v s before) cal meas b p later

-- what waits of one of L lists, p packets, leaves whole and in order by the counted slot `bound L p`, unless the list is stopped or freed or its session
-- ends or is renewed
abbrev pub WholeBy : (ℕ → ℕ → ℕ) → AnySlave → Type 0
WholeBy bound v =
    (s : List ℕ) (l : ℕ) (cs : List Call) → consistent s ≡ true → Undisturbed v l s cs
    → bound (session_of s).lists (length (waiting_of s l)) ≤ slots cs → Begins (waiting_of s l) (packets_in (session_of s) l (frames v s cs))

-- so does its next packet by the counted slot `bound L`
abbrev pub NextBy : (ℕ → ℕ) → AnySlave → Type 0
NextBy bound v =
    (s : List ℕ) (l : ℕ) (cs : List Call) (p : List ℕ) (rest : List (List ℕ)) → consistent s ≡ true → Undisturbed v l s cs → waiting_of s l ≡ p ∷ rest
    → bound (session_of s).lists ≤ slots cs → Begins (p ∷ []) (packets_in (session_of s) l (frames v s cs))

-- a captured sample of p packets leaves whole by the counted slot `bound L p`, unless its list is stopped or freed or its session ends or is renewed
abbrev pub SampledBy : (ℕ → ℕ → ℕ) → AnySlave → Type 0
SampledBy bound v =
    (s cal meas : List ℕ) (event clock l : ℕ) (cs : List Call) → consistent s ≡ true → event ≤ 1 → takes_sample (session_of s) event l ≡ true
    → Undisturbed v l (v.event s cal meas event clock).state cs → bound (session_of s).lists (length (sample_of s l clock cal meas)) ≤ slots cs
    → Begins (sample_of s l clock cal meas) (packets_in (session_of s) l (frames v (v.event s cal meas event clock).state cs))

pub record Demand3 (v : AnySlave) : Type 0 where
  -- an answer leaves in the first or second counted slot after its command
  pub answered : AnsweredBy 2 v
  -- so does an answer that waits, of whatever command
  pub leaves : (s : List ℕ) (cs : List Call) → consistent s ≡ true → has_answer (view_of s) ≡ true → 2 ≤ slots cs → LeavesWithin 2 v s (view_of s).answer cs
  -- good messages meanwhile are number 6 and change the reader's place alone
  pub meanwhile : (s cal meas : List ℕ) (b : ℕ) (p : List ℕ) → consistent s ≡ true → has_answer (view_of s) ≡ true → packet_ended s b ≡ Some p
      → ((v.receive s cal meas b).received ≡ Ok Unread) × ChangesOnly place_at answer_at v s cal meas b
  -- with L lists the next packet of a list leaves by the counted slot 2 L, p packets of it by 2 L p, and so a sample of p packets
  pub next : NextBy (λ L. 2 * L) v
  pub whole : WholeBy (λ L p. 2 * (L * p)) v
  pub sampled : SampledBy (λ L p. 2 * (L * p)) v
