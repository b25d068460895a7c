-- What a received byte does to what waits: packets go only if their list is stopped or freed or its session ends or is renewed, an answer stays, and one is
-- accepted only if none waits. Assumes nothing.
use Rattle.std.proofs.Common.{◌≡◌, ◌≢◌, ℕ, ◌≤◌, Bool, true, false, cond, List, [], ◌∷◌, ◌++◌, length, Option, Ok, Err, ltb, refl, sym, ap, ap₂, ◌∙◌, subst, lit≤, lit<, append-nil}
use Rattle.state.specs.Layout.{packet_most, ctr_at, round_at, last_at, place_at, answer_at, session_at}
use Rattle.state.specs.State.{consistent}
use Rattle.session.specs.Perform.{effect, reply, after}
use Rattle.session.specs.Receive.{Step, receive_of}
use Rattle.model.specs.Model.{DaqList, Session, Slave, odts_before, runs_in, waiting, waiting_in, has_answer}
use Rattle.model.specs.Step.{step_in}
use Rattle.model.specs.View.{session_of, view_of}
use Rattle.words.specs.Number.{received_number}
use Rattle.model.specs.declared.Deed.{Deed}
use Rattle.words.specs.Values.{Received}
use Rattle.words.specs.declared.Heard.TheVariants.{Nothing, Answered, Silent, BadLength, BadEscape, BadChecksum, Unread, CutOff}
use Rattle.fields.proofs.Frames.{Only, only_answered}
use Rattle.fields.proofs.Readers.{Same, apart, same_then, same_part, flag_reads}
use Rattle.fields.proofs.Effects.{Effected, effected, answering, after_waits}
use Rattle.demands.specs.Slave.{ours}
use Rattle.demands.specs.Runs.{Byte}
use Rattle.demands.specs.Heard.{read_by, Commands, deed_in, stops, stops_by, stops_at}
use Rattle.demands.specs.Waiting.{waiting_answer, waiting_of}
use Rattle.demands.specs.Kept.{answer_by, accepts}
use Rattle.judge.specs.Doable.{Doable}
use Rattle.views.proofs.Listed.{listed}
use Rattle.views.proofs.Calls.{session_reads}
use Rattle.views.proofs.Stepped.{Steps, stepped}
use Rattle.look.proofs.Looked.{judged_doable}
use Rattle.demands.proofs.Judged.{judged, found_entered}
use Rattle.demands.proofs.Deeds.{step_waiting, step_stops, SameLists, lists_stay, step_lists}
use Rattle.demands.proofs.ReadBy.{waits_shown, read_only, read_length, read_session, read_answer}
use Rattle.demands.proofs.Received.{Performed, Reads, rests, acts, received, commanded, read_can}

-- w has the CTR of v, and whether the last frame was an answer
pub record SameSent (v w : Slave) : Type 0 where
  pub ctr : w.ctr ≡ v.ctr
  pub last_answer : w.last_answer ≡ v.last_answer

pub sent_reads : {s t : List ℕ} → Same ctr_at round_at s t → Same last_at place_at s t → SameSent (view_of s) (view_of t)
unfolding view_of
sent_reads w f = record { ctr = w.byte ctr_at (lit≤ tt) (lit< tt); last_answer = flag_reads last_at f }

-- an answer is accepted with number 1 alone
none_accepted : (r : Received) (t : List ℕ) → received_number r ≢ 1 → answer_by r t ≡ []
none_accepted (Ok Nothing) t n = refl
none_accepted (Ok Answered) t n = absurd (n refl)
none_accepted (Ok Silent) t n = refl
none_accepted (Ok BadLength) t n = refl
none_accepted (Ok BadEscape) t n = refl
none_accepted (Ok BadChecksum) t n = refl
none_accepted (Ok Unread) t n = refl
none_accepted (Ok CutOff) t n = refl
none_accepted (Err _) t n = refl

module _ (s cal meas : List ℕ) (b : ℕ) (c : consistent s ≡ true) where
  -- ---- a deed that is done
  module _ (d : Deed) (p : List ℕ) (w : Performed s cal meas b d p) where
    can : Doable d (session_of (read_by s b)) (length p) (length cal) (length meas)
    can = read_can s b d (length p) (length cal) (length meas) c w.can

    few : length (reply d (read_by s b) cal meas) ≤ packet_most
    few = (answering d (read_by s b) cal meas (length p) can).few

    -- its answer is no part of the session
    pub done_effect : session_of (after d (read_by s b) cal meas) ≡ session_of (effect d (read_by s b))
    done_effect = let a = only_answered (effect d (read_by s b)) (reply d (read_by s b) cal meas) few in session_reads (apart tt a) (apart tt a) (apart tt a)

    -- of the lists and the locks it leaves what it makes of the session
    pub done_steps : Steps (step_in d (session_of s)) (session_of (after d (read_by s b) cal meas))
    done_steps =
        subst (λ (x : Session). Steps (step_in d (session_of s)) x) (sym done_effect)
        (subst (λ (x : Session). Steps (step_in d x) (session_of (effect d (read_by s b)))) (read_session s b c)
        (stepped d (read_by s b) (length p) (length cal) (length meas) (read_length s b c) can (found_entered d p (session_of s) w.found)))

    deed_waiting : (l : ℕ) → (x : Bool) → stops l d (session_of s) ≡ x → waiting_of (after d (read_by s b) cal meas) l ≡ cond x [] (waiting_of s l)
    deed_waiting l x e = ap₂ (λ (o : Bool) (f : ℕ → DaqList). waiting o (odts_before f l) (f l)) done_steps.opened done_steps.list ∙ go x e where
      go : (x : Bool) → stops l d (session_of s) ≡ x → waiting_in (step_in d (session_of s)) l ≡ cond x [] (waiting_of s l)
      go true e = step_stops d (session_of s) l e
      go false e = step_waiting d p (session_of s) l (listed s) w.found e

    -- while a list runs that it does not stop, it leaves how many lists and ODTs there are
    deed_lists : (l : ℕ) → stops l d (session_of s) ≡ false → runs_in (session_of s) l ≡ true → SameLists (session_of s) (session_of (after d (read_by s b) cal meas))
    deed_lists l e run =
        let x : SameLists (session_of s) (step_in d (session_of s)) = step_lists d p (session_of s) l (listed s) w.found e run in
        (record { lists = done_steps.lists ∙ x.0.lists; odts = λ i. ap (λ (f : ℕ → DaqList). (f i).odts) done_steps.list ∙ x.0.odts i }, done_steps.round ∙ x.1)

    abbrev answer_only : Only answer_at session_at (effect d (read_by s b)) (after d (read_by s b) cal meas)
    answer_only = only_answered (effect d (read_by s b)) (reply d (read_by s b) cal meas) few

    deed_effected : Effected (read_by s b) (effect d (read_by s b))
    deed_effected = effected d (read_by s b) (length p) (length cal) (length meas) can

    deed_sent : Same ctr_at round_at (read_by s b) (after d (read_by s b) cal meas) × Same last_at place_at (read_by s b) (after d (read_by s b) cal meas)
    deed_sent =
        (same_then deed_effected.ctr (apart tt answer_only), same_then (same_part (lit≤ tt) (lit≤ tt) deed_effected.between) (apart tt answer_only))

    pub deed_waits : has_answer (view_of (after d (read_by s b) cal meas)) ≡ true
    deed_waits =
        sym (waits_shown (after d (read_by s b) cal meas) (answer_only.long ∙ deed_effected.range.long ∙ read_length s b c)) ∙ after_waits d (read_by s b) cal meas (length p) (read_length s b c) can

  -- ---- the packets of a list
  waiting_by : {o : Step} {x : Option Deed} (l : ℕ) → Reads s cal meas b o x → waiting_of o.state l ≡ cond (stops_by l x (session_of s)) [] (waiting_of s l)
  waiting_by l (rests r n f) = ap (λ (x : Session). waiting_in x l) (read_session s b c)
  waiting_by l (acts d p w) = deed_waiting d p w l (stops l d (session_of s)) refl

  pub byte_waiting : (l : ℕ) → waiting_of (receive_of s cal meas b).state l ≡ cond (stops_at l s cal meas b) [] (waiting_of s l)
  byte_waiting l = waiting_by l (received s cal meas b c)

  -- ---- how many lists there are, while one of them runs
  lists_by : {o : Step} {x : Option Deed} (l : ℕ) → Reads s cal meas b o x → stops_by l x (session_of s) ≡ false → runs_in (session_of s) l ≡ true → SameLists (session_of s) (session_of o.state)
  lists_by l (rests r n f) e run = subst (SameLists (session_of s)) (sym (read_session s b c)) lists_stay
  lists_by l (acts d p w) e run = deed_lists d p w l e run

  pub byte_lists : (l : ℕ) → stops_at l s cal meas b ≡ false → runs_in (session_of s) l ≡ true → SameLists (session_of s) (session_of (receive_of s cal meas b).state)
  byte_lists l = lists_by l (received s cal meas b c)

  -- ---- the CTR, and whether the last frame was an answer
  sent_by_lem : {o : Step} {x : Option Deed} → Reads s cal meas b o x → Same ctr_at round_at s o.state × Same last_at place_at s o.state
  sent_by_lem (rests r n f) = (apart tt (read_only s b c), apart tt (read_only s b c))
  sent_by_lem (acts d p w) = (same_then (apart tt (read_only s b c)) (deed_sent d p w).0, same_then (apart tt (read_only s b c)) (deed_sent d p w).1)

  pub byte_sent : SameSent (view_of s) (view_of (receive_of s cal meas b).state)
  byte_sent = let w = sent_by_lem (received s cal meas b c) in sent_reads w.0 w.1

  -- ---- an answer that waits stays
  kept_by : {o : Step} {x : Option Deed} → Reads s cal meas b o x → has_answer (view_of s) ≡ true → (view_of o.state).answer ≡ (view_of s).answer
  kept_by (rests r n f) e = read_answer s b c
  kept_by (acts d p w) e = cc

  pub byte_answer_kept : has_answer (view_of s) ≡ true → (view_of (receive_of s cal meas b).state).answer ≡ (view_of s).answer
  byte_answer_kept = kept_by (received s cal meas b c)

  -- ---- and one is accepted only if none waits
  answer_by_lem : {o : Step} {x : Option Deed} → Reads s cal meas b o x → waiting_answer o.state ≡ waiting_answer s ++ answer_by o.received o.state
  answer_by_lem (rests r n f) = rw (none_accepted r (read_by s b) n) (ap (λ (bs : List ℕ). cond (ltb 0 (length bs)) (bs ∷ []) []) (read_answer s b c) ∙ sym (append-nil (waiting_answer s)))
  answer_by_lem (acts d p w) =
      ap (λ (x : Bool). cond x ((view_of (after d (read_by s b) cal meas)).answer ∷ []) []) (deed_waits d p w)
      ∙ sym (ap (λ (x : Bool). cond x ((view_of s).answer ∷ []) [] ++ ((view_of (after d (read_by s b) cal meas)).answer ∷ [])) w.free)

  pub byte_answer : waiting_answer (receive_of s cal meas b).state ≡ waiting_answer s ++ accepts ours s (Byte cal meas b)
  byte_answer = answer_by_lem (received s cal meas b c)

-- ---- a command that is heard leaves of the lists and the locks what it makes of the session
pub command_steps : (s cal meas : List ℕ) (b : ℕ) (p : List ℕ) → consistent s ≡ true → Commands s b p
    → Steps (step_in (deed_in p (session_of s) cal meas) (session_of s)) (session_of (receive_of s cal meas b).state)
command_steps s cal meas b p c w =
    let d : Deed = deed_in p (session_of s) cal meas in
    subst (λ (o : Step). Steps (step_in d (session_of s)) (session_of o.state)) (sym (commanded s cal meas b p c w))
    (done_steps s cal meas b c d p (record {
      ended = w.ends;
      free = w.free;
      can = judged_doable p s (length cal) (length meas);
      found = judged p (session_of s) (length cal) (length meas);
      opened = λ _. refl;
      closed = λ n. cc;
    }))
