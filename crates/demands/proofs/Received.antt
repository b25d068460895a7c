-- How a received byte is read: either the reader's place alone changes, or one deed is done. Assumes nothing.
use Rattle.std.proofs.Common.{◌≡◌, ◌≢◌, ℕ, ◌≤◌, Bool, true, false, cond, List, length, Option, Some, None, Ok, Err, ltb, refl, sym, ap, ap₂, ◌∙◌, subst, arith, ne_eqb}
use Rattle.line.specs.Values.{Outcome}
use Rattle.line.specs.declared.Fault.TheVariants as line
use Rattle.line.proofs.Laws.{cond_ind}
use Rattle.state.specs.Bytes.{block}
use Rattle.state.specs.State.{consistent}
use Rattle.session.specs.Perform.{after}
use Rattle.judge.specs.Doable.{Doable}
use Rattle.session.specs.Receive.{Step, only, obeyed, heeded_by, heeded, meant, fed_of, received_by, receive_of}
use Rattle.model.specs.Model.{Session, has_answer}
use Rattle.model.specs.Heed.{Dropped, Obeyed, Ignored, good_connect, heeding_in}
use Rattle.model.specs.Answers.{reply_in}
use Rattle.model.specs.View.{session_of, view_of}
use Rattle.words.specs.Number.{received_number}
use Rattle.model.specs.declared.Deed.{Deed}
use Rattle.model.specs.declared.Deed.TheVariants.{Connect}
use Rattle.words.specs.Values.{Received}
use Rattle.words.specs.declared.Heard.TheVariants.{Nothing, Silent, BadLength, BadEscape, BadChecksum, Unread, CutOff}
use Rattle.look.proofs.Looked.{judged_doable}
use Rattle.fields.proofs.Effects.{after_answer}
use Rattle.demands.specs.Heard.{packet_by, packet_ended, read_by, Commands, deed_in, answer_to, deed_by, heeds, deed_at, of_answered}
use Rattle.demands.proofs.Judged.{Found, judged}
use Rattle.demands.proofs.ReadBy.{waits_shown, Roomy, read_roomy, read_length, read_session, read_answer}

-- byte b ends packet p, and deed d is done: the one that p is judged to lead to, or a good CONNECT's while no session is open
pub record Performed (s cal meas : List ℕ) (b : ℕ) (d : Deed) (p : List ℕ) : Type 0 where
  pub ended : packet_ended s b ≡ Some p
  pub free : has_answer (view_of s) ≡ false
  pub can : Doable d (session_of s) (length p) (length cal) (length meas)
  pub found : Found d p (session_of s)
  pub opened : (session_of s).opened ≡ true → d ≡ deed_in p (session_of s) cal meas
  pub closed : (session_of s).opened ≡ false → (d ≡ Connect) × (good_connect p ≡ true)

pub data Reads (s cal meas : List ℕ) (b : ℕ) : Step → Option Deed → Type 0 where
  rests : (r : Received) → received_number r ≢ 1 → received_number r ≤ 7 → Reads s cal meas b (only r (read_by s b) cal) None
  acts : (d : Deed) (p : List ℕ) → Performed s cal meas b d p → Reads s cal meas b (obeyed d p (read_by s b) cal meas) (Some d)

-- a good message is heeded by what the state showed before its last byte
pub heeded_at : (s cal meas : List ℕ) (b : ℕ) (p : List ℕ) → consistent s ≡ true
    → heeded p (read_by s b) cal meas ≡ heeded_by (heeding_in (has_answer (view_of s)) p (session_of s) (length cal) (length meas)) p (read_by s b) cal meas
unfolding heeded
heeded_at s cal meas b p c =
    let t : List ℕ = read_by s b in
    ap₂ (λ (w : Bool) (x : Session). heeded_by (heeding_in w p x (length cal) (length meas)) p t cal meas)
    (waits_shown t (read_length s b c) ∙ ap (λ (bs : List ℕ). ltb 0 (length bs)) (read_answer s b c)) (read_session s b c)

module _ (s cal meas : List ℕ) (b : ℕ) (c : consistent s ≡ true) where
  -- a packet that came whole
  heeded_reads : (p : List ℕ) → packet_ended s b ≡ Some p → Reads s cal meas b (heeded p (read_by s b) cal meas) (heeds (Some p) (view_of s) (length cal) (length meas))
  unfolding heeds heeding_in view_of
  heeded_reads p e =
      subst (λ (o : Step). Reads s cal meas b o (heeds (Some p) (view_of s) (length cal) (length meas))) (sym (heeded_at s cal meas b p c))
      (go (has_answer (view_of s)) (session_of s).opened (good_connect p) refl refl refl) where
        d : Deed
        d = deed_in p (session_of s) cal meas

        go : (w o g : Bool) → has_answer (view_of s) ≡ w → (session_of s).opened ≡ o → good_connect p ≡ g
            → Reads s cal meas b
            (heeded_by (cond w Dropped (cond o (Obeyed d) (cond g (Obeyed Connect) Ignored))) p (read_by s b) cal meas)
            (deed_by (cond w Dropped (cond o (Obeyed d) (cond g (Obeyed Connect) Ignored))))
        go true o g u v x = rests (Ok Unread) (omega arith) (omega arith)
        go false true g u v x =
            acts d p (record {
              ended = e;
              free = u;
              can = judged_doable p s (length cal) (length meas);
              found = judged p (session_of s) (length cal) (length meas);
              opened = λ _. refl;
              closed = λ n. cc;
            })
        go false false true u v x =
            acts Connect p (record { ended = e; free = u; can = tt; found = tt; opened = λ n. cc; closed = λ _. (refl, x) })
        go false false false u v x = rests (Ok Silent) (omega arith) (omega arith)

  meant_reads : (o : Outcome) → Roomy o → (fed_of s b).taken.outcome ≡ o
      → Reads s cal meas b (meant o (fed_of s b).message (read_by s b) cal meas) (heeds (packet_by o (fed_of s b).message) (view_of s) (length cal) (length meas))
  unfolding meant heeds view_of
  meant_reads (Ok None) y e = rests (Ok Nothing) (omega arith) (omega arith)
  meant_reads (Ok (Some good)) y e = heeded_reads (block (fed_of s b).message good.at good.len) (rw e)
  meant_reads (Err line.BadLength) y e = rests (Ok BadLength) (omega arith) (omega arith)
  meant_reads (Err line.BadEscape) y e = rests (Ok BadEscape) (omega arith) (omega arith)
  meant_reads (Err line.BadChecksum) y e = rests (Ok BadChecksum) (omega arith) (omega arith)
  meant_reads (Err line.CutOff) y e = rests (Ok CutOff) (omega arith) (omega arith)
  meant_reads (Err line.ShortBuffer) y e = absurd y

  pub received : Reads s cal meas b (receive_of s cal meas b) (deed_at s cal meas b)
  unfolding receive_of view_of
  received =
      cond_ind (λ (o : Step). Reads s cal meas b o (deed_at s cal meas b)) (consistent s)
      (λ _. meant_reads (fed_of s b).taken.outcome (read_roomy s b c) refl)
      (λ n. cc)

-- ---- a good message is heeded
heeded_by_lem : (o : Outcome) (m t cal meas p : List ℕ) → packet_by o m ≡ Some p → meant o m t cal meas ≡ heeded p t cal meas
unfolding meant
heeded_by_lem (Ok None) m t cal meas p e = cc
heeded_by_lem (Ok (Some good)) m t cal meas p e = let same : block m good.at good.len ≡ p = cc in rw same
heeded_by_lem (Err fault) m t cal meas p e = cc

pub received_by_lem : (s cal meas : List ℕ) (b : ℕ) → consistent s ≡ true → receive_of s cal meas b ≡ received_by (fed_of s b) s cal meas
unfolding receive_of
received_by_lem s cal meas b c = rw c refl

pub heeded_whole : (s cal meas : List ℕ) (b : ℕ) (p : List ℕ) → packet_ended s b ≡ Some p → received_by (fed_of s b) s cal meas ≡ heeded p (read_by s b) cal meas
unfolding view_of
heeded_whole s cal meas b p e = heeded_by_lem (fed_of s b).taken.outcome (fed_of s b).message (read_by s b) cal meas p e

pub heeds_right : (s cal meas : List ℕ) (b : ℕ) (p : List ℕ) → consistent s ≡ true → packet_ended s b ≡ Some p → receive_of s cal meas b ≡ heeded p (read_by s b) cal meas
heeds_right s cal meas b p c e = received_by_lem s cal meas b c ∙ heeded_whole s cal meas b p e

-- a command is judged, and what it leads to is done
pub commanded : (s cal meas : List ℕ) (b : ℕ) (p : List ℕ) → consistent s ≡ true → Commands s b p
    → receive_of s cal meas b ≡ obeyed (deed_in p (session_of s) cal meas) p (read_by s b) cal meas
unfolding heeding_in
commanded s cal meas b p c w = heeds_right s cal meas b p c w.ends ∙ heeded_at s cal meas b p c ∙ simp (w.free, w.opened)

-- what can be done can be done once the byte is read
pub read_can : (s : List ℕ) (b : ℕ) (d : Deed) (n nc nm : ℕ) → consistent s ≡ true → Doable d (session_of s) n nc nm → Doable d (session_of (read_by s b)) n nc nm
read_can s b d n nc nm c can = subst (λ (x : Session). Doable d x n nc nm) (sym (read_session s b c)) can

-- its answer reads as it was given
pub done_answer : (s cal meas : List ℕ) (b : ℕ) (d : Deed) (n : ℕ) → consistent s ≡ true → Doable d (session_of s) n (length cal) (length meas)
    → (view_of (after d (read_by s b) cal meas)).answer ≡ reply_in d (session_of s) cal meas
unfolding view_of
done_answer s cal meas b d n c can =
    after_answer d (read_by s b) cal meas n (read_length s b c) (read_can s b d n (length cal) (length meas) c can) ∙ ap (λ (x : Session). reply_in d x cal meas) (read_session s b c)

-- a test of the command and of its answer: where nothing is done it fails, and where a deed is done it is of that packet and that answer
pub resting : (test : List ℕ → List ℕ → Bool) (s cal : List ℕ) (b : ℕ) (r : Received) → received_number r ≢ 1 → of_answered test (only r (read_by s b) cal) s b ≡ false
resting test s cal b r n = rw (ne_eqb (received_number r) 1 n)

pub acting : (test : List ℕ → List ℕ → Bool) (s cal meas : List ℕ) (b : ℕ) (d : Deed) (p : List ℕ) → packet_ended s b ≡ Some p
    → of_answered test (obeyed d p (read_by s b) cal meas) s b ≡ test p (view_of (after d (read_by s b) cal meas)).answer
acting test s cal meas b d p e = rw e

pub command_answer : (s cal meas : List ℕ) (b : ℕ) (p : List ℕ) → consistent s ≡ true → Commands s b p
    → (view_of (receive_of s cal meas b).state).answer ≡ answer_to p (session_of s) cal meas
command_answer s cal meas b p c w =
    let d : Deed = deed_in p (session_of s) cal meas in
    ap (λ (o : Step). (view_of o.state).answer) (commanded s cal meas b p c w) ∙ done_answer s cal meas b d (length p) c (judged_doable p s (length cal) (length meas))
