-- A command that is heard does what the model does, so every law of document 01's list of commands stands of it. Assumes nothing.
use Rattle.std.proofs.Common.{◌≡◌, ℕ, ◌^◌, ◌<◌, Bool, true, false, cond, List, length, Option, Some, None, Ok, Err, eqb, ltb, refl, sym, ap, ◌∙◌, subst, eqb-true}
use Rattle.std.proofs.lemmas.Option.{same_Some}
use Rattle.line.specs.Values.{Outcome}
use Rattle.state.specs.Bytes.{block}
use Rattle.state.specs.State.{consistent, generator_of, wrong_keys_of}
use Rattle.model.specs.Answers.{written, done_by, command_in}
use Rattle.session.specs.Perform.{after}
use Rattle.session.specs.Receive.{Step, fed_of, receive_of}
use Rattle.look.proofs.Looked.{judged_doable}
use Rattle.judge.specs.Doable.{Doable}
use Rattle.model.specs.declared.Deed.{Deed}
use Rattle.model.specs.Model.{Bytes, Session, byte}
use Rattle.words.specs.Command.{command_of}
use Rattle.words.specs.Number.{received_number}
use Rattle.model.specs.Judge.{connect_deed, judge_the, judge_by, judge, judge_in}
use Rattle.model.specs.Heed.{good_connect}
use Rattle.model.specs.declared.Deed.TheVariants.{Connect}
use Rattle.model.specs.View.{session_of, view_of, shown}
use Rattle.views.specs.Commands.{Obeys}
use Rattle.views.proofs.Bytes.{bytes_block, fed_bytes}
use Rattle.views.proofs.Fit.{Fit, generator_fits, judged_fits}
use Rattle.views.proofs.Done.{shown_after}
use Rattle.views.proofs.Listed.{Listed, listed}
use Rattle.views.proofs.Obeys.{AsModel, obeys}
use Rattle.demands.specs.Slave.{ours}
use Rattle.demands.specs.Heard.{packet_by, packet_ended, read_by, Commands, deed_in}
use Rattle.demands.specs.Obeyed.{Obeyed}
use Rattle.demands.proofs.ReadBy.{read_length, read_session}
use Rattle.demands.proofs.Received.{Performed, Reads, rests, acts, received, commanded, read_can}

-- the packet of a good message is of bytes
packet_bytes : (o : Outcome) (m p : List ℕ) → Bytes m → packet_by o m ≡ Some p → Bytes p
packet_bytes (Ok None) m p w e = cc
packet_bytes (Ok (Some good)) m p w e = let same : block m good.at good.len ≡ p = cc in subst Bytes same (bytes_block m good.at good.len w)
packet_bytes (Err fault) m p w e = cc

connect_judged : (p : List ℕ) (c : Session) (nc nm : ℕ) → good_connect p ≡ true → judge_in p c nc nm ≡ Connect
unfolding judge_in judge judge_by judge_the connect_deed command_of good_connect
connect_judged p c nc nm g = go (eqb (byte p 0) 0xFF) (ltb (length p) 2) (eqb (byte p 1) 0) refl refl refl g where
  go : (x y z : Bool) → eqb (byte p 0) 0xFF ≡ x → ltb (length p) 2 ≡ y → eqb (byte p 1) 0 ≡ z → cond x (cond y false z) false ≡ true
      → judge_in p c nc nm ≡ Connect
  go true false true a b d e = simp (eqb-true (byte p 0) 0xFF a, b, d)
  go true false false a b d e = cc
  go true true z a b d e = cc
  go false y z a b d e = cc

-- what is done at a byte is what its packet is judged to lead to, also a good CONNECT without a session
pub does_judged : (s cal meas : List ℕ) (b : ℕ) (d : Deed) (p : List ℕ) → Performed s cal meas b d p → d ≡ deed_in p (session_of s) cal meas
does_judged s cal meas b d p w = go (session_of s).opened refl where
  go : (x : Bool) → (session_of s).opened ≡ x → d ≡ deed_in p (session_of s) cal meas
  go true e = w.opened e
  go false e = (w.closed e).0 ∙ sym (connect_judged p (session_of s) (length cal) (length meas) (w.closed e).1)

module _ (s : List ℕ) (b : ℕ) (c : consistent s ≡ true) (w : Bytes s) (low : b < 256) where
  pub ended_bytes : (p : List ℕ) → packet_ended s b ≡ Some p → Bytes p
  unfolding view_of
  ended_bytes p e = packet_bytes (fed_of s b).taken.outcome (fed_of s b).message p (fed_bytes s b w low) e

  generator_low : generator_of (read_by s b) < 2 ^ 32
  unfolding session_of
  generator_low = subst (λ (x : Session). x.generator < 2 ^ 32) (sym (read_session s b c)) (generator_fits s w)

  -- a deed that is done at a byte shows what it makes of the session
  pub shown_done : (d : Deed) (p cal meas : List ℕ) (n : ℕ) → Doable d (session_of s) n (length cal) (length meas) → Fit d (generator_of (read_by s b)) (wrong_keys_of (read_by s b))
      → shown (after d (read_by s b) cal meas) (written d p cal) ≡ done_by d p (session_of s) cal meas
  shown_done d p cal meas n can fit =
      shown_after d (read_by s b) cal meas n (read_length s b c) (read_can s b d n (length cal) (length meas) c can) fit p ∙ ap (λ (x : Session). done_by d p x cal meas) (read_session s b c)

  -- the deed that a command leads to
  pub command_done : (p cal meas : List ℕ) → Bytes p
      → shown (after (deed_in p (session_of s) cal meas) (read_by s b) cal meas) (written (deed_in p (session_of s) cal meas) p cal) ≡ command_in p (session_of s) cal meas
  command_done p cal meas v =
      let t : List ℕ = read_by s b in
      let fit : Fit (deed_in p (session_of s) cal meas) (generator_of t) (wrong_keys_of t) =
      subst (λ (x : Session). Fit (deed_in p x cal meas) (generator_of t) (wrong_keys_of t)) (read_session s b c) (judged_fits p t (length cal) (length meas) v generator_low) in
      shown_done (deed_in p (session_of s) cal meas) p cal meas (length p) (judged_doable p s (length cal) (length meas)) fit

  -- whatever is done at byte b is what the model does
  does_shown : (d : Deed) (p cal meas : List ℕ) → Performed s cal meas b d p → shown (after d (read_by s b) cal meas) (written d p cal) ≡ command_in p (session_of s) cal meas
  does_shown d p cal meas does =
      ap (λ (x : Deed). shown (after x (read_by s b) cal meas) (written x p cal)) (does_judged s cal meas b d p does) ∙ command_done p cal meas (ended_bytes p does.ended)

  taken_by : (p cal meas : List ℕ) {o : Step} {x : Option Deed} → packet_ended s b ≡ Some p → received_number o.received ≡ 1 → Reads s cal meas b o x → shown o.state o.cal ≡ command_in p (session_of s) cal meas
  taken_by p cal meas e one (rests r n few) = absurd (n one)
  taken_by p cal meas e one (acts d q does) =
      let same : q ≡ p = same_Some q p (sym does.ended ∙ e) in
      does_shown d q cal meas does ∙ ap (λ (x : List ℕ). command_in x (session_of s) cal meas) same

  pub taken_shown : (p cal meas : List ℕ) → packet_ended s b ≡ Some p → received_number (receive_of s cal meas b).received ≡ 1
      → shown (receive_of s cal meas b).state (receive_of s cal meas b).cal ≡ command_in p (session_of s) cal meas
  taken_shown p cal meas e one = taken_by p cal meas e one (received s cal meas b c)

pub as_model : AsModel (Obeyed ours)
as_model = record {
  listed = λ p c cal meas o r. subst Listed (sym r.before) (listed r.state);
  same = λ p c cal meas o r. r.leaves ∙ taken_shown r.state r.last r.sound r.bytes r.low p cal meas r.ends r.taken
      ∙ ap (λ (x : Session). command_in p x cal meas) (sym r.before);
}

-- every command, of the received byte itself
pub ours_obeys : Obeys (Obeyed ours)
ours_obeys = obeys (Obeyed ours) as_model

-- a command that is heard while a session is open and no answer waits is taken
pub heard_obeyed : (s cal meas : List ℕ) (b : ℕ) (p : List ℕ) → consistent s ≡ true → Bytes s → b < 256 → Commands s b p
    → Obeyed ours p (session_of s) cal meas (shown (ours.receive s cal meas b).state (ours.receive s cal meas b).cal)
heard_obeyed s cal meas b p c w low heard = record {
  state = s;
  last = b;
  sound = c;
  bytes = w;
  low = low;
  ends = heard.ends;
  taken = ap (λ (o : Step). received_number o.received) (commanded s cal meas b p c heard);
  before = refl;
  leaves = refl;
}
