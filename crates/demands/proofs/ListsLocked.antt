-- While lists are locked no call changes the lists' settings, unless it ends or renews the session. Assumes nothing.
use Rattle.std.proofs.Common.{◌≡◌, ℕ, ◌<◌, Bool, true, false, cond, List, length, Option, Some, None, eqb, ltb, refl, sym, ◌∙◌, subst, eqb-true, lit≤}
use Rattle.std.proofs.lemmas.Bool.{false≢true}
use Rattle.line.specs.Message.{room}
use Rattle.line.proofs.Laws.{cond_ind}
use Rattle.state.specs.State.{consistent}
use Rattle.lists.specs.Slot.{Slot, turn_of, sent_by, slot_of}
use Rattle.model.specs.Turn.{Turn}
use Rattle.words.specs.declared.Resource.TheVariants.{Lists}
use Rattle.model.specs.declared.Deed.{Deed}
use Rattle.model.specs.declared.Deed.TheVariants.{Connect}
use Rattle.model.specs.Answers.{written, reply_in, done_by}
use Rattle.session.specs.Perform.{after}
use Rattle.session.specs.Receive.{Step, receive_of}
use Rattle.model.specs.Heed.{good_connect}
use Rattle.fields.proofs.Readers.{before, same_part}
use Rattle.fields.proofs.Captures.{only_event}
use Rattle.fields.proofs.Served.{answer_sent_session, packet_sent_rest}
use Rattle.model.specs.Model.{byte, Bytes, Session}
use Rattle.model.specs.Step.{step_in}
use Rattle.model.specs.View.{session_of, view_of, shown}
use Rattle.model.specs.declared.Sender.TheVariants.{Answer, Packet}
use Rattle.views.specs.Commands.{Fresh}
use Rattle.views.specs.Locked.{SettingsKept, ends_session, Shields}
use Rattle.views.proofs.SessionLaws.{blank_fresh}
use Rattle.views.proofs.Settings.{settings_read}
use Rattle.views.proofs.Locked.{locked_shields}
use Rattle.demands.specs.Slave.{ours}
use Rattle.demands.specs.Heard.{read_by}
use Rattle.demands.specs.ListsLocked.{ends_at, ListsLocked}
use Rattle.demands.proofs.Received.{Performed, Reads, rests, acts, received, resting, acting}
use Rattle.demands.proofs.ReadBy.{read_session}
use Rattle.demands.proofs.Obeyed.{ended_bytes, shown_done, command_done}

-- nothing changed
pub settings_same : {c d : Session} → d ≡ c → SettingsKept c d
settings_same e = rw e (record { pointer = refl; freed = refl; lists = refl; modes = λ l. refl; selected = λ l. refl; started = λ l. refl; odts = λ l. refl; entry_counts = λ l o. refl; entries = λ l o i. refl })

-- a good CONNECT renews it
connect_ends : (p : List ℕ) (c : Session) (cal meas : List ℕ) → good_connect p ≡ true → Shields p c (done_by Connect p c cal meas)
unfolding good_connect step_in reply_in
connect_ends p c cal meas g = record { kept = λ n. absurd (false≢true (sym n ∙ ends)); fresh = λ _. blank_fresh c c.wrong_keys true } where
  code : (b x : Bool) → cond b x false ≡ true → b ≡ true
  code true x e = refl
  code false x e = cc

  ends : ends_session p (reply_in Connect c cal meas) ≡ true
  ends = rw (eqb-true (byte p 0) 0xFF (code (eqb (byte p 0) 0xFF) _ g))

-- ---- a received byte
module _ (s cal meas : List ℕ) (b : ℕ) (c : consistent s ≡ true) (w : Bytes s) (low : b < 256) (locked : (session_of s).opened ≡ true → (session_of s).unlocked Lists ≡ false) where
  -- a deed that is done
  deed_shields : (d : Deed) (p : List ℕ) → Performed s cal meas b d p → Shields p (session_of s) (shown (after d (read_by s b) cal meas) (written d p cal))
  deed_shields d p does = go (session_of s).opened refl where
    go : (x : Bool) → (session_of s).opened ≡ x → Shields p (session_of s) (shown (after d (read_by s b) cal meas) (written d p cal))
    go true e =
        subst (λ (x : Deed). Shields p (session_of s) (shown (after x (read_by s b) cal meas) (written x p cal))) (sym (does.opened e))
        (subst (Shields p (session_of s)) (sym (command_done s b c w low p cal meas (ended_bytes s b c w low p does.ended)))
        (locked_shields p (session_of s) cal meas (locked e)))
    go false e =
        subst (λ (x : Deed). Shields p (session_of s) (shown (after x (read_by s b) cal meas) (written x p cal))) (sym (does.closed e).0)
        (subst (Shields p (session_of s)) (sym (shown_done s b c w low Connect p cal meas (length p) tt tt)) (connect_ends p (session_of s) cal meas (does.closed e).1))

  record Guarded (o : Step) : Type 0 where
    kept : ends_at o s b ≡ false → SettingsKept (session_of s) (session_of o.state)
    fresh : ends_at o s b ≡ true → Fresh (session_of s) (session_of o.state)

  guarded_by : {o : Step} {x : Option Deed} → Reads s cal meas b o x → Guarded o
  unfolding view_of
  guarded_by (rests r n few) = record { kept = λ _. settings_same (read_session s b c); fresh = λ t. absurd (false≢true (sym (resting ends_session s cal b r n) ∙ t)) }
  guarded_by (acts d p does) =
      let h : Shields p (session_of s) (shown (after d (read_by s b) cal meas) (written d p cal)) = deed_shields d p does in
      let is = acting ends_session s cal meas b d p does.ended in
      record { kept = λ n. h.kept (sym is ∙ n); fresh = λ t. h.fresh (sym is ∙ t) }

  guarded : Guarded (receive_of s cal meas b)
  guarded = guarded_by (received s cal meas b c)

-- ---- an event, and a slot
event_keeps : (s cal meas : List ℕ) (number clock : ℕ) → SettingsKept (session_of s) (session_of (ours.event s cal meas number clock).state)
event_keeps s cal meas number clock = settings_read (before (lit≤ tt) (only_event s cal meas number clock))

sent_keeps : (t : Turn) (s out : List ℕ) → SettingsKept (session_of s) (session_of (sent_by t s out).state)
unfolding sent_by
sent_keeps None s out = settings_same refl
sent_keeps (Some Answer) s out = settings_read (same_part (lit≤ tt) (lit≤ tt) (answer_sent_session s))
sent_keeps (Some (Packet l o)) s out = settings_read (same_part (lit≤ tt) (lit≤ tt) (packet_sent_rest s l o))

slot_keeps : (s out : List ℕ) → SettingsKept (session_of s) (session_of (slot_of s out).state)
unfolding slot_of
slot_keeps s out =
    let P : Slot → Type 0 = λ (o : Slot). SettingsKept (session_of s) (session_of o.state) in
    cond_ind P (consistent s) (λ _. cond_ind P (ltb (length out) room) (λ _. settings_same refl) (λ _. sent_keeps (turn_of s) s out)) (λ _. settings_same refl)

pub lists_locked_lem : ListsLocked ours
lists_locked_lem = record {
  kept = λ s cal meas b c w low locked. (guarded s cal meas b c w low locked).kept;
  fresh = λ s cal meas b c w low locked. (guarded s cal meas b c w low locked).fresh;
  event = event_keeps;
  slot = slot_keeps;
}
