-- Calls among which no command changes the seed leave it, and so of the MTA and of the pool. Assumes nothing.
use Rattle.std.proofs.Common.{◌≡◌, ℕ, Bool, true, false, List, [], ◌∷◌, length, refl, sym, ap, ◌∙◌, subst, Option}
use Rattle.state.specs.State.{consistent}
use Rattle.words.specs.declared.Resource.{Resource}
use Rattle.words.specs.declared.Resource.TheVariants.{Lists}
use Rattle.session.specs.Perform.{effect, after}
use Rattle.session.specs.Receive.{Step, receive_of}
use Rattle.lists.specs.Event.{event_of}
use Rattle.lists.specs.Slot.{slot_of}
use Rattle.model.specs.declared.Deed.{Deed}
use Rattle.model.specs.Model.{Session}
use Rattle.model.specs.Answers.{reply_in}
use Rattle.model.specs.View.{session_of}
use Rattle.fields.proofs.Kept.{receive_kept, event_kept, slot_kept}
use Rattle.look.proofs.Looked.{judged_doable}
use Rattle.views.specs.Locked.{SettingsKept}
use Rattle.demands.specs.Slave.{ours}
use Rattle.demands.specs.Runs.{Call, Byte, Event, SendingSlot, Elsewhere, run}
use Rattle.demands.specs.Heard.{read_by, deed_in, of_answered}
use Rattle.demands.specs.Between.{changes_seed, changes_mta, changes_pool, Without}
use Rattle.demands.proofs.ReadBy.{read_length, read_session}
use Rattle.demands.proofs.Received.{Performed, Reads, rests, acts, received, done_answer, acting}
use Rattle.demands.proofs.ByteKeeps.{done_effect}
use Rattle.demands.proofs.Obeyed.{does_judged}
use Rattle.demands.proofs.ListsLocked.{settings_same, lists_locked_lem}
use Rattle.demands.proofs.Alike.{Alike, alike_self, event_alike, slot_alike}
use Rattle.demands.proofs.Changes.{SeedKept, MtaKept, PoolKept, Leaves, judged_leaves}

-- ---- a deed that is done at a byte leaves what its packet is judged to leave
done_leaves : (s cal meas : List ℕ) (b : ℕ) → consistent s ≡ true → (d : Deed) (p : List ℕ) → Performed s cal meas b d p
    → Leaves p (reply_in d (session_of s) cal meas) (session_of s) (session_of (after d (read_by s b) cal meas))
done_leaves s cal meas b c d p w =
    let t : List ℕ = read_by s b in
    let same : session_of t ≡ session_of s = read_session s b c in
    let is : deed_in p (session_of t) cal meas ≡ d = ap (λ (x : Session). deed_in p x cal meas) same ∙ sym (does_judged s cal meas b d p w) in
    subst (Leaves p (reply_in d (session_of s) cal meas) (session_of s)) (sym (done_effect s cal meas b c d p w))
    (subst (λ (x : Session). Leaves p (reply_in d x cal meas) x (session_of (effect d t))) same
    (subst (λ (x : Deed). Leaves p (reply_in x (session_of t) cal meas) (session_of t) (session_of (effect x t))) is
    (judged_leaves p t cal meas (read_length s b c) (judged_doable p t (length cal) (length meas)))))

-- ---- a part of the session that commands keep unless a test says otherwise, and that events and slots keep
record Part (changes : List ℕ → List ℕ → Bool) (K : Session → Session → Type 0) : Type 1 where
  then : {c d e : Session} → K c d → K d e → K c e
  still : {c d : Session} → Alike c d → SettingsKept c d → K c d
  kept : {p a : List ℕ} {c d : Session} → Leaves p a c d → changes p a ≡ false → K c d

module _ (changes : List ℕ → List ℕ → Bool) (K : Session → Session → Type 0) (part : Part changes K) where
  byte_by : {s cal meas : List ℕ} {b : ℕ} {o : Step} {x : Option Deed} → consistent s ≡ true → Reads s cal meas b o x → of_answered changes o s b ≡ false → K (session_of s) (session_of o.state)
  byte_by {s} {b = b} c (rests r n f) e = part.still (subst (Alike (session_of s)) (sym (read_session s b c)) alike_self) (settings_same (read_session s b c))
  byte_by {s} {cal} {meas} {b} c (acts d p w) e =
      part.kept (done_leaves s cal meas b c d p w) (sym (acting changes s cal meas b d p w.ended ∙ ap (changes p) (done_answer s cal meas b d (length p) c w.can)) ∙ e)

  run_keeps : (cs : List Call) (s : List ℕ) → consistent s ≡ true → Without changes ours s cs → K (session_of s) (session_of (run ours s cs))
  run_keeps [] s c u = part.still alike_self (settings_same refl)
  run_keeps (Byte cal meas b ∷ cs) s c u = part.then (byte_by c (received s cal meas b c) u.0) (run_keeps cs (receive_of s cal meas b).state (receive_kept s cal meas b c) u.1)
  run_keeps (Event cal meas event clock ∷ cs) s c u =
      part.then (part.still (event_alike s cal meas event clock) (lists_locked_lem.event s cal meas event clock)) (run_keeps cs (event_of s cal meas event clock).state (event_kept s cal meas event clock c) u)
  run_keeps (SendingSlot out ∷ cs) s c u = part.then (part.still (slot_alike s out c) (lists_locked_lem.slot s out)) (run_keeps cs (slot_of s out).state (slot_kept s out c) u)
  run_keeps (Elsewhere ∷ cs) s c u = run_keeps cs s c u

pub run_seed : (cs : List Call) (s : List ℕ) → consistent s ≡ true → Without changes_seed ours s cs → SeedKept (session_of s) (session_of (run ours s cs))
run_seed = run_keeps changes_seed SeedKept (record {
  then = λ p q. record { generator = q.generator ∙ p.generator; seed = q.seed ∙ p.seed; unlocked = q.unlocked ∙ p.unlocked };
  still = λ a _. record { generator = a.generator; seed = a.seed; unlocked = a.unlocked };
  kept = λ w. w.seed;
})

pub run_mta : (cs : List Call) (s : List ℕ) → consistent s ≡ true → Without changes_mta ours s cs → MtaKept (session_of s) (session_of (run ours s cs))
run_mta = run_keeps changes_mta MtaKept (record { then = λ p q. q ∙ p; still = λ a _. a.mta; kept = λ w. w.mta })

pub run_pool : (cs : List Call) (s : List ℕ) → consistent s ≡ true → Without changes_pool ours s cs → PoolKept (session_of s) (session_of (run ours s cs))
run_pool = run_keeps changes_pool PoolKept (record {
  then = λ p q. record {
    unlocked = λ e. q.unlocked (p.unlocked e);
    freed = q.freed ∙ p.freed;
    lists = q.lists ∙ p.lists;
    odts = λ l. q.odts l ∙ p.odts l;
    entry_counts = λ l o. q.entry_counts l o ∙ p.entry_counts l o;
    still = λ l e. q.still l (p.still l e);
  };
  still = λ a s. record {
    unlocked = λ e. ap (λ (f : Resource → Bool). f Lists) a.unlocked ∙ e;
    freed = s.freed;
    lists = s.lists;
    odts = s.odts;
    entry_counts = s.entry_counts;
    still = λ l e. s.started l ∙ e;
  };
  kept = λ w. w.pool;
})
