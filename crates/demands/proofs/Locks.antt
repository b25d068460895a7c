-- The locks: while calibration is locked no calibration byte changes, and a right key unlocks its own resource alone. Assumes nothing.
use Rattle.std.proofs.Common.{◌≡◌, ℕ, Bool, true, false, cond, List, length, Option, Some, refl, ap, ◌∙◌}
use Rattle.state.specs.State.{consistent}
use Rattle.model.specs.Model.{Session}
use Rattle.model.specs.Step.{step_in}
use Rattle.model.specs.Answers.{written, writes}
use Rattle.model.specs.View.{session_of}
use Rattle.session.specs.Receive.{Step, receive_of}
use Rattle.words.specs.declared.Resource.{Resource}
use Rattle.words.specs.declared.Resource.TheVariants.{Calibration, Lists}
use Rattle.model.specs.declared.Deed.{Deed}
use Rattle.model.specs.declared.Deed.TheVariants.{Connect, Unlock}
use Rattle.demands.specs.Slave.{ours}
use Rattle.demands.specs.Heard.{Commands, deed_in, brings_key, key_matches}
use Rattle.demands.specs.CalibrationLocked.{calibration_shut}
use Rattle.demands.specs.Keys.{other_lock}
use Rattle.fields.proofs.Writes.{by_write}
use Rattle.demands.proofs.Judged.{Found}
use Rattle.demands.proofs.Received.{Reads, rests, acts, received}
use Rattle.demands.proofs.ByteKeeps.{command_steps}
use Rattle.demands.proofs.Refusals.{key_judged}

-- ---- locked
-- a deed that is done while calibration is locked writes nothing
locked_written : (d : Deed) (p : List ℕ) (c : Session) (cal : List ℕ) → Found d p c → c.unlocked Calibration ≡ false → written d p cal ≡ cal
locked_written d p c cal =
    by_write (λ (e : Deed). Found e p c → c.unlocked Calibration ≡ false → written e p cal ≡ cal)
    (λ e w f n. rw w) (λ from a m f n. cc) d

connect_written : (d : Deed) (p cal : List ℕ) → d ≡ Connect → written d p cal ≡ cal
unfolding writes
connect_written d p cal e = rw e

shut_by : {s cal meas : List ℕ} {b : ℕ} {o : Step} {x : Option Deed} → calibration_shut (session_of s) ≡ true → Reads s cal meas b o x → o.cal ≡ cal
shut_by h (rests r n f) = refl
shut_by {s} {cal} {meas} {b} h (acts d p w) = go (session_of s).opened ((session_of s).unlocked Calibration) refl refl h where
  go : (o u : Bool) → (session_of s).opened ≡ o → (session_of s).unlocked Calibration ≡ u → cond o (cond u false true) true ≡ true → written d p cal ≡ cal
  go true true x y z = cc
  go true false x y z = locked_written d p (session_of s) cal w.found y
  go false u x y z = connect_written d p cal (w.closed x).0

-- a state that is not consistent is left alone
untouched : (s cal meas : List ℕ) (b : ℕ) → consistent s ≡ false → (receive_of s cal meas b).cal ≡ cal
unfolding receive_of
untouched s cal meas b n = simp n

pub locked_keeps : (s cal meas : List ℕ) (b : ℕ) → calibration_shut (session_of s) ≡ true → (ours.receive s cal meas b).cal ≡ cal
locked_keeps s cal meas b h = go (consistent s) refl where
  go : (t : Bool) → consistent s ≡ t → (ours.receive s cal meas b).cal ≡ cal
  go true c = shut_by h (received s cal meas b c)
  go false c = untouched s cal meas b c

-- ---- unlocked
-- a key opens its own lock, and leaves the other
key_opens : (r : Resource) (c : Session) → (step_in (Unlock r) c).unlocked r ≡ true
unfolding step_in
key_opens Calibration c = refl
key_opens Lists c = refl

key_alone : (r : Resource) (c : Session) → (step_in (Unlock r) c).unlocked (other_lock r) ≡ c.unlocked (other_lock r)
unfolding step_in
key_alone Calibration c = refl
key_alone Lists c = refl

pub unlocks_own : (s cal meas : List ℕ) (b : ℕ) (p : List ℕ) (r : Resource) → consistent s ≡ true
    → Commands s b p → (session_of s).seed ≡ Some r → brings_key p ≡ true → key_matches p r (session_of s) ≡ true
    → ((session_of (ours.receive s cal meas b).state).unlocked r ≡ true)
    × ((session_of (ours.receive s cal meas b).state).unlocked (other_lock r) ≡ (session_of s).unlocked (other_lock r))
unlocks_own s cal meas b p r c w e k m =
    let right : deed_in p (session_of s) cal meas ≡ Unlock r = key_judged p (session_of s) r (length cal) (length meas) k e ∙ rw m in
    let locks : (session_of (receive_of s cal meas b).state).unlocked ≡ (step_in (Unlock r) (session_of s)).unlocked =
    (command_steps s cal meas b p c w).unlocked ∙ ap (λ (d : Deed). (step_in d (session_of s)).unlocked) right in
    (ap (λ (f : Resource → Bool). f r) locks ∙ key_opens r (session_of s), ap (λ (f : Resource → Bool). f (other_lock r)) locks ∙ key_alone r (session_of s))
