-- A lock opens by its own right key alone; so through a life without one a memory that nothing else writes stays as it is. Assumes nothing.
use Rattle.std.proofs.Common.{◌≡◌, ℕ, ◌⊎◌, inl, inr, ⊎_elim, Bool, true, false, cond, List, [], ◌∷◌, refl, sym, ap, ap₂, ◌∙◌, lit<, lit≤, Option}
use Rattle.std.proofs.lemmas.Bool.{false≢true}
use Rattle.line.proofs.Laws.{cond_ind}
use Rattle.state.specs.Layout.{open_at}
use Rattle.state.specs.State.{consistent, flag_of}
use Rattle.model.specs.Model.{Session}
use Rattle.model.specs.Step.{step_in}
use Rattle.model.specs.View.{session_of}
use Rattle.session.specs.Perform.{after}
use Rattle.session.specs.PowerUp.{powered}
use Rattle.session.specs.Receive.{Step, receive_of}
use Rattle.lists.specs.Event.{event_of}
use Rattle.lists.specs.Slot.{slot_of}
use Rattle.words.specs.declared.Resource.{Resource}
use Rattle.words.specs.declared.Resource.TheVariants.{Calibration, Lists}
use Rattle.model.specs.declared.Deed.{Deed}
use Rattle.model.specs.declared.Deed.TheVariants.{Refuse, RefuseSize, WrongKey, Connect, Disconnect, Status, Synch, NoSeed, GiveSeed, Unlock, SetMta, Upload, Checksum, Download, ClearList, SetPointer, ClearEntry, WriteEntry, SetMode, Stop, Start, KeepRunning, Select, StopAll, StartSelected, StopSelected, ProcessorInfo, ResolutionInfo, FreeLists, AllocLists, AllocOdts, AllocEntries}
use Rattle.state.proofs.Consistent.{consistent_size}
use Rattle.views.proofs.Calls.{powered_nought}
use Rattle.demands.specs.Heard.{read_by}
use Rattle.demands.specs.Life.{Device, Moment, PowerOn, Hears, OnEvent, Serves, after_moment, lived, OfByte, OfBytes}
use Rattle.demands.specs.CalibrationLocked.{calibration_shut, Keyless}
use Rattle.demands.specs.Keys.{RightKeyEnds}
use Rattle.demands.specs.Slave.{ours}
use Rattle.demands.proofs.ReadBy.{read_session}
use Rattle.demands.proofs.Judged.{Found, RightKey}
use Rattle.demands.proofs.Received.{Performed, Reads, rests, acts, received}
use Rattle.demands.proofs.ByteKeeps.{done_steps}
use Rattle.demands.proofs.Locks.{locked_keeps}
use Rattle.demands.proofs.Alike.{Alike, event_alike, slot_alike}
use Rattle.demands.proofs.Numbering.{power_up_is}
use Rattle.demands.proofs.Life.{moment_kept}

-- what a deed does to lock r that is shut: it is its own right key; or the lock stays shut
record Turned (d : Deed) (p : List ℕ) (c : Session) (r : Resource) : Type 0 where
  deed : d ≡ Unlock r
  key : RightKey r p c

abbrev Opens : Deed → List ℕ → Session → Resource → Type 0
Opens d p c r = Turned d p c r ⊎ ((step_in d c).unlocked r ≡ false)

unlock_opens : (x r : Resource) (p : List ℕ) (c : Session) → RightKey x p c → c.unlocked r ≡ false → Opens (Unlock x) p c r
unfolding step_in
unlock_opens Calibration Calibration p c f e = inl (record { deed = refl; key = f })
unlock_opens Calibration Lists p c f e = inr e
unlock_opens Lists Calibration p c f e = inr e
unlock_opens Lists Lists p c f e = inl (record { deed = refl; key = f })

-- no other deed opens a lock
opens : (d : Deed) (p : List ℕ) (c : Session) (r : Resource) → Found d p c → c.unlocked r ≡ false → Opens d p c r
unfolding step_in
opens (Refuse x) p c r f e = inr e
opens RefuseSize p c r f e = inr e
opens WrongKey p c r f e = inr refl
opens Connect p c r f e = inr refl
opens Disconnect p c r f e = inr refl
opens Status p c r f e = inr e
opens Synch p c r f e = inr e
opens NoSeed p c r f e = inr e
opens (GiveSeed x) p c r f e = inr e
opens (Unlock x) p c r f e = unlock_opens x r p c f e
opens (SetMta x a) p c r f e = inr e
opens (Upload x a m) p c r f e = inr e
opens (Checksum x a m) p c r f e = inr e
opens (Download from a m) p c r f e = inr e
opens (ClearList l) p c r f e = inr e
opens (SetPointer l o x) p c r f e = inr e
opens (ClearEntry l o x) p c r f e = inr e
opens (WriteEntry l o x m y a) p c r f e = inr e
opens (SetMode l event) p c r f e = inr e
opens (Stop l) p c r f e = inr e
opens (Start l) p c r f e = inr e
opens (KeepRunning l) p c r f e = inr e
opens (Select l) p c r f e = inr e
opens StopAll p c r f e = inr e
opens StartSelected p c r f e = inr e
opens StopSelected p c r f e = inr e
opens ProcessorInfo p c r f e = inr e
opens ResolutionInfo p c r f e = inr e
opens FreeLists p c r f e = inr e
opens (AllocLists n) p c r f e = inr e
opens (AllocOdts l n) p c r f e = inr e
opens (AllocEntries l o n) p c r f e = inr e

-- ---- a byte
connect_unlocks : (r : Resource) → Connect ≡ Unlock r → ⊥
connect_unlocks r e = cc

module _ (s cal meas : List ℕ) (b : ℕ) (r : Resource) (c : consistent s ≡ true) where
  done_lock : (d : Deed) (p : List ℕ) → Performed s cal meas b d p → (session_of (after d (read_by s b) cal meas)).unlocked r ≡ (step_in d (session_of s)).unlocked r
  done_lock d p w = ap (λ (f : Resource → Bool). f r) (done_steps s cal meas b c d p w).unlocked

  turned_key : (d : Deed) (p : List ℕ) → Performed s cal meas b d p → Turned d p (session_of s) r → RightKeyEnds s b r
  turned_key d p w k =
      record { packet = p; command = record { ends = w.ended; opened = open_then (session_of s).opened refl; free = w.free }; seed = k.key.seed; key = k.key.key; right = k.key.right } where
        open_then : (o : Bool) → (session_of s).opened ≡ o → (session_of s).opened ≡ true
        open_then true e = e
        open_then false e = absurd (connect_unlocks r (sym (w.closed e).0 ∙ k.deed))

  opens_by : {o : Step} {x : Option Deed} → Reads s cal meas b o x → (session_of s).unlocked r ≡ false → (session_of o.state).unlocked r ≡ true → RightKeyEnds s b r
  opens_by (rests q n f) e t = absurd (false≢true (sym e ∙ sym (ap (λ (x : Session). x.unlocked r) (read_session s b c)) ∙ t))
  opens_by (acts d p w) e t = ⊎_elim (turned_key d p w) (λ still. absurd (false≢true (sym (done_lock d p w ∙ still) ∙ t))) (opens d p (session_of s) r w.found e)

pub opens_by_key_lem : (s cal meas : List ℕ) (b : ℕ) (r : Resource) → consistent s ≡ true → (session_of s).unlocked r ≡ false → (session_of (ours.receive s cal meas b).state).unlocked r ≡ true
    → RightKeyEnds s b r
opens_by_key_lem s cal meas b r c e t = opens_by s cal meas b r c (received s cal meas b c) e t

-- ---- so a session that is shut stays shut
pub shut_locked : (c : Session) → c.unlocked Calibration ≡ false → calibration_shut c ≡ true
shut_locked c e = rw e (cond_ind (λ (t : Bool). t ≡ true) c.opened (λ _. refl) (λ _. refl))

shut_same : (c d : Session) → Alike c d → calibration_shut c ≡ true → calibration_shut d ≡ true
shut_same c d w h = ap₂ (λ (o : Bool) (f : Resource → Bool). cond o (cond (f Calibration) false true) true) w.opened w.unlocked ∙ h

connect_locks : (d : Deed) (c : Session) (r : Resource) → d ≡ Connect → (step_in d c).unlocked r ≡ false
unfolding step_in
connect_locks d c r e = rw e

closed_by : {s cal meas : List ℕ} {b : ℕ} {o : Step} {x : Option Deed} → consistent s ≡ true → (session_of s).opened ≡ false → calibration_shut (session_of s) ≡ true → Reads s cal meas b o x → calibration_shut (session_of o.state) ≡ true
closed_by {s} {b = b} c e h (rests q n f) = ap calibration_shut (read_session s b c) ∙ h
closed_by {s} {cal} {meas} {b} c e h (acts d p w) =
    shut_locked (session_of (after d (read_by s b) cal meas)) (done_lock s cal meas b Calibration c d p w ∙ connect_locks d (session_of s) Calibration (w.closed e).0)

byte_shut : (s cal meas : List ℕ) (b : ℕ) → consistent s ≡ true → calibration_shut (session_of s) ≡ true → (RightKeyEnds s b Calibration → ⊥) → calibration_shut (session_of (receive_of s cal meas b).state) ≡ true
byte_shut s cal meas b c h none = go (session_of s).opened ((session_of s).unlocked Calibration) ((session_of (receive_of s cal meas b).state).unlocked Calibration) refl refl refl h where
  go : (o u t : Bool) → (session_of s).opened ≡ o → (session_of s).unlocked Calibration ≡ u → (session_of (receive_of s cal meas b).state).unlocked Calibration ≡ t → cond o (cond u false true) true ≡ true
      → calibration_shut (session_of (receive_of s cal meas b).state) ≡ true
  go true true t x y z q = cc
  go true false true x y z q = absurd (none (opens_by_key_lem s cal meas b Calibration c y z))
  go true false false x y z q = shut_locked (session_of (receive_of s cal meas b).state) z
  go false u t x y z q = closed_by c x h (received s cal meas b c)

-- power-up shuts it
power_shut : (start : ℕ) → calibration_shut (session_of (powered start)) ≡ true
unfolding session_of flag_of
power_shut start = rw (powered_nought start open_at (lit≤ tt) (lit< tt))

moment_shut : (h : Device) (m : Moment) → consistent h.state ≡ true → calibration_shut (session_of h.state) ≡ true → OfByte Keyless h m → calibration_shut (session_of (after_moment ours h m).state) ≡ true
moment_shut h (PowerOn start) c e k = rw (power_up_is h.state start (consistent_size h.state c)) (power_shut start)
moment_shut h (Hears meas b) c e k = byte_shut h.state h.cal meas b c e k
moment_shut h (OnEvent meas event clock) c e k = shut_same (session_of h.state) (session_of (event_of h.state h.cal meas event clock).state) (event_alike h.state h.cal meas event clock) e
moment_shut h (Serves out) c e k = shut_same (session_of h.state) (session_of (slot_of h.state out).state) (slot_alike h.state out c) e

-- ---- and the memory stays
moment_keeps : (h : Device) (m : Moment) → calibration_shut (session_of h.state) ≡ true → (after_moment ours h m).cal ≡ h.cal
moment_keeps h (PowerOn start) e = refl
moment_keeps h (Hears meas b) e = locked_keeps h.state h.cal meas b e
moment_keeps h (OnEvent meas event clock) e = refl
moment_keeps h (Serves out) e = refl

pub life_keyless : (h : Device) (ms : List Moment) → consistent h.state ≡ true → calibration_shut (session_of h.state) ≡ true → OfBytes Keyless ours h ms → (lived ours h ms).cal ≡ h.cal
life_keyless h [] c e k = refl
life_keyless h (m ∷ ms) c e k = life_keyless (after_moment ours h m) ms (moment_kept h m c) (moment_shut h m c e k.0) k.1 ∙ moment_keeps h m e
