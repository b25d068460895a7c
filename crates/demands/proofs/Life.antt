-- Over a whole life, power-ups in it and one memory that the slave alone writes: the state stays consistent, the memory is as DOWNLOAD left it, and the
-- CTR begins at 0 with each power-up. Assumes nothing.
use Rattle.std.proofs.Common.{◌≡◌, ℕ, ◌+◌, ◌≤◌, ◌⊎◌, ⊎_elim, true, List, [], ◌∷◌, ◌++◌, length, refl, ap, ap₂, ◌∙◌, arith, le_refl, length-take, Option, Some}
use Rattle.std.proofs.Math.Seq.{sets}
use Rattle.state.specs.Layout.{size}
use Rattle.state.specs.Bytes.{block}
use Rattle.state.specs.State.{consistent}
use Rattle.model.specs.View.{view_of}
use Rattle.model.specs.Answers.{written, writes}
use Rattle.session.specs.PowerUp.{powered}
use Rattle.session.specs.Receive.{Step}
use Rattle.model.specs.declared.Deed.{Deed}
use Rattle.model.specs.declared.Deed.TheVariants.{Download}
use Rattle.state.proofs.Consistent.{consistent_size}
use Rattle.fields.proofs.Frames.{Only, only_sets}
use Rattle.fields.proofs.Readers.{Same, before, behind, same_block}
use Rattle.fields.proofs.Kept.{power_consistent, receive_kept, event_kept, slot_kept}
use Rattle.demands.specs.Slave.{ours}
use Rattle.demands.specs.Runs.{SendingSlot, sends}
use Rattle.demands.specs.Life.{Device, Moment, PowerOn, Hears, OnEvent, Serves, after_moment, lived, sent_in_life, OfByte, OfBytes}
use Rattle.demands.specs.Memory.{Downloads, Uploads, Spares}
use Rattle.demands.specs.Wire.{due_at, due_in}
use Rattle.demands.specs.CalibrationLocked.{WhileShut}
use Rattle.fields.proofs.Writes.{by_write}
use Rattle.demands.proofs.Received.{Reads, rests, acts, received}
use Rattle.demands.proofs.Locks.{locked_keeps}
use Rattle.demands.proofs.Downloads.{uploaded, Wrote, downloaded}
use Rattle.demands.proofs.Numbering.{At, Numbered, slot_numbers, power_ctr, power_up_is}
use Rattle.demands.proofs.ByteKeeps.{byte_sent}
use Rattle.demands.proofs.Events.{event_sent}

-- ---- the state stays consistent
pub moment_kept : (h : Device) (m : Moment) → consistent h.state ≡ true → consistent (after_moment ours h m).state ≡ true
moment_kept h (PowerOn start) c = rw (power_up_is h.state start (consistent_size h.state c)) (power_consistent start)
moment_kept h (Hears meas b) c = receive_kept h.state h.cal meas b c
moment_kept h (OnEvent meas event clock) c = event_kept h.state h.cal meas event clock c
moment_kept h (Serves out) c = slot_kept h.state out c

pub life_kept : (h : Device) (ms : List Moment) → consistent h.state ≡ true → consistent (lived ours h ms).state ≡ true
life_kept h [] c = c
life_kept h (m ∷ ms) c = life_kept (after_moment ours h m) ms (moment_kept h m c)

-- ---- while calibration is locked the memory stays
passed_locked : (h : Device) (m : Moment) → OfByte WhileShut h m → (after_moment ours h m).cal ≡ h.cal
passed_locked h (PowerOn start) u = refl
passed_locked h (Hears meas b) u = locked_keeps h.state h.cal meas b u
passed_locked h (OnEvent meas event clock) u = refl
passed_locked h (Serves out) u = refl

pub life_locked : (h : Device) (ms : List Moment) → OfBytes WhileShut ours h ms → (lived ours h ms).cal ≡ h.cal
life_locked h [] u = refl
life_locked h (m ∷ ms) u = life_locked (after_moment ours h m) ms u.1 ∙ passed_locked h m u.0

-- ---- n bytes from a stay where no DOWNLOAD or SHORT_DOWNLOAD writes
abbrev Beside : ℕ → ℕ → Option Deed → Type 0
Beside a n x = (from at many : ℕ) → x ≡ Some (Download from at many) → (at + many ≤ a) ⊎ (a + n ≤ at)

record Leaves (a n : ℕ) (cal new : List ℕ) : Type 0 where
  long : length new ≡ length cal
  bytes : block new a n ≡ block cal a n

module _ (a n : ℕ) where
  leaves_all : {cal : List ℕ} → Leaves a n cal cal
  leaves_all = record { long = refl; bytes = refl }

  leaves_same : {cal new : List ℕ} → Same a (a + n) cal new → Leaves a n cal new
  leaves_same w = record { long = w.long; bytes = same_block a n (le_refl a) (le_refl (a + n)) w }

  download_leaves : (from at many : ℕ) (p cal : List ℕ) → (at + many ≤ a) ⊎ (a + n ≤ at) → Leaves a n cal (sets cal at (block p from many))
  download_leaves from at many p cal u =
      let w : Only at (at + many) cal (sets cal at (block p from many)) = only_sets cal at (block p from many) (le_refl at) (omega (arith, few)) in
      ⊎_elim (λ h. leaves_same (behind h w)) (λ h. leaves_same (before h w)) u where
        few : length (block p from many) ≤ many
        few = rw length-take (omega arith)

  deed_leaves : (d : Deed) (p cal : List ℕ) → Beside a n (Some d) → Leaves a n cal (written d p cal)
  unfolding writes
  deed_leaves d p cal =
      by_write (λ (e : Deed). Beside a n (Some e) → Leaves a n cal (written e p cal))
      (λ e w u. rw w leaves_all) (λ from x m u. download_leaves from x m p cal (u from x m refl)) d

  byte_leaves : {s cal meas : List ℕ} {b : ℕ} {o : Step} {x : Option Deed} → Reads s cal meas b o x → Beside a n x → Leaves a n cal o.cal
  byte_leaves (rests r x f) u = leaves_all
  byte_leaves {cal = cal} (acts d p w) u = deed_leaves d p cal u

  passed_leaves : (h : Device) (m : Moment) → consistent h.state ≡ true → OfByte (Spares a n) h m → Leaves a n h.cal (after_moment ours h m).cal
  passed_leaves h (PowerOn start) c u = leaves_all
  passed_leaves h (Hears meas b) c u = byte_leaves (received h.state h.cal meas b c) u
  passed_leaves h (OnEvent meas event clock) c u = leaves_all
  passed_leaves h (Serves out) c u = leaves_all

  life_leaves : (h : Device) (ms : List Moment) → consistent h.state ≡ true → OfBytes (Spares a n) ours h ms → Leaves a n h.cal (lived ours h ms).cal
  life_leaves h [] c u = leaves_all
  life_leaves h (m ∷ ms) c u =
      let here : Leaves a n h.cal (after_moment ours h m).cal = passed_leaves h m c u.0 in
      let later : Leaves a n (after_moment ours h m).cal (lived ours h (m ∷ ms)).cal = life_leaves (after_moment ours h m) ms (moment_kept h m c) u.1 in
      record { long = later.long ∙ here.long; bytes = later.bytes ∙ here.bytes }

-- ---- so what they wrote is given back
pub gives_back_later_lem : (h : Device) (meas : List ℕ) (b : ℕ) (p : List ℕ) (from a n : ℕ) (between : List Moment) (meas' : List ℕ) (c : ℕ) (q : List ℕ) → consistent h.state ≡ true
    → Downloads h.state b p from a n → (view_of (after_moment ours h (Hears meas b)).state).answer ≡ 0xFF ∷ [] → OfBytes (Spares a n) ours (after_moment ours h (Hears meas b)) between
    → Uploads (lived ours (after_moment ours h (Hears meas b)) between).state c q a n
    → (view_of (after_moment ours (lived ours (after_moment ours h (Hears meas b)) between) (Hears meas' c)).state).answer ≡ 0xFF ∷ block p from n
gives_back_later_lem h meas b p from a n between meas' c q k down said clear up =
    let h₁ : Device = after_moment ours h (Hears meas b) in
    let h₂ : Device = lived ours h₁ between in
    let k₁ : consistent h₁.state ≡ true = moment_kept h (Hears meas b) k in
    let w : Wrote p from a n h.cal h₁.cal = downloaded h.state h.cal meas b p from a n k down said in
    let l : Leaves a n h₁.cal h₂.cal = life_leaves a n h₁ between k₁ clear in
    uploaded h₂.state h₂.cal meas' c q a n (life_kept h₁ between k₁) up w.some w.few (rw l.long w.inside)
    ∙ ap (λ (x : List ℕ). 0xFF ∷ x) (l.bytes ∙ w.there)

-- ---- the CTR
life_numbers : (ms : List Moment) (i : ℕ) (h : Device) → consistent h.state ≡ true → At 0 i h.state → sent_in_life ours h ms ≡ due_in ours i h ms
life_numbers [] i h c a = refl
life_numbers (PowerOn start ∷ ms) i h c a =
    life_numbers ms 0 (after_moment ours h (PowerOn start)) (moment_kept h (PowerOn start) c) (ap (λ (s : List ℕ). (view_of s).ctr) (power_up_is h.state start (consistent_size h.state c)) ∙ power_ctr start)
life_numbers (Hears meas b ∷ ms) i h c a = life_numbers ms i (after_moment ours h (Hears meas b)) (moment_kept h (Hears meas b) c) ((byte_sent h.state h.cal meas b c).ctr ∙ a)
life_numbers (OnEvent meas event clock ∷ ms) i h c a =
    life_numbers ms i (after_moment ours h (OnEvent meas event clock)) (moment_kept h (OnEvent meas event clock) c) ((event_sent h.state h.cal meas event clock).ctr ∙ a)
life_numbers (Serves out ∷ ms) i h c a =
    let here : List (List ℕ) = due_at h.state (SendingSlot out) in
    let u : Device = after_moment ours h (Serves out) in
    let w : Numbered 0 i (sends ours h.state (SendingSlot out)) here u.state = slot_numbers 0 i h.state out c a in
    ap₂ (λ (x y : List (List ℕ)). x ++ y) w.sent (life_numbers ms (i + length here) u (moment_kept h (Serves out) c) w.ctr)

pub life_numbered : (h : Device) (start : ℕ) (ms : List Moment) → length h.state ≡ size → sent_in_life ours h (PowerOn start ∷ ms) ≡ due_in ours 0 h (PowerOn start ∷ ms)
life_numbered h start ms e =
    let is : (after_moment ours h (PowerOn start)).state ≡ powered start = power_up_is h.state start e in
    life_numbers ms 0 (after_moment ours h (PowerOn start)) (rw is (power_consistent start)) (ap (λ (s : List ℕ). (view_of s).ctr) is ∙ power_ctr start)
