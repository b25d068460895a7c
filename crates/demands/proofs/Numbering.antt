-- Every frame of a run is that of the packet whose turn it was, and its CTR is the first one's plus the frames sent before. Assumes nothing.
use Rattle.std.proofs.Common.{◌≡◌, ℕ, suc, ◌+◌, ◌%◌, ◌≤◌, ◌<◌, true, List, [], ◌∷◌, ◌++◌, length, Some, None, refl, sym, ap, ap₂, ◌∙◌, arith, mod-eq_of_lt, lt-ltb, le-ltb, eq-eqb, lit<, lit≤, inl, inr}
use Rattle.std.proofs.Math.Nat.{mod-add-mod}
use Rattle.std.proofs.lemmas.Bool.{cases_lt}
use Rattle.line.specs.Message.{room, frame}
use Rattle.state.specs.Layout.{size, ctr_at}
use Rattle.state.specs.State.{consistent}
use Rattle.session.specs.Receive.{receive_of}
use Rattle.lists.specs.Event.{event_of}
use Rattle.lists.specs.Slot.{slot_of}
use Rattle.session.specs.PowerUp.{powered, power_up_of}
use Rattle.model.specs.Turn.{Turn}
use Rattle.fields.proofs.Kept.{receive_kept, event_kept, slot_kept}
use Rattle.views.proofs.Calls.{powered_nought}
use Rattle.model.specs.Model.{Slave}
use Rattle.model.specs.Calls.{turn_in, packet_for}
use Rattle.model.specs.View.{view_of}
use Rattle.model.specs.declared.Sender.TheVariants.{Answer, Packet}
use Rattle.demands.specs.Slave.{ours}
use Rattle.demands.specs.Runs.{Call, Byte, Event, SendingSlot, Elsewhere, sends, frames}
use Rattle.demands.specs.Wire.{due_at, due, numbered}
use Rattle.demands.proofs.Sends.{turned, frames_of, slot_shows, slot_stays, slot_sends, slot_silent}
use Rattle.demands.proofs.ByteKeeps.{byte_sent}
use Rattle.demands.proofs.Events.{event_sent}

-- i frames after CTR c
abbrev pub At : ℕ → ℕ → List ℕ → Type 0
At c i s = (view_of s).ctr ≡ (c + i) % 256

-- one more, and none
at_next : (c i : ℕ) {x y : ℕ} → x ≡ (y + 1) % 256 → y ≡ (c + i) % 256 → x ≡ (c + (i + 1)) % 256
at_next c i e f = let s : c + i + 1 ≡ c + (i + 1) = omega arith in e ∙ rw f (mod-add-mod (c + i) 256 1 ∙ rw s)

at_same : (c i : ℕ) (s : List ℕ) → At c i s → At c (i + 0) s
at_same c i s a = let z : i + 0 ≡ i = omega arith in rw z a

numbered_append : (c i : ℕ) (ps qs : List (List ℕ)) → numbered c i (ps ++ qs) ≡ numbered c i ps ++ numbered c (i + length ps) qs
numbered_append c i [] qs = let z : i + 0 ≡ i = omega arith in rw z
numbered_append c i (p ∷ ps) qs =
    let z : suc i + length ps ≡ i + suc (length ps) = omega arith in
    ap (λ (x : List (List ℕ)). frame ((c + i) % 256) p ∷ x) (numbered_append c (suc i) ps qs ∙ rw z)

-- ---- a slot
-- what it sends has the CTR that is due, and the next CTR is that of as many more
pub record Numbered (c i : ℕ) (frames' packets : List (List ℕ)) (u : List ℕ) : Type 0 where
  pub sent : frames' ≡ numbered c i packets
  pub ctr : At c (i + length packets) u

turn_numbers : (c i : ℕ) (s u : List ℕ) (t : Turn) → view_of u ≡ turned t (view_of s) → At c i s → Numbered c i (frames_of (view_of s).ctr (packet_for t (view_of s))) (packet_for t (view_of s)) u
turn_numbers c i s u None e a = record { sent = refl; ctr = at_same c i u (ap (λ (v : Slave). v.ctr) e ∙ a) }
turn_numbers c i s u (Some Answer) e a = record { sent = rw a; ctr = at_next c i (ap (λ (v : Slave). v.ctr) e) a }
turn_numbers c i s u (Some (Packet l o)) e a = record { sent = rw a; ctr = at_next c i (ap (λ (v : Slave). v.ctr) e) a }

pub slot_numbers : (c i : ℕ) (s out : List ℕ) → consistent s ≡ true → At c i s → Numbered c i (sends ours s (SendingSlot out)) (due_at s (SendingSlot out)) (slot_of s out).state
slot_numbers c i s out h a = elim (cases_lt (length out) room) [ inl r ↦ without r | inr r ↦ with_room r ] where
  with_room : room ≤ length out → Numbered c i (sends ours s (SendingSlot out)) (due_at s (SendingSlot out)) (slot_of s out).state
  with_room r =
      rw (slot_sends s out h r, le-ltb (length out) room r) (turn_numbers c i s (slot_of s out).state (turn_in (view_of s)) (slot_shows s out h r) a)

  without : length out < room → Numbered c i (sends ours s (SendingSlot out)) (due_at s (SendingSlot out)) (slot_of s out).state
  without r = rw (slot_silent s out h r, lt-ltb (length out) room r, slot_stays s out h r) (record { sent = refl; ctr = at_same c i s a })

-- ---- a run
numbers_on_lem : (c : ℕ) (cs : List Call) (i : ℕ) (s : List ℕ) → consistent s ≡ true → At c i s → frames ours s cs ≡ numbered c i (due ours s cs)
numbers_on_lem c [] i s h a = refl
numbers_on_lem c (Byte cal meas b ∷ cs) i s h a = numbers_on_lem c cs i (receive_of s cal meas b).state (receive_kept s cal meas b h) ((byte_sent s cal meas b h).ctr ∙ a)
numbers_on_lem c (Event cal meas event clock ∷ cs) i s h a =
    numbers_on_lem c cs i (event_of s cal meas event clock).state (event_kept s cal meas event clock h) ((event_sent s cal meas event clock).ctr ∙ a)
numbers_on_lem c (SendingSlot out ∷ cs) i s h a =
    let here : List (List ℕ) = due_at s (SendingSlot out) in
    let u : List ℕ = (slot_of s out).state in
    let w : Numbered c i (sends ours s (SendingSlot out)) here u = slot_numbers c i s out h a in
    ap₂ (λ (x y : List (List ℕ)). x ++ y) w.sent (numbers_on_lem c cs (i + length here) u (slot_kept s out h) w.ctr) ∙ sym (numbered_append c i here (due ours u cs))
numbers_on_lem c (Elsewhere ∷ cs) i s h a = numbers_on_lem c cs i s h a

pub frames_numbered : (s : List ℕ) (cs : List Call) → consistent s ≡ true → (view_of s).ctr < 256 → frames ours s cs ≡ numbered (view_of s).ctr 0 (due ours s cs)
frames_numbered s cs h k = numbers_on_lem (view_of s).ctr cs 0 s h (sym (low (view_of s).ctr k)) where
  low : (n : ℕ) → n < 256 → (n + 0) % 256 ≡ n
  low n l = let e : n + 0 ≡ n = omega arith in rw e (mod-eq_of_lt l)

-- power-up begins with CTR 0
pub power_ctr : (start : ℕ) → (view_of (powered start)).ctr ≡ 0
unfolding view_of
power_ctr start = powered_nought start ctr_at (lit≤ tt) (lit< tt)

pub power_up_is : (s : List ℕ) (start : ℕ) → length s ≡ size → (power_up_of s start).state ≡ powered start
unfolding power_up_of
power_up_is s start e = simp (eq-eqb (length s) size e)
