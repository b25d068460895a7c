-- What a slot sends: the frame of the packet whose turn it is, one at most, and what it leaves. Assumes nothing.
use Rattle.std.proofs.Common.{◌≡◌, ℕ, suc, ◌+◌, ◌≤◌, ◌<◌, true, false, List, [], ◌∷◌, length, take, Some, None, Ok, Err, eqb, ltb, refl, ap, ◌∙◌, arith, ne_eqb, lt-ltb, le-ltb, ltb-true, ltb-false}
use Rattle.line.specs.Message.{most, room, frame}
use Rattle.line.specs.Writer.{Sent, at_front, write_of}
use Rattle.line.proofs.Fronts.{take_front, drop_front}
use Rattle.line.proofs.Laws.{cond_ind, length_front}
use Rattle.line.proofs.RoundTrip.{round_trip}
use Rattle.line.proofs.Stuffed.{frame_short}
use Rattle.state.specs.Layout.{size, all_odts}
use Rattle.state.specs.Pool.{list_count, first_odt, odt_count}
use Rattle.state.specs.State.{consistent, ctr_of, answer_of}
use Rattle.state.specs.Lists.{stored_length}
use Rattle.lists.specs.Slot.{Slot, sent_as, answer_sent, packet_sent, sent_by, slot_of}
use Rattle.words.specs.Number.{slotted_value}
use Rattle.words.specs.declared.SlotRefusal.TheVariants.{NoRoom}
use Rattle.model.specs.Turn.{Turn}
use Rattle.state.proofs.Consistent.{consistent_size}
use Rattle.state.proofs.Allocated.{odt_most_lem}
use Rattle.model.specs.Model.{Slave, first_of, has_answer}
use Rattle.model.specs.Calls.{turn_in, packet_from, packet_for, answer_gone, packet_gone}
use Rattle.model.specs.View.{session_of, view_of}
use Rattle.model.specs.declared.Sender.TheVariants.{Answer, Packet}
use Rattle.model.proofs.Shown.{stored_most_lem, stored_long, odts_at_lem, first_of_lem, packet_by_lem, answer_most, answer_long}
use Rattle.views.proofs.Calls.{view_answer_sent, view_packet_sent}
use Rattle.demands.specs.Slave.{ours}
use Rattle.demands.specs.Runs.{SendingSlot, frame_sent, sends}
use Rattle.demands.specs.Waiting.{SameOutside}
use Rattle.demands.specs.Wire.{ReadsBack}
use Rattle.demands.proofs.Turns.{Next, Fair, nobody, answer, list, fair}

-- ---- with room, and without
pub slot_is : (s out : List ℕ) → consistent s ≡ true → room ≤ length out → slot_of s out ≡ sent_by (turn_in (view_of s)) s out
unfolding slot_of
slot_is s out c h = rw (c, le-ltb (length out) room h)

pub slot_refused : (s out : List ℕ) → consistent s ≡ true → length out < room → slot_of s out ≡ record { slotted = Err NoRoom; state = s; out = out }
unfolding slot_of
slot_refused s out c h = rw (c, lt-ltb (length out) room h)

pub slot_stays : (s out : List ℕ) → consistent s ≡ true → length out < room → (slot_of s out).state ≡ s
slot_stays s out c h = ap (λ (o : Slot). o.state) (slot_refused s out c h)

-- the slave after a turn
abbrev pub turned : Turn → Slave → Slave
turned None v = v
turned (Some Answer) v = answer_gone v
turned (Some (Packet l o)) v = packet_gone l o v

-- a packet that is next is of an ODT that there is
pub next_there : (s : List ℕ) (j o : ℕ) → Next (view_of s) j o → (j < list_count s) × (o < odt_count s j)
unfolding view_of session_of
next_there s j o n = (n.inside, rw (odts_at_lem s j n.inside) at n.in_list)

pub next_low : (s : List ℕ) (j o : ℕ) → Next (view_of s) j o → first_of (view_of s).session j + o < all_odts
unfolding view_of
next_low s j o n = let w = next_there s j o n in omega (arith, w.0, w.1, first_of_lem s j (le w.0), odt_most_lem s j) where
  le : j < list_count s → j ≤ list_count s
  le h = omega arith

sent_shows : (t : Turn) (s out : List ℕ) → length s ≡ size → Fair (view_of s) t → view_of (sent_by t s out).state ≡ turned t (view_of s)
unfolding sent_by
sent_shows _ s out h nobody = refl
sent_shows _ s out h (answer w) = view_answer_sent s h
sent_shows _ s out h (list j o n) = let w = next_there s j o n in view_packet_sent s j o h w.0 w.1

pub slot_shows : (s out : List ℕ) → consistent s ≡ true → room ≤ length out → view_of (slot_of s out).state ≡ turned (turn_in (view_of s)) (view_of s)
slot_shows s out c h = ap (λ (o : Slot). view_of o.state) (slot_is s out c h) ∙ sent_shows (turn_in (view_of s)) s out (consistent_size s c) (fair (view_of s))

-- ---- what a frame is made of
-- 1 to 64 bytes
pub record Packed (p : List ℕ) : Type 0 where
  pub some : 1 ≤ length p
  pub few : length p ≤ most

pub answer_packed : (s : List ℕ) → length s ≡ size → has_answer (view_of s) ≡ true → Packed (view_of s).answer
unfolding view_of
answer_packed s h w =
    let n : 0 < length (answer_of s) = ltb-true 0 (length (answer_of s)) w in
    record { some = n; few = rw (answer_long s h) (answer_most s) }

-- a packet's length
packet_length : (s : List ℕ) (l o : ℕ) → length s ≡ size → l < list_count s → o < odt_count s l → length (packet_from (session_of s) l o) ≡ suc (stored_length s (first_odt s l + o))
packet_length s l o h p q = ap length (packet_by_lem s l o p q) ∙ ap suc (stored_long s (first_odt s l + o) h (omega (arith, odt_most_lem s l)))

pub packet_packed : (s : List ℕ) (l o : ℕ) → length s ≡ size → Next (view_of s) l o → Packed (packet_from (session_of s) l o)
packet_packed s l o h n =
    let w = next_there s l o n in
    let long = packet_length s l o h w.0 w.1 in
    record { some = rw long (omega arith); few = rw long (omega (arith, stored_most_lem s (first_odt s l + o))) }

written_frame : (p out : List ℕ) (c : ℕ) → Packed p → room ≤ length out → write_of p c out ≡ record { written = Ok (length (frame c p)); out = at_front (frame c p) out }
unfolding write_of
written_frame p out c k h =
    let a : eqb (length p) 0 ≡ false = ne_eqb (length p) 0 (omega (arith, k.some)) in
    simp (a, le-ltb most (length p) k.few, le-ltb (length out) room h)

-- the frames of packets at CTR c
abbrev pub frames_of : ℕ → List (List ℕ) → List (List ℕ)
frames_of c [] = []
frames_of c (p ∷ ps) = frame c p ∷ frames_of c ps

-- the frame that the line wrote, and the bytes past it
wrote : (p out : List ℕ) (c : ℕ) → Packed p → room ≤ length out → take (length (frame c p)) (at_front (frame c p) out) ≡ frame c p
wrote p out c k h = take_front (frame c p) out (omega (arith, frame_short c p k.few))

sent_turn : (s out : List ℕ) (t : Turn) → length s ≡ size → room ≤ length out → Fair (view_of s) t
    → frame_sent (sent_by t s out).slotted (sent_by t s out).out ≡ frames_of (view_of s).ctr (packet_for t (view_of s))
unfolding view_of sent_by
sent_turn s out _ h r nobody = refl
sent_turn s out _ h r (answer w) = let k = answer_packed s h w in rw (written_frame (answer_of s) out (ctr_of s) k r, wrote (answer_of s) out (ctr_of s) k r)
sent_turn s out _ h r (list j o n) =
    let k = packet_packed s j o h n in
    rw (written_frame (packet_from (session_of s) j o) out (ctr_of s) k r, wrote (packet_from (session_of s) j o) out (ctr_of s) k r)

pub slot_sends : (s out : List ℕ) → consistent s ≡ true → room ≤ length out → sends ours s (SendingSlot out) ≡ frames_of (view_of s).ctr (packet_for (turn_in (view_of s)) (view_of s))
slot_sends s out c h =
    ap (λ (o : Slot). frame_sent o.slotted o.out) (slot_is s out c h) ∙ sent_turn s out (turn_in (view_of s)) (consistent_size s c) h (fair (view_of s))

pub slot_silent : (s out : List ℕ) → consistent s ≡ true → length out < room → sends ours s (SendingSlot out) ≡ []
slot_silent s out c h = ap (λ (o : Slot). frame_sent o.slotted o.out) (slot_refused s out c h)

-- ---- a slot's frame reads back
reads_back_lem : (s : List ℕ) (t : Turn) → turn_in (view_of s) ≡ t → length s ≡ size → Fair (view_of s) t → ReadsBack (frames_of (view_of s).ctr (packet_for t (view_of s))) s
unfolding view_of
reads_back_lem s _ e h nobody = rw e refl
reads_back_lem s _ e h (answer w) =
    let k = answer_packed s h w in
    (refl, answer_of s, rw e refl, λ place m fits. round_trip place m (answer_of s) (ctr_of s) fits k.some k.few)
reads_back_lem s _ e h (list j o n) =
    let p = packet_packed s j o h n in
    (refl, packet_from (session_of s) j o, rw e refl, λ place m fits. round_trip place m (packet_from (session_of s) j o) (ctr_of s) fits p.some p.few)

pub slot_reads_back : (s out : List ℕ) → consistent s ≡ true → room ≤ length out → ReadsBack (sends ours s (SendingSlot out)) s
slot_reads_back s out c h = rw (slot_sends s out c h) (reads_back_lem s (turn_in (view_of s)) refl (consistent_size s c) (fair (view_of s)))

-- ---- and the bytes past it stay
abbrev Past : List ℕ → Slot → Type 0
Past out o = SameOutside 0 (slotted_value o.slotted) out o.out

untouched : {out : List ℕ} → SameOutside 0 0 out out
untouched = record { long = refl; front = refl; back = refl }

written_past : (p out s : List ℕ) (c : ℕ) → Past out (sent_as (write_of p c out) s)
unfolding write_of
written_past p out s c =
    let P : Sent → Type 0 = λ (w : Sent). Past out (sent_as w s) in
    cond_ind P (eqb (length p) 0) (λ _. untouched)
    (λ _. cond_ind P (ltb most (length p)) (λ _. untouched)
    (λ few. cond_ind P (ltb (length out) room) (λ _. untouched)
    (λ r. let fits : length (frame c p) ≤ length out = fit (ltb-false most (length p) few) (ltb-false (length out) room r) in
    record { long = length_front (frame c p) out; front = refl; back = drop_front (frame c p) out fits }))) where
      fit : length p ≤ most → room ≤ length out → length (frame c p) ≤ length out
      fit a b = omega (arith, frame_short c p a)

sent_past : (t : Turn) (s out : List ℕ) → Past out (sent_by t s out)
unfolding sent_by
sent_past None s out = untouched
sent_past (Some Answer) s out = written_past (answer_of s) out (answer_sent s) (ctr_of s)
sent_past (Some (Packet l o)) s out = written_past (packet_from (session_of s) l o) out (packet_sent s l o) (ctr_of s)

pub slot_past : (s out : List ℕ) → SameOutside 0 (slotted_value (slot_of s out).slotted) out (slot_of s out).out
unfolding slot_of
slot_past s out =
    cond_ind (Past out) (consistent s) (λ _. cond_ind (Past out) (ltb (length out) room) (λ _. untouched) (λ _. sent_past (turn_in (view_of s)) s out)) (λ _. untouched)
