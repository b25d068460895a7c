-- What a slot and power-up in bytes show is the slot and power-up whole. Assumes nothing.
use Rattle.std.proofs.Common.{◌≡◌, ℕ, zero, suc, ◌+◌, ◌^◌, ◌<◌, ◌≤◌, true, ltb, List, length, Some, None, Ok, refl, ap, ◌∙◌, arith, ltb-false, ltb-true, eq-eqb}
use Rattle.line.specs.Message.{byte_form, most, room, frame}
use Rattle.line.specs.Writer.{at_front, write_of}
use Rattle.line.proofs.Laws.{cond_ind}
use Rattle.line.proofs.Numbers.{byte_serial}
use Rattle.line.proofs.Writing.{write_good}
use Rattle.state.specs.Layout.{size, all_odts}
use Rattle.state.specs.Pool.{list_count, first_odt, odt_count}
use Rattle.state.proofs.Allocated.{odt_most_lem}
use Rattle.state.specs.State.{consistent, ctr_of, answer_of}
use Rattle.state.specs.Lists.{stored_length}
use Rattle.state.proofs.Consistent.{consistent_size}
use Rattle.lists.specs.Slot.{Slot, turn_of, packet_of, sent_by, slot_of}
use Rattle.lists.proofs.Round.{turn_holds}
use Rattle.lists.proofs.Sending.{Within, turn_within}
use Rattle.session.specs.PowerUp.{power_up_of}
use Rattle.model.specs.Turn.{Turn}
use Rattle.model.specs.declared.Sender.TheVariants.{Answer, Packet}
use Rattle.model.specs.Model.{DaqList, Slave, runs_in, has_packet}
use Rattle.model.specs.Calls.{first_packet, packet_in, turn_in, powered_up}
use Rattle.model.specs.View.{view_of}
use Rattle.model.proofs.Shown.{stored_most_lem, stored_long, packet_by_lem, answer_most, answer_long}
use Rattle.model.specs.Whole.{packet_goes, sent_in, slot_in}
use Rattle.views.specs.Shown.{slot_shown}
use Rattle.views.proofs.Calls.{view_answer_sent, view_packet_sent, view_powered}

-- ---- a packet of a right length goes whole
-- it is an answer's turn only if one waits
module _ (v : Slave) where
  abbrev Waits : Turn → Type 0
  Waits None = Unit
  Waits (Some Answer) = 1 ≤ length v.answer
  Waits (Some (Packet l o)) = Unit

  first_waits : (l : ℕ) (x : DaqList) (o n : ℕ) → Waits (first_packet l x o n)
  unfolding first_packet
  first_waits l x o zero = tt
  first_waits l x o (suc n) = cond_ind Waits (has_packet (x.odt o)) (λ _. tt) (λ _. first_waits l x (o + 1) n)

  packet_waits : (l : ℕ) → Waits (packet_in v.session l)
  unfolding packet_in
  packet_waits l = cond_ind Waits (runs_in v.session l) (λ _. first_waits l (v.session.list l) 0 (v.session.list l).odts) (λ _. tt)

  turn_waits : Waits (turn_in v)
  turn_waits = turn_holds Waits v tt (λ l _. packet_waits l) (λ w. ltb-true 0 (length v.answer) w)

pub written : (p : List ℕ) (ctr : ℕ) (out : List ℕ) → 1 ≤ length p → length p ≤ most → room ≤ length out
    → write_of p ctr out ≡ record { written = Ok (length (frame ctr p)); out = at_front (frame ctr p) out }
unfolding write_of
written = write_good byte_form byte_serial

-- ---- the slot
module _ (s out : List ℕ) (h : length s ≡ size) (fits : room ≤ length out) where
  view_sent : (t : Turn) → Waits (view_of s) t → Within s t → slot_shown (sent_by t s out) ≡ sent_in t (view_of s) out
  unfolding sent_by sent_in view_of
  view_sent None y w = refl
  view_sent (Some Answer) y w =
      rw (written (answer_of s) (ctr_of s) out y (omega (arith, answer_long s h, answer_most s)) fits) (ap (packet_goes (answer_of s) (ctr_of s) out) (view_answer_sent s h))
  view_sent (Some (Packet l o)) y w =
      let there : l < list_count s = w.0 in
      let its : o < odt_count s l = w.1 in
      let k : ℕ = first_odt s l + o in
      let few : k < all_odts = omega (arith, odt_most_lem s l) in
      let n : length (packet_of s l o) ≡ suc (stored_length s k) = ap length (packet_by_lem s l o there its) ∙ ap suc (stored_long s k h few) in
      rw (written (packet_of s l o) (ctr_of s) out (omega arith) (omega (arith, n, stored_most_lem s k)) fits) (ap (packet_goes (packet_of s l o) (ctr_of s) out) (view_packet_sent s l o h there its))

pub view_slot : (s out : List ℕ) → consistent s ≡ true → slot_shown (slot_of s out) ≡ slot_in (view_of s) out
unfolding slot_of slot_in
view_slot s out c =
    rw c
    (cond_ind (λ (o : Slot). slot_shown o ≡ slot_in (view_of s) out) (ltb (length out) room) (λ b. rw b)
    (λ b. rw b (view_sent s out (consistent_size s c) (ltb-false (length out) room b) (turn_of s) (turn_waits (view_of s)) (turn_within s))))

-- ---- power-up
-- a start of more than four bytes would not be stored whole
pub view_power_up : (s : List ℕ) (start : ℕ) → length s ≡ size → start < 2 ^ 32 → ((power_up_of s start).powered_up ≡ Ok tt) × (view_of (power_up_of s start).state ≡ powered_up start)
unfolding power_up_of
view_power_up s start h low = (rw (eq-eqb (length s) size h), rw (eq-eqb (length s) size h) (view_powered start low))
