-- A slot's frame has at most 135 bytes. Assumes nothing.
use Rattle.std.proofs.Common.{ℕ, eqb, ltb, List, length, ltb-false, Some, None}
use Rattle.line.specs.Message.{most, room}
use Rattle.line.specs.Writer.{Sent, write_of}
use Rattle.line.proofs.Laws.{cond_ind}
use Rattle.line.proofs.Stuffed.{frame_short}
use Rattle.state.specs.State.{consistent, ctr_of, answer_of}
use Rattle.lists.specs.Slot.{Slot, slotted_as, packet_of, turn_of, sent_by, slot_of, Small}
use Rattle.model.specs.Turn.{Turn}
use Rattle.model.specs.declared.Sender.TheVariants.{Answer, Packet}

write_small : (p : List ℕ) (ctr : ℕ) (out : List ℕ) → Small (slotted_as (write_of p ctr out).written)
unfolding write_of
write_small p ctr out =
    cond_ind (λ (w : Sent). Small (slotted_as w.written)) (eqb (length p) 0) (λ _. tt)
    (λ _. cond_ind (λ (w : Sent). Small (slotted_as w.written)) (ltb most (length p)) (λ _. tt)
    (λ few. cond_ind (λ (w : Sent). Small (slotted_as w.written)) (ltb (length out) room) (λ _. tt)
    (λ _. frame_short ctr p (ltb-false most (length p) few))))

sent_small : (t : Turn) (s out : List ℕ) → Small (sent_by t s out).slotted
unfolding sent_by
sent_small None s out = tt
sent_small (Some Answer) s out = write_small (answer_of s) (ctr_of s) out
sent_small (Some (Packet l o)) s out = write_small (packet_of s l o) (ctr_of s) out

pub slot_small : (s out : List ℕ) → Small (slot_of s out).slotted
unfolding slot_of
slot_small s out =
    cond_ind (λ (o : Slot). Small o.slotted) (consistent s)
    (λ _. cond_ind (λ (o : Slot). Small o.slotted) (ltb (length out) room) (λ _. tt) (λ _. sent_small (turn_of s) s out))
    (λ _. tt)
