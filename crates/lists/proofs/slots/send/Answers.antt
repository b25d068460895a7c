use Rattle.std.proofs.Common.{◌≡◌, refl, subst, ap, ◌∙◌, Some}
use Rattle.model.specs.declared.Sender.TheVariants.{Packet}
use Rattle.lists.specs.Slot.{sent_by}
use Rattle.lists.proofs.Sending.{Back, turn_back}
use Rattle.lists.proofs.slots.send.Goals as goal

pub send_packet-requires : goal.send_packet-requires
send_packet-requires c =
    let e : c.turn-t.result ≡ Some (Packet c.in-Some-Packet.l c.in-Some-Packet.k) = c.in-Some-Packet.is ∙ ap Some (rw c.in-Some-Packet.is at c.in-Some-Packet.field-0-is) in
    let w = subst (Back c.args.s.now _) e (turn_back c.args.s.now c.turn-t.result c.turn-t.ensures) in
    (w.there, w.from, w.few)

pub returns-in-None : goal.returns-in-None
unfolding sent_by
returns-in-None c = rw (subst (Back c.args.s.now _) c.in-None.is (turn_back c.args.s.now c.turn-t.result c.turn-t.ensures)) (record { result = refl; state = refl; bytes = refl })
