-- Every state that a run reaches is consistent, from any consistent state and so from power-up on; and of bytes, if what is lent is. Assumes nothing.
use Rattle.std.proofs.Common.{◌≡◌, ℕ, true, List, [], ◌∷◌, length}
use Rattle.state.specs.Layout.{size}
use Rattle.state.specs.State.{consistent}
use Rattle.model.specs.Model.{Bytes}
use Rattle.session.specs.PowerUp.{powered}
use Rattle.session.specs.Receive.{receive_of}
use Rattle.lists.specs.Event.{event_of}
use Rattle.lists.specs.Slot.{slot_of}
use Rattle.fields.proofs.Kept.{power_consistent, receive_kept, event_kept, slot_kept}
use Rattle.views.proofs.BytesKept.{receive_bytes, event_bytes, slot_bytes, power_up_bytes}
use Rattle.demands.specs.Slave.{ours}
use Rattle.demands.specs.Runs.{Call, Byte, Event, SendingSlot, Elsewhere, after_call, run, LentBytes}

pub after_kept : (s : List ℕ) (c : Call) → consistent s ≡ true → consistent (after_call ours s c) ≡ true
after_kept s (Byte cal meas b) h = receive_kept s cal meas b h
after_kept s (Event cal meas event clock) h = event_kept s cal meas event clock h
after_kept s (SendingSlot out) h = slot_kept s out h
after_kept s Elsewhere h = h

pub run_kept : (s : List ℕ) (cs : List Call) → consistent s ≡ true → consistent (run ours s cs) ≡ true
run_kept s [] h = h
run_kept s (c ∷ cs) h = run_kept (after_call ours s c) cs (after_kept s c h)

pub reached_consistent : (start : ℕ) (cs : List Call) → consistent (run ours (powered start) cs) ≡ true
reached_consistent start cs = run_kept (powered start) cs (power_consistent start)

-- and of bytes, if the state was and all that is lent is; after power-up it is, whatever it held
pub run_bytes : (s : List ℕ) (cs : List Call) → Bytes s → LentBytes cs → Bytes (run ours s cs)
run_bytes s [] w h = w
run_bytes s (Byte cal meas b ∷ cs) w h = run_bytes (receive_of s cal meas b).state cs (receive_bytes s cal meas b w h.0 h.1 h.2).0 h.3
run_bytes s (Event cal meas event clock ∷ cs) w h = run_bytes (event_of s cal meas event clock).state cs (event_bytes s cal meas event clock w h.0 h.1) h.2
run_bytes s (SendingSlot out ∷ cs) w h = run_bytes (slot_of s out).state cs (slot_bytes s out w).0 h
run_bytes s (Elsewhere ∷ cs) w h = run_bytes s cs w h

pub reached_bytes : (s : List ℕ) (start : ℕ) (cs : List Call) → length s ≡ size → LentBytes cs → Bytes (run ours (ours.power_up s start).state cs)
reached_bytes s start cs e h = run_bytes (ours.power_up s start).state cs (power_up_bytes s start e) h
