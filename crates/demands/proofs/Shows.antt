-- What each call of ours shows is what document 01 says of it. Assumes nothing.
use Rattle.std.proofs.Common.{◌≡◌, ℕ, ◌≤◌, true, List, sym, ap, subst}
use Rattle.state.specs.State.{consistent}
use Rattle.model.specs.Calls.{turn_in}
use Rattle.model.specs.Whole.{AfterEvent, AfterSlot}
use Rattle.model.specs.View.{session_of, view_of}
use Rattle.views.specs.Events.{EventLeaves}
use Rattle.views.specs.Turns.{Leaves}
use Rattle.views.specs.PoweredUp.{PowerUpLeaves}
use Rattle.views.proofs.Receiving.{view_receive}
use Rattle.views.proofs.Happening.{view_event}
use Rattle.views.proofs.Sending.{view_slot, view_power_up}
use Rattle.views.proofs.TurnLaws.{turn_goes, slot_leaves}
use Rattle.views.proofs.SessionLaws.{powered_up_lem}
use Rattle.views.proofs.EventLaws.{event_leaves}
use Rattle.views.proofs.Listed.{listed}
use Rattle.demands.specs.Slave.{ours}
use Rattle.demands.specs.Shows.{Shows}
use Rattle.demands.proofs.Events.{event_low}

our_samples : (s cal meas : List ℕ) (number clock : ℕ) → consistent s ≡ true → number ≤ 1
    → EventLeaves number clock cal meas (session_of s) (session_of (ours.event s cal meas number clock).state) (ours.event s cal meas number clock).evented
unfolding view_of
our_samples s cal meas number clock c h =
    subst (λ (o : AfterEvent). EventLeaves number clock cal meas (session_of s) o.slave.session o.evented) (sym (view_event s cal meas number clock c)) (event_leaves (view_of s) number clock cal meas (listed s) (event_low number h))

pub ours_shows : Shows ours
ours_shows = record {
  byte = view_receive;
  event = view_event;
  slot = view_slot;
  leaves = λ s out c h. (turn_in (view_of s), turn_goes (view_of s), subst (Leaves (turn_in (view_of s)) (view_of s)) (sym (ap (λ (o : AfterSlot). o.slave) (view_slot s out c))) (slot_leaves (view_of s) out h));
  power_up = λ s start h k. (view_power_up s start h k).1;
  power_up_leaves = λ s start h k. subst (PowerUpLeaves start) (sym (view_power_up s start h k).1) (powered_up_lem start);
  samples = our_samples;
}
