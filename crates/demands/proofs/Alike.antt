-- An event and a slot change of a session nothing but its lists and their round. Assumes nothing.
use Rattle.std.proofs.Common.{◌≡◌, ℕ, ◌≤◌, ◌<◌, true, List, length, Some, None, refl, ap, inl, inr}
use Rattle.std.proofs.lemmas.Bool.{cases_lt}
use Rattle.line.specs.Message.{room}
use Rattle.state.specs.State.{consistent}
use Rattle.model.specs.Model.{DaqList, Session, Slave}
use Rattle.model.specs.Step.{with_lists}
use Rattle.model.specs.Calls.{turn_in, packet_gone, with_round}
use Rattle.model.specs.View.{session_of, view_of}
use Rattle.model.specs.Turn.{Turn}
use Rattle.model.specs.declared.Sender.TheVariants.{Answer, Packet}
use Rattle.lists.specs.Event.{event_of}
use Rattle.lists.specs.Slot.{slot_of}
use Rattle.demands.proofs.Events.{event_lists}
use Rattle.demands.proofs.Sends.{turned, slot_shows, slot_stays}

-- ---- what a command's checks look at, but for the lists: the same in both sessions
pub record Alike (c d : Session) : Type 0 where
  pub generator : d.generator ≡ c.generator
  pub wrong_keys : d.wrong_keys ≡ c.wrong_keys
  pub opened : d.opened ≡ c.opened
  pub seed : d.seed ≡ c.seed
  pub unlocked : d.unlocked ≡ c.unlocked
  pub mta : d.mta ≡ c.mta

pub alike_self : {c : Session} → Alike c c
alike_self = record { generator = refl; wrong_keys = refl; opened = refl; seed = refl; unlocked = refl; mta = refl }

-- a change of the lists and their round alone, or none
alike_lists : {c d : Session} (f : ℕ → DaqList) (l : ℕ) → d ≡ with_round (with_lists c f) l → Alike c d
alike_lists f l e =
    record {
      generator = ap (λ (x : Session). x.generator) e;
      wrong_keys = ap (λ (x : Session). x.wrong_keys) e;
      opened = ap (λ (x : Session). x.opened) e;
      seed = ap (λ (x : Session). x.seed) e;
      unlocked = ap (λ (x : Session). x.unlocked) e;
      mta = ap (λ (x : Session). x.mta) e;
    }

turn_alike : (t : Turn) (s u : List ℕ) → view_of u ≡ turned t (view_of s) → Alike (session_of s) (session_of u)
unfolding view_of
turn_alike None s u e = alike_lists (session_of s).list (session_of s).round (ap (λ (v : Slave). v.session) e)
turn_alike (Some Answer) s u e = alike_lists (session_of s).list (session_of s).round (ap (λ (v : Slave). v.session) e)
turn_alike (Some (Packet l o)) s u e = alike_lists (packet_gone l o (view_of s)).session.list (packet_gone l o (view_of s)).session.round (ap (λ (v : Slave). v.session) e)

pub slot_alike : (s out : List ℕ) → consistent s ≡ true → Alike (session_of s) (session_of (slot_of s out).state)
slot_alike s out c = elim (cases_lt (length out) room) [ inl r ↦ without r | inr r ↦ with_room r ] where
  with_room : room ≤ length out → Alike (session_of s) (session_of (slot_of s out).state)
  with_room r = turn_alike (turn_in (view_of s)) s (slot_of s out).state (slot_shows s out c r)

  without : length out < room → Alike (session_of s) (session_of (slot_of s out).state)
  without r = rw (slot_stays s out c r) alike_self

pub event_alike : (s cal meas : List ℕ) (event clock : ℕ) → Alike (session_of s) (session_of (event_of s cal meas event clock).state)
event_alike s cal meas event clock = alike_lists _ (session_of s).round (event_lists s cal meas event clock)
