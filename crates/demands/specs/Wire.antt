-- What it sends reads back by the rules of the line as the very packet meant: every frame that goes is that of the packet whose turn it was, one frame a
-- slot, and the CTR grows by one with each.
use Rattle.std.specs.Prelude.{ℕ, ◌≤◌, ◌<◌, suc, ◌+◌, ◌%◌, ◌≡◌, true, cond, List, [], ◌∷◌, ◌++◌, length, ltb}
use Rattle.line.specs.Message.{room, longest, frame}
use Rattle.state.specs.Layout.{size}
use Rattle.state.specs.State.{consistent}
use Rattle.model.specs.View.{view_of}
use Rattle.words.specs.Number.{slotted_value}
use Rattle.demands.specs.Slave.{AnySlave}
use Rattle.demands.specs.Life.{Device, Moment, PowerOn, Hears, OnEvent, Serves, after_moment, sent_in_life}
use Rattle.demands.specs.Waiting.{SameOutside}
use Rattle.line.specs.Run as line
use Rattle.line.specs.Wire.{heard}
use Rattle.line.specs.declared.Place.{Place}
use Rattle.model.specs.Calls.{turn_in, packet_for}
use Rattle.demands.specs.Runs.{Call, Byte, Event, SendingSlot, Elsewhere, sends, each, frames}

-- the packets that are to go, slot by slot: with room enough, that of whose turn it is
abbrev pub due_at : List ℕ → Call → List (List ℕ)
due_at s (Byte cal meas b) = []
due_at s (Event cal meas event clock) = []
due_at s (SendingSlot out) = cond (ltb (length out) room) [] (packet_for (turn_in (view_of s)) (view_of s))
due_at s Elsewhere = []

abbrev pub due : AnySlave → List ℕ → List Call → List (List ℕ)
due v s cs = each due_at v s cs

-- their frames: the CTR is c plus the frames sent before, modulo 256
abbrev pub numbered : ℕ → ℕ → List (List ℕ) → List (List ℕ)
numbered c i [] = []
numbered c i (p ∷ ps) = frame ((c + i) % 256) p ∷ numbered c (suc i) ps

-- a slot's frame: read from any place it is one good message, with the packet that waited
abbrev pub ReadsBack : List (List ℕ) → List ℕ → Type 0
ReadsBack [] s = packet_for (turn_in (view_of s)) (view_of s) ≡ []
ReadsBack (f ∷ fs) s =
    (fs ≡ []) × (p : List ℕ) × (packet_for (turn_in (view_of s)) (view_of s) ≡ p ∷ [])
    × ((place : Place) (m : List ℕ) → longest ≤ length m → line.run_of place m f ≡ heard place m (view_of s).ctr p)

-- ---- over a life
-- the frames that are to go, of which i have gone since the power came on: the CTR is i, modulo 256
abbrev pub due_in : AnySlave → ℕ → Device → List Moment → List (List ℕ)
due_in v i h [] = []
due_in v i h (PowerOn start ∷ ms) = due_in v 0 (after_moment v h (PowerOn start)) ms
due_in v i h (Hears meas b ∷ ms) = due_in v i (after_moment v h (Hears meas b)) ms
due_in v i h (OnEvent meas event clock ∷ ms) = due_in v i (after_moment v h (OnEvent meas event clock)) ms
due_in v i h (Serves out ∷ ms) = numbered 0 i (due_at h.state (SendingSlot out)) ++ due_in v (i + length (due_at h.state (SendingSlot out))) (after_moment v h (Serves out)) ms

pub record Wire (v : AnySlave) : Type 0 where
  -- every frame that goes is that of the packet whose turn it was, one frame a slot, and the CTR grows by one per frame
  pub numbers : (s : List ℕ) (cs : List Call) → consistent s ≡ true → (view_of s).ctr < 256 → frames v s cs ≡ numbered (view_of s).ctr 0 (due v s cs)
  -- in a life with power-ups in it each begins the CTR at 0 again
  pub numbers_on : (h : Device) (start : ℕ) (ms : List Moment) → length h.state ≡ size → sent_in_life v h (PowerOn start ∷ ms) ≡ due_in v 0 h (PowerOn start ∷ ms)
  -- what a slot sends is one frame, and reads back as the very packet meant
  pub reads_back : (s out : List ℕ) → consistent s ≡ true → room ≤ length out → ReadsBack (sends v s (SendingSlot out)) s
  -- bytes past the frame stay
  pub rest_stays : (s out : List ℕ) → SameOutside 0 (slotted_value (v.slot s out).slotted) out (v.slot s out).out
