-- What ties a slave to our own bytes: each call leaves just what the definitions say, in every byte of the state. From this, with the first demand, it
-- follows that a slave that meets it is ours, in every call; no sentence of the letter asks for it by itself.
use Rattle.std.specs.Prelude.{ℕ, ◌≤◌, ◌<◌, ◌*◌, ◌≡◌, ◌≢◌, true, List, length}
use Rattle.line.specs.Message.{room}
use Rattle.state.specs.Layout.{size, sample_size, sample_at}
use Rattle.state.specs.State.{consistent}
use Rattle.model.specs.View.{session_of, view_of}
use Rattle.demands.specs.Slave.{AnySlave}
use Rattle.demands.specs.Waiting.{SameOutside}
use Rattle.state.specs.Pool.{list_count, first_odt, odt_count, odt_total}
use Rattle.state.specs.Bytes.{block}
use Rattle.session.specs.Receive.{fed_of, received_by}
use Rattle.lists.specs.Event.{captured}
use Rattle.lists.specs.Slot.{sent_by}
use Rattle.session.specs.PowerUp.{powered}
use Rattle.model.specs.declared.Sampling.TheVariants.{Sampled}
use Rattle.model.specs.Calls.{turn_in, sampling_in}
use Rattle.model.specs.Whole.{counted_in}

-- the bytes of t in which the packets of list l are stored, which s has
abbrev pub stores_of : List ℕ → List ℕ → ℕ → List ℕ
stores_of t s l = block t (sample_at (first_odt s l)) (odt_count s l * sample_size)

pub record AsDefined (v : AnySlave) : Type 0 where
  -- power-up leaves the one state that document 01 says
  pub powers_up : (s : List ℕ) (start : ℕ) → length s ≡ size → (v.power_up s start).state ≡ powered start
  -- every byte is read by the rules of the line, and a good message is heeded as document 01 says
  pub reads : (s cal meas : List ℕ) (b : ℕ) → consistent s ≡ true → v.receive s cal meas b ≡ received_by (fed_of s b) s cal meas
  -- a slot with room sends one frame, of whose turn it is, and what was sent no longer waits
  pub serves : (s out : List ℕ) → consistent s ≡ true → room ≤ length out → v.slot s out ≡ sent_by (turn_in (view_of s)) s out
  -- an event samples the lists that run on it and have no unsent packet, and misses those that have one; exactly these are counted
  pub tells_counts : (s cal meas : List ℕ) (event clock : ℕ) → consistent s ≡ true → event ≤ 1
      → (v.event s cal meas event clock).evented ≡ counted_in (session_of s) event
  -- a sample is stored as if its list alone were captured
  pub stores : (s cal meas : List ℕ) (event clock l : ℕ) → consistent s ≡ true → event ≤ 1 → sampling_in (session_of s) l event ≡ Sampled
      → stores_of (v.event s cal meas event clock).state s l ≡ stores_of (captured s l clock cal meas) s l
  -- no other byte of the state changes
  pub others : (s cal meas : List ℕ) (event clock l : ℕ) → consistent s ≡ true → l < list_count s → sampling_in (session_of s) l event ≢ Sampled
      → stores_of (v.event s cal meas event clock).state s l ≡ stores_of s s l
  pub stores_only : (s cal meas : List ℕ) (event clock : ℕ) → SameOutside (sample_at 0) (sample_at (odt_total s)) s (v.event s cal meas event clock).state
