-- The numbers that the calls return, 0 to 10, and the values beside them, in document 01's words. That the numbers 0 and 2 to 7 change the reader's place
-- alone is `unanswered` of Demand1.
use Rattle.std.specs.Prelude.{ℕ, ◌+◌, ◌*◌, ◌≤◌, ◌<◌, ◌≡◌, ◌≢◌, ◌⊎◌, Bool, true, cond, ◌&&◌, List, [], ◌∷◌, eqb, leb, length, take, Some}
use Rattle.state.specs.State.{consistent}
use Rattle.words.specs.Number.{received_number, evented_number, slotted_number, powered_up_number, evented_value, slotted_value, received_c, evented_c, slotted_c, powered_up_c}
use Rattle.words.specs.Values.{Received, Evented, Slotted, PoweredUp}
use Rattle.model.specs.Model.{byte, Bytes, has_answer}
use Rattle.model.specs.View.{session_of, view_of}
use Rattle.views.specs.Events.{takes_sample, misses_sample, how_many_of}
use Rattle.views.specs.OnTheLine.{Comes, Quiet, Whole, Lost, comes_to}
use Rattle.demands.specs.Slave.{AnySlave}
use Rattle.demands.specs.Runs.{SendingSlot, sends}
use Rattle.demands.specs.Heard.{packet_ended}

-- ---- what a call tells: its number and its value; to C it is 65,536 times the number, plus the value
pub record ByteTells (r : Received) (n : ℕ) : Type 0 where
  pub number : received_number r ≡ n
  pub to_c : received_c r ≡ 65536 * n

pub record EventTells (r : Evented) (n x : ℕ) : Type 0 where
  pub number : evented_number r ≡ n
  pub value : evented_value r ≡ x
  pub to_c : evented_c r ≡ 65536 * n + x

pub record SlotTells (r : Slotted) (n x : ℕ) : Type 0 where
  pub number : slotted_number r ≡ n
  pub value : slotted_value r ≡ x
  pub to_c : slotted_c r ≡ 65536 * n + x

pub record PowerUpTells (r : PoweredUp) (n : ℕ) : Type 0 where
  pub number : powered_up_number r ≡ n
  pub to_c : powered_up_c r ≡ 65536 * n

-- ---- what a received byte returns
-- what byte b is on the line, in state s
abbrev pub comes_at : List ℕ → ℕ → Comes
comes_at s b = comes_to (view_of s).place (view_of s).message b

-- a good CONNECT: two bytes at least, FF and mode 0
abbrev pub connects : List ℕ → Bool
connects p = leb 2 (length p) && (eqb (byte p 0) 0xFF && eqb (byte p 1) 0x00)

-- the table, by what the byte is on the line, whether an answer waits and whether a session is open: nothing is 0; a good message is 6 while an answer
-- waits, else 1 for a command that is taken, else 2, silence; a message that is dropped has its own number, 3, 4, 5 or 7
abbrev pub byte_number : Comes → Bool → Bool → ℕ
byte_number Quiet waits opened = 0
byte_number (Whole p) waits opened = cond waits 6 (cond opened 1 (cond (connects p) 1 2))
byte_number (Lost number) waits opened = number

-- ---- the size of the frame that a slot sent; 0 if it sent none
abbrev pub size_sent : List (List ℕ) → ℕ
size_sent [] = 0
size_sent (f ∷ fs) = length f

-- ---- a state has 1,486 bytes, of which the mark 58 43 50 35 comes first
pub record Marked (s : List ℕ) : Type 0 where
  pub long : length s ≡ 1486
  pub mark : take 4 s ≡ 0x58 ∷ 0x43 ∷ 0x50 ∷ 0x35 ∷ []

-- any other bytes are none
pub data Unmarked (s : List ℕ) : Type 0 where
  other_length : length s ≢ 1486 → Unmarked s
  other_mark : Bytes s → take 4 s ≢ 0x58 ∷ 0x43 ∷ 0x50 ∷ 0x35 ∷ [] → Unmarked s

pub record CallNumbers (v : AnySlave) : Type 0 where
  -- a whole message on the line is just what every law of a command is over
  pub whole_is : (s : List ℕ) (b : ℕ) (p : List ℕ) → consistent s ≡ true → (comes_at s b ≡ Whole p → packet_ended s b ≡ Some p) × (packet_ended s b ≡ Some p → comes_at s b ≡ Whole p)
  -- a received byte: 0 to 7
  pub received : (s cal meas : List ℕ) (b : ℕ) → consistent s ≡ true
      → ByteTells (v.receive s cal meas b).received (byte_number (comes_at s b) (has_answer (view_of s)) (session_of s).opened)
  -- of which 1 says that the command's answer, FF or FE, waits
  pub answer : (s cal meas : List ℕ) (b : ℕ) → consistent s ≡ true → received_number (v.receive s cal meas b).received ≡ 1
      → (byte (view_of (v.receive s cal meas b).state).answer 0 ≡ 0xFF) ⊎ (byte (view_of (v.receive s cal meas b).state).answer 0 ≡ 0xFE)
  -- event 0 or 1: 0, and 256 times the lists that take a sample plus those that miss one, at most 8 each
  pub event : (s cal meas : List ℕ) (number clock : ℕ) → consistent s ≡ true → number ≤ 1
      → EventTells (v.event s cal meas number clock).evented 0 (256 * how_many_of (session_of s) (takes_sample (session_of s) number) + how_many_of (session_of s) (misses_sample (session_of s) number))
  pub eight_lists : (s : List ℕ) (number : ℕ) → (how_many_of (session_of s) (takes_sample (session_of s) number) ≤ 8) × (how_many_of (session_of s) (misses_sample (session_of s) number) ≤ 8)
  -- an event above 1: 8, and nothing changes
  pub bad_event : (s cal meas : List ℕ) (number clock : ℕ) → consistent s ≡ true → 1 < number
      → EventTells (v.event s cal meas number clock).evented 8 0 × ((v.event s cal meas number clock).state ≡ s)
  -- a slot with 135 lent bytes: 0, and the size of its frame, which is at most that
  pub slot : (s out : List ℕ) → consistent s ≡ true → 135 ≤ length out
      → SlotTells (v.slot s out).slotted 0 (size_sent (sends v s (SendingSlot out))) × (size_sent (sends v s (SendingSlot out)) ≤ 135)
  -- with fewer: 9, and nothing changes
  pub no_room : (s out : List ℕ) → consistent s ≡ true → length out < 135
      → SlotTells (v.slot s out).slotted 9 0 × ((v.slot s out).state ≡ s) × ((v.slot s out).out ≡ out)
  -- a consistent state is just one that is so marked; numbers that are no bytes could add up to the mark
  pub consistent_is : (s : List ℕ) → Bytes s → (consistent s ≡ true → Marked s) × (Marked s → consistent s ≡ true)
  -- no state: 10, before any other number, and nothing changes
  pub no_state_byte : (s cal meas : List ℕ) (b : ℕ) → Unmarked s
      → ByteTells (v.receive s cal meas b).received 10 × ((v.receive s cal meas b).state ≡ s) × ((v.receive s cal meas b).cal ≡ cal)
  pub no_state_event : (s cal meas : List ℕ) (number clock : ℕ) → Unmarked s
      → EventTells (v.event s cal meas number clock).evented 10 0 × ((v.event s cal meas number clock).state ≡ s)
  pub no_state_slot : (s out : List ℕ) → Unmarked s → SlotTells (v.slot s out).slotted 10 0 × ((v.slot s out).state ≡ s) × ((v.slot s out).out ≡ out)
  -- power-up judges the size alone
  pub power_up : (s : List ℕ) (start : ℕ) → length s ≡ 1486 → PowerUpTells (v.power_up s start).powered_up 0
  pub no_size : (s : List ℕ) (start : ℕ) → length s ≢ 1486 → PowerUpTells (v.power_up s start).powered_up 10 × ((v.power_up s start).state ≡ s)
