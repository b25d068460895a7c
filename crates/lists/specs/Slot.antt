-- A sending slot: one frame, of whose turn it is.
use Rattle.std.specs.Prelude.{◌≡◌, ℕ, ◌+◌, ◌%◌, ◌≤◌, cond, List, length, nat_lt, slice_set, Some, None, Ok, Err}
use Rattle.line.specs.Message.{room}
use Rattle.line.specs.Writer.{Sent, write_of}
use Rattle.line.specs.Values.{Written}
use Rattle.state.specs.Layout.{ctr_at, round_at, last_at, sample_at, answer_at, answer_bytes_at}
use Rattle.state.specs.Pool.{first_odt}
use Rattle.state.specs.State.{consistent, ctr_of, answer_kind, answer_of}
use Rattle.model.specs.Calls.{turn_in, packet_from}
use Rattle.model.specs.View.{session_of, view_of}
use Rattle.model.specs.Turn.{Turn}
use Rattle.words.specs.Values.{Slotted}
use Rattle.line.specs.declared.Unwritten.TheVariants.{BadLength, NoRoom}
use Rattle.model.specs.declared.Sender.TheVariants.{Answer, Packet}
use Rattle.words.specs.declared.SlotRefusal.TheVariants.{NoRoom as SlottedNoRoom, NoState}

-- whose turn it is
abbrev pub turn_of : List ℕ → Turn
turn_of s = turn_in (view_of s)

-- the same with the ODT's number in the place of its number in its list
abbrev pub numbered_in : List ℕ → Turn → Turn
numbered_in s None = None
numbered_in s (Some Answer) = Some Answer
numbered_in s (Some (Packet l o)) = Some (Packet l (first_odt s l + o))

-- the packet of list l's ODT o: its number, and what was captured
abbrev pub packet_of : List ℕ → ℕ → ℕ → List ℕ
packet_of s l o = packet_from (session_of s) l o

-- what the call answers, and the state and the lent bytes after it
pub record Slot : Type 0 where
  pub slotted : Slotted
  pub state : List ℕ
  pub out : List ℕ

abbrev pub slotted_as : Written → Slotted
slotted_as (Ok n) = Ok (Some n)
slotted_as (Err BadLength) = Ok None
slotted_as (Err NoRoom) = Err SlottedNoRoom

abbrev pub sent_as : Sent → List ℕ → Slot
sent_as w s = record { slotted = slotted_as w.written; state = s; out = w.out }

-- the CTR grows by one per message sent, 255 to 0
abbrev pub ctr_next : List ℕ → ℕ
ctr_next s = (ctr_of s + 1) % 256

-- the answer no longer waits; the last frame was an answer
unfoldable pub answer_sent : List ℕ → List ℕ
answer_sent s = slice_set (slice_set (slice_set (slice_set s answer_bytes_at (answer_kind s)) answer_at 0) ctr_at (ctr_next s)) last_at 1

-- with which list the round then begins; one that there is not reads as list 0
abbrev pub round_after : ℕ → ℕ
round_after l = l + 1

-- the packet of list l's ODT o no longer waits; the round then begins with the list after it; the last frame was no answer
unfoldable pub packet_sent : List ℕ → ℕ → ℕ → List ℕ
packet_sent s l o = slice_set (slice_set (slice_set (slice_set s (sample_at (first_odt s l + o)) 0) ctr_at (ctr_next s)) round_at (round_after l)) last_at 0

unfoldable pub sent_by : Turn → List ℕ → List ℕ → Slot
sent_by None s out = record { slotted = Ok None; state = s; out = out }
sent_by (Some Answer) s out = sent_as (write_of (answer_of s) (ctr_of s) out) (answer_sent s)
sent_by (Some (Packet l o)) s out = sent_as (write_of (packet_of s l o) (ctr_of s) out) (packet_sent s l o)

unfoldable pub slot_of : List ℕ → List ℕ → Slot
slot_of s out =
    cond (consistent s)
    (cond (nat_lt (length out) room) (record { slotted = Err SlottedNoRoom; state = s; out = out })
    (sent_by (turn_of s) s out))
    (record { slotted = Err NoState; state = s; out = out })

-- a function that answers r and leaves s and out does what o says
pub record Sends (o : Slot) (r : Slotted) (s out : List ℕ) : Type 0 where
  pub result : r ≡ o.slotted
  pub state : s ≡ o.state
  pub bytes : out ≡ o.out

-- a frame's size is at most the room
abbrev pub Small : Slotted → Type 0
Small (Ok None) = Unit
Small (Ok (Some size)) = size ≤ room
Small (Err SlottedNoRoom) = Unit
Small (Err NoState) = Unit
