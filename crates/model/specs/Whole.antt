-- Each call whole: what it answers, and the slave and the lent bytes after it. What power-up leaves is `powered_up`, whatever was there.
use Rattle.std.specs.Prelude.{ℕ, zero, suc, ◌+◌, Bool, true, false, cond, List, ltb, leb, length, Some, None, Ok, Err}
use Rattle.line.specs.Message.{room, frame}
use Rattle.line.specs.Unstuffing.{Fed}
use Rattle.line.specs.Reader.{take_of}
use Rattle.line.specs.Writer.{at_front}
use Rattle.line.specs.Values.{Outcome}
use Rattle.state.specs.Layout.{events}
use Rattle.state.specs.Bytes.{block}
use Rattle.words.specs.Values.{Received, Evented, Slotted, no_state, event_done}
use Rattle.model.specs.declared.Sampling.{Sampling}
use Rattle.model.specs.declared.Sampling.TheVariants.{Idle, Sampled, Missed}
use Rattle.model.specs.Turn.{Turn}
use Rattle.model.specs.Model.{DaqList, Session, Slave, has_answer}
use Rattle.model.specs.Heed.{Heeding, Dropped, Obeyed, Ignored, heeding_in}
use Rattle.model.specs.Step.{with_session, each_list, step}
use Rattle.model.specs.Answers.{reply_in, written}
use Rattle.model.specs.Calls.{with_answer, with_reader, turn_in, packet_from, answer_gone, packet_gone, sampling_in, sampled}
use Rattle.line.specs.declared.Fault.TheVariants.{BadLength as BadLengthLine, BadEscape as BadEscapeLine, BadChecksum as BadChecksumLine, CutOff as CutOffLine, ShortBuffer}
use Rattle.model.specs.declared.Sender.TheVariants.{Answer, Packet}
use Rattle.words.specs.declared.EventRefusal.TheVariants.{BadEvent}
use Rattle.words.specs.declared.Heard.TheVariants.{Nothing, Answered, Silent, BadLength, BadEscape, BadChecksum, Unread, CutOff}
use Rattle.words.specs.declared.SlotRefusal.TheVariants.{NoRoom}

-- ---- a received byte: what the call answers, and the slave and the calibration memory after it
pub record AfterByte : Type 0 where
  pub received : Received
  pub slave : Slave
  pub memory : List ℕ

-- only the reader's place has changed
abbrev pub only_read : Received → Slave → List ℕ → AfterByte
only_read r v cal = record { received = r; slave = v; memory = cal }

-- a good message with packet p, by what it is to the slave: dropped unread; a command taken, its answer waits; or silence
abbrev pub heeded_as : Heeding → List ℕ → Slave → List ℕ → List ℕ → AfterByte
heeded_as Dropped p v cal meas = only_read (Ok Unread) v cal
heeded_as (Obeyed d) p v cal meas = record { received = Ok Answered; slave = with_answer (step d v) (reply_in d v.session cal meas); memory = written d p cal }
heeded_as Ignored p v cal meas = only_read (Ok Silent) v cal

unfoldable pub heeded_in : List ℕ → Slave → List ℕ → List ℕ → AfterByte
heeded_in p v cal meas = heeded_as (heeding_in (has_answer v) p v.session (length cal) (length meas)) p v cal meas

-- by what the byte is to the line, the reader being where the line left it: the packet of a good message lies in its buffer. One with too short a
-- buffer for the line is no slave
unfoldable pub read_as : Outcome → Slave → List ℕ → List ℕ → AfterByte
read_as (Ok None) v cal meas = only_read (Ok Nothing) v cal
read_as (Ok (Some good)) v cal meas = heeded_in (block v.message good.at good.len) v cal meas
read_as (Err BadLengthLine) v cal meas = only_read (Ok BadLength) v cal
read_as (Err BadEscapeLine) v cal meas = only_read (Ok BadEscape) v cal
read_as (Err BadChecksumLine) v cal meas = only_read (Ok BadChecksum) v cal
read_as (Err CutOffLine) v cal meas = only_read (Ok CutOff) v cal
read_as (Err ShortBuffer) v cal meas = only_read (Err no_state) v cal

abbrev pub read_in : Fed → Slave → List ℕ → List ℕ → AfterByte
read_in f v cal meas = read_as f.taken.outcome (with_reader v f.taken.place f.message) cal meas

-- what the line makes of byte b
abbrev pub fed_in : ℕ → Slave → Fed
fed_in b v = take_of v.place v.message b

unfoldable pub received_in : ℕ → Slave → List ℕ → List ℕ → AfterByte
received_in b v cal meas = read_in (fed_in b v) v cal meas

-- ---- an event: what the call answers, and the slave after it
pub record AfterEvent : Type 0 where
  pub evented : Evented
  pub slave : Slave

-- a list, by what the event is to it: it takes a sample at once, or the old stays
unfoldable pub sampled_as : Sampling → ℕ → List ℕ → List ℕ → DaqList → DaqList
sampled_as Idle clock cal meas x = x
sampled_as Sampled clock cal meas x = sampled clock cal meas x
sampled_as Missed clock cal meas x = x

-- each list by itself
abbrev pub sampled_in : Session → ℕ → ℕ → List ℕ → List ℕ → Session
sampled_in c event clock cal meas = each_list (λ l. sampled_as (sampling_in c l event) clock cal meas) c

-- how many of the first n lists sampled, and how many missed
abbrev pub is_sampled : Sampling → Bool
is_sampled Idle = false
is_sampled Sampled = true
is_sampled Missed = false

abbrev pub is_missed : Sampling → Bool
is_missed Idle = false
is_missed Sampled = false
is_missed Missed = true

abbrev pub how_many : (ℕ → Bool) → ℕ → ℕ
how_many test zero = 0
how_many test (suc n) = how_many test n + cond (test n) 1 0

abbrev pub counted_in : Session → ℕ → Evented
counted_in c event = event_done (how_many (λ l. is_sampled (sampling_in c l event)) c.lists) (how_many (λ l. is_missed (sampling_in c l event)) c.lists)

-- a number above 1 changes nothing
unfoldable pub event_in : ℕ → ℕ → Slave → List ℕ → List ℕ → AfterEvent
event_in event clock v cal meas =
    cond (leb events event) (record { evented = Err BadEvent; slave = v })
    (record { evented = counted_in v.session event; slave = with_session v (sampled_in v.session event clock cal meas) })

-- ---- a slot: what the call answers, and the slave and the lent bytes after it
pub record AfterSlot : Type 0 where
  pub slotted : Slotted
  pub slave : Slave
  pub out : List ℕ

-- a packet goes: its frame at the front of the lent bytes, the bytes past it as they were; the call answers its size
abbrev pub packet_goes : List ℕ → ℕ → List ℕ → Slave → AfterSlot
packet_goes p ctr out v = record { slotted = Ok (Some (length (frame ctr p))); slave = v; out = at_front (frame ctr p) out }

-- by whose turn it is
unfoldable pub sent_in : Turn → Slave → List ℕ → AfterSlot
sent_in None v out = record { slotted = Ok None; slave = v; out = out }
sent_in (Some Answer) v out = packet_goes v.answer v.ctr out (answer_gone v)
sent_in (Some (Packet l o)) v out = packet_goes (packet_from v.session l o) v.ctr out (packet_gone l o v)

-- fewer lent bytes than the room of the longest frame change nothing
unfoldable pub slot_in : Slave → List ℕ → AfterSlot
slot_in v out =
    cond (ltb (length out) room) (record { slotted = Err NoRoom; slave = v; out = out })
    (sent_in (turn_in v) v out)
