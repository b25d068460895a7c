-- What else a call makes of the slave: an answer put to wait, a byte read, an answer or a packet sent, a list sampled, power-up. Whose turn it is.
use Rattle.std.specs.Prelude.{ℕ, zero, suc, ◌+◌, ◌%◌, ◌/◌, true, false, cond, List, [], ◌∷◌, ◌++◌, eqb, ltb, leb, replicate, Some, None}
use Rattle.line.specs.Message.{longest}
use Rattle.line.specs.declared.Place.{Place}
use Rattle.line.specs.declared.Place.TheVariants.{Outside}
use Rattle.state.specs.Layout.{is_first, odt_most}
use Rattle.state.specs.Generator.{start_of}
use Rattle.state.specs.Memory.{pick, bytes_of}
use Rattle.model.specs.declared.Sampling.{Sampling}
use Rattle.model.specs.declared.Sampling.TheVariants.{Idle, Sampled, Missed}
use Rattle.model.specs.Turn.{Turn}
use Rattle.model.specs.Model.{put, Entry, Odt, DaqList, Session, Slave, blank, first_of, sizes_of, runs_in, has_answer, has_packet, unsent}
use Rattle.model.specs.Step.{emptied, at}
use Rattle.model.specs.declared.Sender.TheVariants.{Answer, Packet}

abbrev pub with_answer : Slave → List ℕ → Slave
with_answer v bs = record { session = v.session; place = v.place; message = v.message; answer = bs; ctr = v.ctr; last_answer = v.last_answer }

-- the reader where the line left it
abbrev pub with_reader : Slave → Place → List ℕ → Slave
with_reader v p m = record { session = v.session; place = p; message = m; answer = v.answer; ctr = v.ctr; last_answer = v.last_answer }

-- ---- a slot: whose turn it is
-- the first packet that waits of the n ODTs of list l from o on
unfoldable pub first_packet : ℕ → DaqList → ℕ → ℕ → Turn
first_packet l x o zero = None
first_packet l x o (suc n) = cond (has_packet (x.odt o)) (Some (Packet l o)) (first_packet l x (o + 1) n)

-- list l's next packet: that of its first ODT before those of later ones
unfoldable pub packet_in : Session → ℕ → Turn
packet_in c l = cond (runs_in c l) (first_packet l (c.list l) 0 (c.list l).odts) None

abbrev pub or_else : Turn → Turn → Turn
or_else None t = t
or_else (Some Answer) t = Some Answer
or_else (Some (Packet l o)) t = Some (Packet l o)

-- the round over L lists, of which `next l` is list l's next packet: the next n of them from l on
unfoldable pub round_from : ℕ → (ℕ → Turn) → ℕ → ℕ → Turn
round_from L next l zero = None
round_from L next l (suc n) = or_else (next (l % L)) (round_from L next (l + 1) n)

-- the next list that has a packet, from the one with which the round begins
abbrev pub round_in : Session → Turn
round_in c = round_from c.lists (packet_in c) c.round c.lists

-- an answer goes if one waits and the last frame was not an answer; else the next list with a packet; else an answer
unfoldable pub turn_in : Slave → Turn
turn_in v =
    cond (has_answer v)
    (cond v.last_answer
    (or_else (round_in v.session) (Some Answer))
    (Some Answer))
    (round_in v.session)

-- the packet of list l's ODT o: its number, and what was captured
unfoldable pub packet_from : Session → ℕ → ℕ → List ℕ
packet_from c l o = (first_of c l + o) ∷ ((c.list l).odt o).store

-- the packet of whose turn it is
abbrev pub packet_for : Turn → Slave → List (List ℕ)
packet_for None v = []
packet_for (Some Answer) v = v.answer ∷ []
packet_for (Some (Packet l o)) v = packet_from v.session l o ∷ []

-- ---- a frame is sent: the CTR grows by one, 255 to 0
-- the answer no longer waits
abbrev pub answer_gone : Slave → Slave
answer_gone v = record { session = v.session; place = v.place; message = v.message; answer = []; ctr = (v.ctr + 1) % 256; last_answer = true }

-- ODT o's packet no longer waits
abbrev pub without_packet : ℕ → DaqList → DaqList
without_packet o x = record { mode = x.mode; selected = x.selected; started = x.started; odts = x.odts; odt = put o (emptied (x.odt o)) x.odt }

-- the round then begins with the list after it, after the last of n with list 0
abbrev pub list_after : ℕ → ℕ → ℕ
list_after n l = cond (ltb (l + 1) n) (l + 1) 0

abbrev pub with_round : Session → ℕ → Session
with_round c l = record { generator = c.generator; wrong_keys = c.wrong_keys; opened = c.opened; unlocked = c.unlocked; seed = c.seed; mta = c.mta; pointer = c.pointer; freed = c.freed; lists = c.lists; round = l; list = c.list }

abbrev pub packet_gone : ℕ → ℕ → Slave → Slave
packet_gone l o v = record {
  session = with_round (at l (without_packet o) v.session) (list_after v.session.lists l);
  place = v.place;
  message = v.message;
  answer = v.answer;
  ctr = (v.ctr + 1) % 256;
  last_answer = false;
}

-- ---- an event: what it is to list l
unfoldable pub sampling_in : Session → ℕ → ℕ → Sampling
sampling_in c l event = cond (eqb (c.list l).mode (event + 1)) (cond (runs_in c l) (cond (unsent (c.list l)) Missed Sampled) Idle) Idle

-- the bytes of an ODT's first n entries, in entry order, each as the memories hold it now
abbrev pub block_in : Entry → List ℕ → List ℕ → List ℕ
block_in x cal meas = bytes_of (pick x.extension cal meas) x.address x.size

unfoldable pub blocks_in : Odt → List ℕ → List ℕ → ℕ → List ℕ
blocks_in y cal meas zero = []
blocks_in y cal meas (suc n) = blocks_in y cal meas n ++ block_in (y.entry n) cal meas

-- how many of an ODT's first n entries go into so many bytes: in order, up to the first for which there is no room
unfoldable pub taken : ℕ → Odt → ℕ → ℕ
taken room y zero = 0
taken room y (suc n) = cond (leb (sizes_of y (suc n)) room) (suc n) (taken room y n)

abbrev pub taken_in : ℕ → Odt → ℕ
taken_in o y = taken (odt_most o) y y.entries

-- the packet of a list's ODT o, without its number: in the first one the clock, then the bytes
abbrev pub lead_of : ℕ → ℕ → List ℕ
lead_of o clock = cond (is_first o) (clock % 256 ∷ clock / 256 % 256 ∷ []) []

unfoldable pub contents_in : ℕ → ℕ → List ℕ → List ℕ → Odt → List ℕ
contents_in o clock cal meas y = lead_of o clock ++ blocks_in y cal meas (taken_in o y)

abbrev pub with_packet : List ℕ → Odt → Odt
with_packet bs y = record { entries = y.entries; entry = y.entry; store = bs }

-- a list is sampled: each of its first n ODTs is captured whole
abbrev pub sampled_first : ℕ → ℕ → List ℕ → List ℕ → DaqList → DaqList
sampled_first n clock cal meas x = record {
  mode = x.mode;
  selected = x.selected;
  started = x.started;
  odts = x.odts;
  odt = λ o. cond (ltb o n) (with_packet (contents_in o clock cal meas (x.odt o)) (x.odt o)) (x.odt o);
}

abbrev pub sampled : ℕ → List ℕ → List ℕ → DaqList → DaqList
sampled clock cal meas x = sampled_first x.odts clock cal meas x

-- ---- a sample of a list whose first ODT has that number, a packet for each of its ODTs that has something to send: the ODT's number, and what is
-- captured of it. So the first ODT always has one, a later one only if it has bytes
abbrev pub packet_with : ℕ → List ℕ → List (List ℕ)
packet_with k [] = []
packet_with k (b ∷ bs) = (k ∷ b ∷ bs) ∷ []

-- of the n ODTs from o on
unfoldable pub sample_from : ℕ → DaqList → ℕ → List ℕ → List ℕ → ℕ → ℕ → List (List ℕ)
sample_from first x clock cal meas o zero = []
sample_from first x clock cal meas o (suc n) = packet_with (first + o) (contents_in o clock cal meas (x.odt o)) ++ sample_from first x clock cal meas (o + 1) n

abbrev pub sample_in : Session → ℕ → ℕ → List ℕ → List ℕ → List (List ℕ)
sample_in c l clock cal meas = sample_from (first_of c l) (c.list l) clock cal meas 0 (c.list l).odts

-- ---- power-up: no key was wrong, the last frame counts as no answer
abbrev pub powered_up : ℕ → Slave
powered_up start = record { session = blank (start_of start) 0 false; place = Outside; message = replicate longest 0; answer = []; ctr = 0; last_answer = false }
