-- Whose turn a slot is, in document 01's words: an answer's if one waits and the last frame sent was not an answer; else that of the next list with a
-- packet, round from the one after the last one served, or from list 0 after FREE_DAQ; else an answer's. And what it leaves once that frame is sent.
use Rattle.std.specs.Prelude.{ℕ, ◌+◌, ◌%◌, ◌≤◌, ◌<◌, ◌≡◌, ◌≢◌, true, false, [], length, Some, None}
use Rattle.model.specs.Model.{Session, Slave, runs_in, has_answer}
use Rattle.model.specs.Turn.{Turn}
use Rattle.model.specs.declared.Sender.TheVariants.{Answer, Packet}
use Rattle.views.specs.Commands.{TheRound, TheLists, AllButBoth}

-- list l has no packet: if it runs, none of its ODTs has something in store
abbrev pub NoPacket : Session → ℕ → Type 0
NoPacket c l = runs_in c l ≡ true → (o : ℕ) → o < (c.list l).odts → ((c.list l).odt o).store ≡ []

-- its next packet is that of its ODT o: no earlier one has something in store
pub record NextPacket (c : Session) (l o : ℕ) : Type 0 where
  pub runs : runs_in c l ≡ true
  pub in_list : o < (c.list l).odts
  pub some : 1 ≤ length ((c.list l).odt o).store
  pub first : (i : ℕ) → i < o → ((c.list l).odt i).store ≡ []

-- list l is the next one with a packet: it is `on` lists on from the one with which the round begins, and those passed on the way have none
pub record NextList (v : Slave) (l o : ℕ) : Type 0 where
  pub on : ℕ
  pub few : on < v.session.lists
  pub round : l ≡ (v.session.round + on) % v.session.lists
  pub on_the_way : (i : ℕ) → i < on → NoPacket v.session ((v.session.round + i) % v.session.lists)
  pub packet : NextPacket v.session l o

abbrev pub NoList : Slave → Type 0
NoList v = (l : ℕ) → l < v.session.lists → NoPacket v.session l

-- whose turn it is, and why
pub data Goes (v : Slave) : Turn → Type 0 where
  answer_first : has_answer v ≡ true → v.last_answer ≡ false → Goes v (Some Answer)
  list_next : (has_answer v ≡ true → v.last_answer ≡ true) → (l o : ℕ) → NextList v l o → Goes v (Some (Packet l o))
  answer_else : has_answer v ≡ true → v.last_answer ≡ true → NoList v → Goes v (Some Answer)
  nobody : has_answer v ≡ false → NoList v → Goes v None

-- ---- what a slot leaves, w, of v
-- a frame was sent: the reader is where it was, the CTR has grown by one, 255 to 0
pub record OneFrame (v w : Slave) : Type 0 where
  pub place : w.place ≡ v.place
  pub message : w.message ≡ v.message
  pub ctr : w.ctr ≡ (v.ctr + 1) % 256

-- the answer's: it no longer waits, and nothing of the session has changed
pub record AnswerLeft (v w : Slave) : Type 0 where
  pub gone : w.answer ≡ []
  pub last : w.last_answer ≡ true
  pub session : w.session ≡ v.session
  pub frame : OneFrame v w

-- that of list l's ODT o: this packet no longer waits, the round then begins with the list after l, after the last one with list 0, and all else is
-- as it was
pub record PacketLeft (v w : Slave) (l o : ℕ) : Type 0 where
  pub gone : ((w.session.list l).odt o).store ≡ []
  pub last : w.last_answer ≡ false
  pub round : w.session.round ≡ (l + 1) % v.session.lists
  pub entry_counts : ((w.session.list l).odt o).entries ≡ ((v.session.list l).odt o).entries
  pub entries : (e : ℕ) → ((w.session.list l).odt o).entry e ≡ ((v.session.list l).odt o).entry e
  pub other_odts : (k : ℕ) → k ≢ o → (w.session.list l).odt k ≡ (v.session.list l).odt k
  pub mode : (w.session.list l).mode ≡ (v.session.list l).mode
  pub selected : (w.session.list l).selected ≡ (v.session.list l).selected
  pub started : (w.session.list l).started ≡ (v.session.list l).started
  pub odts : (w.session.list l).odts ≡ (v.session.list l).odts
  pub others : (j : ℕ) → j ≢ l → w.session.list j ≡ v.session.list j
  pub rest : AllButBoth TheRound TheLists v.session w.session
  pub answer : w.answer ≡ v.answer
  pub frame : OneFrame v w

-- by whose turn it was
abbrev pub Leaves : Turn → Slave → Slave → Type 0
Leaves None v w = w ≡ v
Leaves (Some Answer) v w = AnswerLeft v w
Leaves (Some (Packet l o)) v w = PacketLeft v w l o
