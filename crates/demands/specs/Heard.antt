-- What a received byte means to a state: the packet whose message it ends, and the deed that this leads to.
use Rattle.std.specs.Prelude.{ℕ, ◌≡◌, Bool, true, false, cond, not, List, eqb, ltb, length, Option, Some, None, Ok, Err}
use Rattle.line.specs.Values.{Outcome}
use Rattle.state.specs.Bytes.{block, u32_at}
use Rattle.state.specs.Generator.{key_of}
use Rattle.session.specs.Receive.{Step, fed_of, read_on}
use Rattle.words.specs.Number.{received_number}
use Rattle.model.specs.Model.{byte, Session, Slave, has_answer}
use Rattle.model.specs.Judge.{judge_in}
use Rattle.model.specs.Heed.{Heeding, Dropped, Obeyed, Ignored, heeding_in}
use Rattle.model.specs.Answers.{command_in}
use Rattle.model.specs.Whole.{fed_in}
use Rattle.model.specs.View.{session_of, view_of}
use Rattle.words.specs.declared.Resource.{Resource}
use Rattle.words.specs.Values.{Seed}
use Rattle.model.specs.declared.Deed.{Deed}
use Rattle.model.specs.declared.Deed.TheVariants.{Refuse, RefuseSize, WrongKey, Connect, Disconnect, Status, Synch, NoSeed, GiveSeed, Unlock, SetMta, Upload, Checksum, Download, ClearList, SetPointer, ClearEntry, WriteEntry, SetMode, Stop, Start, KeepRunning, Select, StopAll, StartSelected, StopSelected, ProcessorInfo, ResolutionInfo, FreeLists, AllocLists, AllocOdts, AllocEntries}

-- the packet of a good message that has just ended
abbrev pub packet_by : Outcome → List ℕ → Option (List ℕ)
packet_by (Ok None) m = None
packet_by (Ok (Some good)) m = Some (block m good.at good.len)
packet_by (Err fault) m = None

abbrev pub packet_ended : List ℕ → ℕ → Option (List ℕ)
packet_ended s b = packet_by (fed_in b (view_of s)).taken.outcome (fed_in b (view_of s)).message

-- the state once byte b is read: s, but for the reader's place
abbrev pub read_by : List ℕ → ℕ → List ℕ
read_by s b = read_on s (fed_of s b)

-- byte b ends a whole good message with packet p, while a session is open and no answer waits
pub record Commands (s : List ℕ) (b : ℕ) (p : List ℕ) : Type 0 where
  pub ends : packet_ended s b ≡ Some p
  pub opened : (session_of s).opened ≡ true
  pub free : has_answer (view_of s) ≡ false

-- what command p leads to in session c, and its answer
abbrev pub deed_in : List ℕ → Session → List ℕ → List ℕ → Deed
deed_in p c cal meas = judge_in p c (length cal) (length meas)

abbrev pub answer_to : List ℕ → Session → List ℕ → List ℕ → List ℕ
answer_to p c cal meas = (command_in p c cal meas).answer

-- ---- what is done at byte b, if anything is
abbrev pub deed_by : Heeding → Option Deed
deed_by Dropped = None
deed_by (Obeyed d) = Some d
deed_by Ignored = None

unfoldable pub heeds : Option (List ℕ) → Slave → ℕ → ℕ → Option Deed
heeds None v nc nm = None
heeds (Some p) v nc nm = deed_by (heeding_in (has_answer v) p v.session nc nm)

abbrev pub deed_at : List ℕ → List ℕ → List ℕ → ℕ → Option Deed
deed_at s cal meas b = heeds (packet_ended s b) (view_of s) (length cal) (length meas)

-- ---- a test of the command that byte b ended and of its answer, by what the call did; of no other byte it holds
abbrev pub of_ended : (List ℕ → List ℕ → Bool) → Option (List ℕ) → List ℕ → Bool
of_ended test None answer = false
of_ended test (Some p) answer = test p answer

abbrev pub of_answered : (List ℕ → List ℕ → Bool) → Step → List ℕ → ℕ → Bool
of_answered test o s b = cond (eqb (received_number o.received) 1) (of_ended test (packet_ended s b) (view_of o.state).answer) false

-- ---- keys: UNLOCK with four key bytes, for the seed that is out
unfoldable pub brings_key : List ℕ → Bool
brings_key p = cond (eqb (byte p 0) 0xF7) (cond (eqb (byte p 1) 4) (not (ltb (length p) 6)) false) false

abbrev pub key_matches : List ℕ → Resource → Session → Bool
key_matches p r c = eqb (u32_at p 2) (key_of r c.generator)

unfoldable pub wrong_key_by : Seed → List ℕ → Session → Bool
wrong_key_by None p c = false
wrong_key_by (Some r) p c = cond (brings_key p) (not (key_matches p r c)) false

abbrev pub wrong_key : List ℕ → Session → Bool
wrong_key p c = wrong_key_by c.seed p c

-- byte b ends such a message with a wrong key
abbrev pub wrong_key_in : Option (List ℕ) → Session → Bool
wrong_key_in None c = false
wrong_key_in (Some p) c = wrong_key p c

abbrev pub wrong_key_at : List ℕ → ℕ → Bool
wrong_key_at s b = wrong_key_in (packet_ended s b) (session_of s)

-- ---- the deeds that stop list l (DE 0, DD 0, or DD 2 with it selected), free it (D6), or end or renew its session (CONNECT, DISCONNECT, a wrong key)
abbrev pub stops : ℕ → Deed → Session → Bool
stops l (Refuse r) c = false
stops l RefuseSize c = false
stops l WrongKey c = true
stops l Connect c = true
stops l Disconnect c = true
stops l Status c = false
stops l Synch c = false
stops l NoSeed c = false
stops l (GiveSeed r) c = false
stops l (Unlock r) c = false
stops l (SetMta e a) c = false
stops l (Upload e a n) c = false
stops l (Checksum e a n) c = false
stops l (Download from a n) c = false
stops l (ClearList j) c = false
stops l (SetPointer j o e) c = false
stops l (ClearEntry j o e) c = false
stops l (WriteEntry j o e n x a) c = false
stops l (SetMode j event) c = false
stops l (Stop j) c = eqb l j
stops l (Start j) c = false
stops l (KeepRunning j) c = false
stops l (Select j) c = false
stops l StopAll c = true
stops l StartSelected c = false
stops l StopSelected c = (c.list l).selected
stops l ProcessorInfo c = false
stops l ResolutionInfo c = false
stops l FreeLists c = true
stops l (AllocLists n) c = false
stops l (AllocOdts j n) c = false
stops l (AllocEntries j o n) c = false

abbrev pub stops_by : ℕ → Option Deed → Session → Bool
stops_by l None c = false
stops_by l (Some d) c = stops l d c

-- at byte b list l is stopped or freed, or its session ends or is renewed
abbrev pub stops_at : ℕ → List ℕ → List ℕ → List ℕ → ℕ → Bool
stops_at l s cal meas b = stops_by l (deed_at s cal meas b) (session_of s)
