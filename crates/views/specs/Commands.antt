-- What stands once a command is done, in document 01's words and order: of the session c, the memories cal and meas and the packet p before it, and
-- of the session, the calibration memory and the answer after it. The packet's numbers are said by their bytes.
use Rattle.std.specs.Prelude.{ℕ, zero, suc, ◌+◌, ◌*◌, ◌%◌, ◌^◌, ◌≤◌, ◌<◌, ◌≡◌, ◌≢◌, Bool, true, false, List, [], ◌∷◌, length, Some, None}
use Rattle.words.specs.declared.Resource.{Resource}
use Rattle.words.specs.declared.Resource.TheVariants.{Calibration, Lists}
use Rattle.words.specs.declared.Extension.{Extension}
use Rattle.words.specs.declared.Extension.TheVariants.{Calibration as CalibrationMemory, Measured}
use Rattle.words.specs.declared.Mta.TheVariants.{Unset, At}
use Rattle.words.specs.declared.Pointer.TheVariants.{Unset as NoEntry, At as Points}
use Rattle.model.specs.Model.{byte, Bytes, no_entry, no_odt, DaqList, no_list, Session, first_of, odts_taken, entries_taken, runs_in}
use Rattle.model.specs.Answers.{Done}
use Rattle.views.specs.Words.{next_seed, key_for}

-- ---- the packet's numbers: two bytes from i, and four, lowest byte first
abbrev pub two : List ℕ → ℕ → ℕ
two p i = byte p i + 256 * byte p (i + 1)

abbrev pub four : List ℕ → ℕ → ℕ
four p i = byte p i + 256 * (byte p (i + 1) + 256 * (byte p (i + 2) + 256 * byte p (i + 3)))

-- the byte that names an extension, and the one that names a resource
abbrev pub extension_number : Extension → ℕ
extension_number CalibrationMemory = 0
extension_number Measured = 1

abbrev pub resource_number : Resource → ℕ
resource_number Calibration = 0x01
resource_number Lists = 0x04

-- the memory that an extension stands for
abbrev pub memory_of : Extension → List ℕ → List ℕ → List ℕ
memory_of CalibrationMemory cal meas = cal
memory_of Measured cal meas = meas

-- the sum of the n bytes from a
abbrev pub sum_from : List ℕ → ℕ → ℕ → ℕ
sum_from mem a zero = 0
sum_from mem a (suc n) = byte mem a + sum_from mem (a + 1) n

-- the locked mask, by whether calibration and lists are unlocked
abbrev pub mask_for : Bool → Bool → ℕ
mask_for true true = 0x00
mask_for false true = 0x01
mask_for true false = 0x04
mask_for false false = 0x05

-- ---- the parts of a session
pub data Part : Type 0 where
  TheGenerator : Part
  TheWrongKeys : Part
  WhetherOpen : Part
  TheLocks : Part
  TheSeed : Part
  TheMta : Part
  ThePointer : Part
  WhetherFreed : Part
  HowManyLists : Part
  TheRound : Part
  TheLists : Part

-- a part of d is as it is in c
abbrev pub Kept : Part → Session → Session → Type 0
Kept TheGenerator c d = d.generator ≡ c.generator
Kept TheWrongKeys c d = d.wrong_keys ≡ c.wrong_keys
Kept WhetherOpen c d = d.opened ≡ c.opened
Kept TheLocks c d = (r : Resource) → d.unlocked r ≡ c.unlocked r
Kept TheSeed c d = d.seed ≡ c.seed
Kept TheMta c d = d.mta ≡ c.mta
Kept ThePointer c d = d.pointer ≡ c.pointer
Kept WhetherFreed c d = d.freed ≡ c.freed
Kept HowManyLists c d = d.lists ≡ c.lists
Kept TheRound c d = d.round ≡ c.round
Kept TheLists c d = (l : ℕ) → d.list l ≡ c.list l

-- every part but one; every part but two
abbrev pub AllBut : Part → Session → Session → Type 0
AllBut x c d = (y : Part) → y ≢ x → Kept y c d

abbrev pub AllButBoth : Part → Part → Session → Session → Type 0
AllButBoth x z c d = (y : Part) → y ≢ x → y ≢ z → Kept y c d

-- everything in d as in a fresh session; the generator runs on
pub record Fresh (c d : Session) : Type 0 where
  pub generator : d.generator ≡ c.generator
  pub locked : (r : Resource) → d.unlocked r ≡ false
  pub no_seed : d.seed ≡ None
  pub no_mta : d.mta ≡ Unset
  pub no_pointer : d.pointer ≡ NoEntry
  pub unfreed : d.freed ≡ false
  pub no_lists : d.lists ≡ 0
  pub nothing : (l : ℕ) → d.list l ≡ no_list

-- nothing changes but that the answer waits
pub record Tells (c : Session) (cal : List ℕ) (o : Done) (answer' : List ℕ) : Type 0 where
  pub session : o.session ≡ c
  pub memory : o.memory ≡ cal
  pub answer : o.answer ≡ answer'

-- ---- FF CONNECT: the count of wrong keys stays
pub record CONNECT (p : List ℕ) (c : Session) (cal meas : List ℕ) (o : Done) : Type 0 where
  pub opened : o.session.opened ≡ true
  pub fresh : Fresh c o.session
  pub wrong_keys : o.session.wrong_keys ≡ c.wrong_keys
  pub memory : o.memory ≡ cal
  pub answer : o.answer ≡ 0xFF ∷ 0x05 ∷ 0x00 ∷ 0x40 ∷ 0x40 ∷ 0x00 ∷ 0x01 ∷ 0x01 ∷ []

-- ---- FE DISCONNECT
pub record DISCONNECT (p : List ℕ) (c : Session) (cal meas : List ℕ) (o : Done) : Type 0 where
  pub closed : o.session.opened ≡ false
  pub fresh : Fresh c o.session
  pub wrong_keys : o.session.wrong_keys ≡ c.wrong_keys
  pub memory : o.memory ≡ cal
  pub answer : o.answer ≡ 0xFF ∷ []

-- ---- FD GET_STATUS: 40 if a list runs
pub record GET_STATUS (p : List ℕ) (c : Session) (cal meas : List ℕ) (o : Done) : Type 0 where
  pub tells : Tells c cal o (0xFF ∷ byte o.answer 1 ∷ mask_for (c.unlocked Calibration) (c.unlocked Lists) ∷ 0x00 ∷ 0x00 ∷ 0x00 ∷ [])
  pub running : (l : ℕ) → l < c.lists → runs_in c l ≡ true → byte o.answer 1 ≡ 0x40
  pub none : ((l : ℕ) → l < c.lists → runs_in c l ≡ false) → byte o.answer 1 ≡ 0x00

-- ---- FC SYNCH
abbrev pub SYNCH : List ℕ → Session → List ℕ → List ℕ → Done → Type 0
SYNCH p c cal meas o = Tells c cal o (0xFE ∷ 0x00 ∷ [])

-- ---- F8 GET_SEED, while fewer than three keys were wrong: the generator moves on, and the answer carries it
pub record Seeds (r : Resource) (c : Session) (cal : List ℕ) (o : Done) : Type 0 where
  pub seed : o.session.seed ≡ Some r
  pub generator : o.session.generator ≡ next_seed c.generator
  pub rest : AllButBoth TheGenerator TheSeed c o.session
  pub memory : o.memory ≡ cal
  pub answer : o.answer ≡ 0xFF ∷ 0x04 ∷ byte o.answer 2 ∷ byte o.answer 3 ∷ byte o.answer 4 ∷ byte o.answer 5 ∷ []
  pub bytes : Bytes o.answer
  pub carries : c.generator < 2 ^ 32 → four o.answer 2 ≡ o.session.generator

pub record GET_SEED (p : List ℕ) (c : Session) (cal meas : List ℕ) (o : Done) : Type 0 where
  pub few : c.wrong_keys < 3
  pub resource : Resource
  pub named : byte p 2 ≡ resource_number resource
  pub already : c.unlocked resource ≡ true → Tells c cal o (0xFF ∷ 0x00 ∷ [])
  pub gives : c.unlocked resource ≡ false → Seeds resource c cal o

-- ---- F7 UNLOCK: the key in bytes 2 to 5 is that of the seed that was out
pub record UNLOCK (p : List ℕ) (c : Session) (cal meas : List ℕ) (o : Done) : Type 0 where
  pub resource : Resource
  pub seeded : c.seed ≡ Some resource
  pub right : four p 2 ≡ key_for resource c.generator
  pub opens : o.session.unlocked resource ≡ true
  pub alone : (r : Resource) → r ≢ resource → o.session.unlocked r ≡ c.unlocked r
  pub used : o.session.seed ≡ None
  pub rest : AllButBoth TheLocks TheSeed c o.session
  pub memory : o.memory ≡ cal
  pub answer : o.answer ≡ 0xFF ∷ mask_for (o.session.unlocked Calibration) (o.session.unlocked Lists) ∷ []

-- answered FE 25: the key is wrong. The session ends, and one wrong key more is counted, at most three
pub record WRONG_KEY (p : List ℕ) (c : Session) (cal meas : List ℕ) (o : Done) : Type 0 where
  pub resource : Resource
  pub seeded : c.seed ≡ Some resource
  pub wrong : four p 2 ≢ key_for resource c.generator
  pub counted : c.wrong_keys < 3 → o.session.wrong_keys ≡ c.wrong_keys + 1
  pub most : 3 ≤ c.wrong_keys → o.session.wrong_keys ≡ 3
  pub closed : o.session.opened ≡ false
  pub fresh : Fresh c o.session
  pub memory : o.memory ≡ cal
  pub answer : o.answer ≡ 0xFE ∷ 0x25 ∷ []

-- ---- F6 SET_MTA
pub record SET_MTA (p : List ℕ) (c : Session) (cal meas : List ℕ) (o : Done) : Type 0 where
  pub extension : Extension
  pub named : byte p 3 ≡ extension_number extension
  pub mta : o.session.mta ≡ At extension (four p 4)
  pub rest : AllBut TheMta c o.session
  pub memory : o.memory ≡ cal
  pub answer : o.answer ≡ 0xFF ∷ []

-- ---- F5 UPLOAD, F4 SHORT_UPLOAD: FF and n bytes from address a of that memory; the MTA then lies behind them
pub record Carries (extension : Extension) (a n : ℕ) (c : Session) (cal meas : List ℕ) (o : Done) : Type 0 where
  pub long : length o.answer ≡ n + 1
  pub bytes : (i : ℕ) → i < n → byte o.answer (i + 1) ≡ byte (memory_of extension cal meas) (a + i)
  pub mta : o.session.mta ≡ At extension (a + n)
  pub rest : AllBut TheMta c o.session
  pub memory : o.memory ≡ cal

pub record UPLOAD (p : List ℕ) (c : Session) (cal meas : List ℕ) (o : Done) : Type 0 where
  pub extension : Extension
  pub address : ℕ
  pub from : c.mta ≡ At extension address
  pub carries : Carries extension address (byte p 1) c cal meas o

-- from its own extension and address, wherever the MTA was, or unset
pub record SHORT_UPLOAD (p : List ℕ) (c : Session) (cal meas : List ℕ) (o : Done) : Type 0 where
  pub extension : Extension
  pub named : byte p 3 ≡ extension_number extension
  pub carries : Carries extension (four p 4) (byte p 1) c cal meas o

-- ---- F3 BUILD_CHECKSUM of the bytes from the MTA on, as many as bytes 4 to 7 say
pub record BUILD_CHECKSUM (p : List ℕ) (c : Session) (cal meas : List ℕ) (o : Done) : Type 0 where
  pub extension : Extension
  pub address : ℕ
  pub from : c.mta ≡ At extension address
  pub answer : o.answer ≡ 0xFF ∷ 0x02 ∷ 0x00 ∷ 0x00 ∷ byte o.answer 4 ∷ byte o.answer 5 ∷ byte o.answer 6 ∷ byte o.answer 7 ∷ []
  pub bytes : Bytes o.answer
  pub carries : four o.answer 4 ≡ sum_from (memory_of extension cal meas) address (four p 4) % 65536
  pub mta : o.session.mta ≡ At extension (address + four p 4)
  pub rest : AllBut TheMta c o.session
  pub memory : o.memory ≡ cal

-- ---- F0 DOWNLOAD, ED SHORT_DOWNLOAD: bytes `from` and on, as many as byte 1 says, stored at address a of calibration; the MTA then lies behind them
pub record Loads (from a : ℕ) (p : List ℕ) (c : Session) (cal : List ℕ) (o : Done) : Type 0 where
  pub stored : (i : ℕ) → i < byte p 1 → byte o.memory (a + i) ≡ byte p (i + from)
  pub others : (j : ℕ) → ((i : ℕ) → i < byte p 1 → j ≢ a + i) → byte o.memory j ≡ byte cal j
  pub long : length o.memory ≡ length cal
  pub mta : o.session.mta ≡ At CalibrationMemory (a + byte p 1)
  pub rest : AllBut TheMta c o.session
  pub answer : o.answer ≡ 0xFF ∷ []

-- bytes 2 and on, at the MTA
pub record DOWNLOAD (p : List ℕ) (c : Session) (cal meas : List ℕ) (o : Done) : Type 0 where
  pub address : ℕ
  pub at : c.mta ≡ At CalibrationMemory address
  pub loads : Loads 2 address p c cal o

-- bytes 8 and on, at its own address, wherever the MTA was, or unset
pub record SHORT_DOWNLOAD (p : List ℕ) (c : Session) (cal meas : List ℕ) (o : Done) : Type 0 where
  pub named : byte p 3 ≡ extension_number CalibrationMemory
  pub loads : Loads 8 (four p 4) p c cal o

-- ---- E3 CLEAR_DAQ_LIST
pub record CLEAR_DAQ_LIST (p : List ℕ) (c : Session) (cal meas : List ℕ) (o : Done) : Type 0 where
  pub there : two p 2 < c.lists
  pub entries : (k e : ℕ) → ((o.session.list (two p 2)).odt k).entry e ≡ record { size = 0; extension = CalibrationMemory; address = 0 }
  pub mode : (o.session.list (two p 2)).mode ≡ 0
  pub selected : (o.session.list (two p 2)).selected ≡ false
  pub stopped : (o.session.list (two p 2)).started ≡ false
  pub odts : (o.session.list (two p 2)).odts ≡ (c.list (two p 2)).odts
  pub entry_counts : (k : ℕ) → ((o.session.list (two p 2)).odt k).entries ≡ ((c.list (two p 2)).odt k).entries
  pub others : (l : ℕ) → l ≢ two p 2 → o.session.list l ≡ c.list l
  pub rest : AllBut TheLists c o.session
  pub memory : o.memory ≡ cal
  pub answer : o.answer ≡ 0xFF ∷ []

-- ---- E2 SET_DAQ_PTR
pub record SET_DAQ_PTR (p : List ℕ) (c : Session) (cal meas : List ℕ) (o : Done) : Type 0 where
  pub there : two p 2 < c.lists
  pub in_list : byte p 4 < (c.list (two p 2)).odts
  pub in_odt : byte p 5 < ((c.list (two p 2)).odt (byte p 4)).entries
  pub pointer : o.session.pointer ≡ Points (two p 2) (byte p 4) (byte p 5)
  pub rest : AllBut ThePointer c o.session
  pub memory : o.memory ≡ cal
  pub answer : o.answer ≡ 0xFF ∷ []

-- ---- E1 WRITE_DAQ: the entry that was pointed to reads as the packet says, one of size 0 as none, every other one as before; the next one is pointed to
pub record WRITE_DAQ (p : List ℕ) (c : Session) (cal meas : List ℕ) (o : Done) : Type 0 where
  pub list : ℕ
  pub odt : ℕ
  pub entry : ℕ
  pub pointed : c.pointer ≡ Points list odt entry
  pub extension : Extension
  pub named : byte p 3 ≡ extension_number extension
  pub here : byte p 2 ≢ 0 → ((o.session.list list).odt odt).entry entry ≡ record { size = byte p 2; extension = extension; address = four p 4 }
  pub zeroed : byte p 2 ≡ 0 → ((o.session.list list).odt odt).entry entry ≡ record { size = 0; extension = CalibrationMemory; address = 0 }
  pub others : (l k e : ℕ) → (l ≡ list → k ≡ odt → e ≢ entry) → ((o.session.list l).odt k).entry e ≡ ((c.list l).odt k).entry e
  pub modes : (l : ℕ) → (o.session.list l).mode ≡ (c.list l).mode
  pub selected : (l : ℕ) → (o.session.list l).selected ≡ (c.list l).selected
  pub stopped : (o.session.list list).started ≡ false
  pub started : (l : ℕ) → l ≢ list → (o.session.list l).started ≡ (c.list l).started
  pub odts : (l : ℕ) → (o.session.list l).odts ≡ (c.list l).odts
  pub entry_counts : (l k : ℕ) → ((o.session.list l).odt k).entries ≡ ((c.list l).odt k).entries
  pub samples : (l k : ℕ) → ((o.session.list l).odt k).store ≡ ((c.list l).odt k).store
  pub next : entry + 1 ≢ ((c.list list).odt odt).entries → o.session.pointer ≡ Points list odt (entry + 1)
  pub last : entry + 1 ≡ ((c.list list).odt odt).entries → o.session.pointer ≡ NoEntry
  pub rest : AllButBoth ThePointer TheLists c o.session
  pub memory : o.memory ≡ cal
  pub answer : o.answer ≡ 0xFF ∷ []

-- ---- E0 SET_DAQ_LIST_MODE: a mode is one more than its event
pub record SET_DAQ_LIST_MODE (p : List ℕ) (c : Session) (cal meas : List ℕ) (o : Done) : Type 0 where
  pub there : two p 2 < c.lists
  pub mode : (o.session.list (two p 2)).mode ≡ two p 4 + 1
  pub selected : (o.session.list (two p 2)).selected ≡ (c.list (two p 2)).selected
  pub stopped : (o.session.list (two p 2)).started ≡ false
  pub has : (o.session.list (two p 2)).odts ≡ (c.list (two p 2)).odts
  pub odts : (k : ℕ) → (o.session.list (two p 2)).odt k ≡ (c.list (two p 2)).odt k
  pub others : (l : ℕ) → l ≢ two p 2 → o.session.list l ≡ c.list l
  pub rest : AllBut TheLists c o.session
  pub memory : o.memory ≡ cal
  pub answer : o.answer ≡ 0xFF ∷ []

-- ---- DE START_STOP_DAQ_LIST; DD START_STOP_SYNCH
-- list x is y started or stopped, its packets dropped
pub record Switched (on : Bool) (x y : DaqList) : Type 0 where
  pub mode : y.mode ≡ x.mode
  pub started : y.started ≡ on
  pub has : y.odts ≡ x.odts
  pub entry_counts : (k : ℕ) → (y.odt k).entries ≡ (x.odt k).entries
  pub entries : (k e : ℕ) → (y.odt k).entry e ≡ (x.odt k).entry e
  pub dropped : (k : ℕ) → (y.odt k).store ≡ []

-- or as it is, but perhaps for its selection
pub record Unswitched (x y : DaqList) : Type 0 where
  pub mode : y.mode ≡ x.mode
  pub started : y.started ≡ x.started
  pub has : y.odts ≡ x.odts
  pub odts : (k : ℕ) → y.odt k ≡ x.odt k

-- mode 0 stops, 1 starts unless it runs, 2 selects; in an open session a list that is started runs; the answer has the number of its first ODT: that
-- of the ODTs of the lists before it
pub record START_STOP_DAQ_LIST (p : List ℕ) (c : Session) (cal meas : List ℕ) (o : Done) : Type 0 where
  pub there : two p 2 < c.lists
  pub stops : byte p 1 ≡ 0 → Switched false (c.list (two p 2)) (o.session.list (two p 2))
  pub starts : byte p 1 ≡ 1 → runs_in c (two p 2) ≡ false → Switched true (c.list (two p 2)) (o.session.list (two p 2))
  pub keeps : byte p 1 ≡ 1 → runs_in c (two p 2) ≡ true → o.session ≡ c
  pub switches : byte p 1 ≢ 2 → (o.session.list (two p 2)).selected ≡ (c.list (two p 2)).selected
  pub selects : byte p 1 ≡ 2 → (o.session.list (two p 2)).selected ≡ true
  pub stays : byte p 1 ≡ 2 → Unswitched (c.list (two p 2)) (o.session.list (two p 2))
  pub running : c.opened ≡ true → byte p 1 ≡ 1 → runs_in o.session (two p 2) ≡ true
  pub resting : byte p 1 ≡ 0 → runs_in o.session (two p 2) ≡ false
  pub others : (l : ℕ) → l ≢ two p 2 → o.session.list l ≡ c.list l
  pub rest : AllBut TheLists c o.session
  pub memory : o.memory ≡ cal
  pub answer : o.answer ≡ 0xFF ∷ first_of c (two p 2) ∷ []

-- mode 0 stops all, 1 starts the selected that do not run, 2 stops the selected; then none is selected. In an open session every list that was selected
-- runs once they are started
pub record START_STOP_SYNCH (p : List ℕ) (c : Session) (cal meas : List ℕ) (o : Done) : Type 0 where
  pub stops_all : byte p 1 ≡ 0 → (l : ℕ) → Switched false (c.list l) (o.session.list l)
  pub starts : byte p 1 ≡ 1 → (l : ℕ) → (c.list l).selected ≡ true → runs_in c l ≡ false → Switched true (c.list l) (o.session.list l)
  pub keeps : byte p 1 ≡ 1 → (l : ℕ) → (c.list l).selected ≡ true → runs_in c l ≡ true → Unswitched (c.list l) (o.session.list l)
  pub stops : byte p 1 ≡ 2 → (l : ℕ) → (c.list l).selected ≡ true → Switched false (c.list l) (o.session.list l)
  pub others : byte p 1 ≢ 0 → (l : ℕ) → (c.list l).selected ≡ false → Unswitched (c.list l) (o.session.list l)
  pub running : c.opened ≡ true → byte p 1 ≡ 1 → (l : ℕ) → l < c.lists → (c.list l).selected ≡ true → runs_in o.session l ≡ true
  pub resting_all : byte p 1 ≡ 0 → (l : ℕ) → runs_in o.session l ≡ false
  pub resting : byte p 1 ≡ 2 → (l : ℕ) → (c.list l).selected ≡ true → runs_in o.session l ≡ false
  pub deselected : (l : ℕ) → (o.session.list l).selected ≡ false
  pub rest : AllBut TheLists c o.session
  pub memory : o.memory ≡ cal
  pub answer : o.answer ≡ 0xFF ∷ []

-- ---- DA, D9
abbrev pub GET_DAQ_PROCESSOR_INFO : List ℕ → Session → List ℕ → List ℕ → Done → Type 0
GET_DAQ_PROCESSOR_INFO p c cal meas o = Tells c cal o (0xFF ∷ 0x11 ∷ c.lists ∷ 0x00 ∷ 0x02 ∷ 0x00 ∷ 0x00 ∷ 0x00 ∷ [])

abbrev pub GET_DAQ_RESOLUTION_INFO : List ℕ → Session → List ℕ → List ℕ → Done → Type 0
GET_DAQ_RESOLUTION_INFO p c cal meas o = Tells c cal o (0xFF ∷ 0x01 ∷ 0x04 ∷ 0x00 ∷ 0x00 ∷ 0x6A ∷ 0x01 ∷ 0x00 ∷ [])

-- ---- D6 FREE_DAQ: no lists, the pointer unset, the round begins at list 0
pub record FREE_DAQ (p : List ℕ) (c : Session) (cal meas : List ℕ) (o : Done) : Type 0 where
  pub freed : o.session.freed ≡ true
  pub none : o.session.lists ≡ 0
  pub nothing : (l : ℕ) → o.session.list l ≡ no_list
  pub pointer : o.session.pointer ≡ NoEntry
  pub round : o.session.round ≡ 0
  pub generator : o.session.generator ≡ c.generator
  pub wrong_keys : o.session.wrong_keys ≡ c.wrong_keys
  pub opened : o.session.opened ≡ c.opened
  pub locks : (r : Resource) → o.session.unlocked r ≡ c.unlocked r
  pub seed : o.session.seed ≡ c.seed
  pub mta : o.session.mta ≡ c.mta
  pub memory : o.memory ≡ cal
  pub answer : o.answer ≡ 0xFF ∷ []

-- ---- D5 ALLOC_DAQ: after FREE_DAQ, and once; so many lists, of which nothing is set and which have no ODTs
pub record ALLOC_DAQ (p : List ℕ) (c : Session) (cal meas : List ℕ) (o : Done) : Type 0 where
  pub freed : c.freed ≡ true
  pub none : c.lists ≡ 0
  pub some : 1 ≤ two p 2
  pub most : two p 2 ≤ 8
  pub count : o.session.lists ≡ two p 2
  pub nothing : (l : ℕ) → o.session.list l ≡ no_list
  pub rest : AllButBoth HowManyLists TheLists c o.session
  pub memory : o.memory ≡ cal
  pub answer : o.answer ≡ 0xFF ∷ []

-- ---- D4 ALLOC_ODT: once for a list, before any entries, and while no list is started; so many ODTs, and none of any list has entries or a packet
pub record ALLOC_ODT (p : List ℕ) (c : Session) (cal meas : List ℕ) (o : Done) : Type 0 where
  pub there : two p 2 < c.lists
  pub none : (c.list (two p 2)).odts ≡ 0
  pub no_entries : entries_taken c ≡ 0
  pub still : (l : ℕ) → l < c.lists → (c.list l).started ≡ false
  pub some : 1 ≤ byte p 4
  pub most : odts_taken c + byte p 4 ≤ 16
  pub count : (o.session.list (two p 2)).odts ≡ byte p 4
  pub others : (l : ℕ) → l ≢ two p 2 → (o.session.list l).odts ≡ (c.list l).odts
  pub nothing : (l k : ℕ) → (o.session.list l).odt k ≡ no_odt
  pub modes : (l : ℕ) → (o.session.list l).mode ≡ (c.list l).mode
  pub selected : (l : ℕ) → (o.session.list l).selected ≡ (c.list l).selected
  pub started : (l : ℕ) → (o.session.list l).started ≡ (c.list l).started
  pub rest : AllBut TheLists c o.session
  pub memory : o.memory ≡ cal
  pub answer : o.answer ≡ 0xFF ∷ []

-- ---- D3 ALLOC_ODT_ENTRY: once for an ODT, of a list that does not run; so many entries, each of size 0
pub record ALLOC_ODT_ENTRY (p : List ℕ) (c : Session) (cal meas : List ℕ) (o : Done) : Type 0 where
  pub there : two p 2 < c.lists
  pub in_list : byte p 4 < (c.list (two p 2)).odts
  pub none : ((c.list (two p 2)).odt (byte p 4)).entries ≡ 0
  pub still : runs_in c (two p 2) ≡ false
  pub some : 1 ≤ byte p 5
  pub most : entries_taken c + byte p 5 ≤ 128
  pub count : ((o.session.list (two p 2)).odt (byte p 4)).entries ≡ byte p 5
  pub empty : (e : ℕ) → ((o.session.list (two p 2)).odt (byte p 4)).entry e ≡ no_entry
  pub sample : ((o.session.list (two p 2)).odt (byte p 4)).store ≡ ((c.list (two p 2)).odt (byte p 4)).store
  pub other_odts : (k : ℕ) → k ≢ byte p 4 → (o.session.list (two p 2)).odt k ≡ (c.list (two p 2)).odt k
  pub mode : (o.session.list (two p 2)).mode ≡ (c.list (two p 2)).mode
  pub selected : (o.session.list (two p 2)).selected ≡ (c.list (two p 2)).selected
  pub started : (o.session.list (two p 2)).started ≡ (c.list (two p 2)).started
  pub odts : (o.session.list (two p 2)).odts ≡ (c.list (two p 2)).odts
  pub others : (l : ℕ) → l ≢ two p 2 → o.session.list l ≡ c.list l
  pub rest : AllBut TheLists c o.session
  pub memory : o.memory ≡ cal
  pub answer : o.answer ≡ 0xFF ∷ []

-- ---- all of them: of a way to do commands, in which R p c cal meas o says that packet p, in session c and with these memories, leads to o
abbrev pub Way : Type 1
Way = List ℕ → Session → List ℕ → List ℕ → Done → Type 0

-- of a command with that code that is answered FF, W stands
abbrev pub Law : Way → ℕ → Way → Type 0
Law R code W = (p : List ℕ) (c : Session) (cal meas : List ℕ) (o : Done) → R p c cal meas o → byte p 0 ≡ code → byte o.answer 0 ≡ 0xFF → W p c cal meas o

pub record Obeys (R : Way) : Type 0 where
  pub connect : Law R 0xFF CONNECT
  pub disconnect : Law R 0xFE DISCONNECT
  pub get_status : Law R 0xFD GET_STATUS
  pub synch : (p : List ℕ) (c : Session) (cal meas : List ℕ) (o : Done) → R p c cal meas o → byte p 0 ≡ 0xFC → SYNCH p c cal meas o
  pub get_seed : Law R 0xF8 GET_SEED
  pub unlock : Law R 0xF7 UNLOCK
  pub wrong_key : (p : List ℕ) (c : Session) (cal meas : List ℕ) (o : Done) → R p c cal meas o → byte p 0 ≡ 0xF7 → byte o.answer 0 ≡ 0xFE → byte o.answer 1 ≡ 0x25 → WRONG_KEY p c cal meas o
  pub set_mta : Law R 0xF6 SET_MTA
  pub upload : Law R 0xF5 UPLOAD
  pub short_upload : Law R 0xF4 SHORT_UPLOAD
  pub build_checksum : Law R 0xF3 BUILD_CHECKSUM
  pub download : Law R 0xF0 DOWNLOAD
  pub short_download : Law R 0xED SHORT_DOWNLOAD
  pub clear_daq_list : Law R 0xE3 CLEAR_DAQ_LIST
  pub set_daq_ptr : Law R 0xE2 SET_DAQ_PTR
  pub write_daq : Law R 0xE1 WRITE_DAQ
  pub set_daq_list_mode : Law R 0xE0 SET_DAQ_LIST_MODE
  pub start_stop_daq_list : Law R 0xDE START_STOP_DAQ_LIST
  pub start_stop_synch : Law R 0xDD START_STOP_SYNCH
  pub get_daq_processor_info : Law R 0xDA GET_DAQ_PROCESSOR_INFO
  pub get_daq_resolution_info : Law R 0xD9 GET_DAQ_RESOLUTION_INFO
  pub free_daq : Law R 0xD6 FREE_DAQ
  pub alloc_daq : Law R 0xD5 ALLOC_DAQ
  pub alloc_odt : Law R 0xD4 ALLOC_ODT
  pub alloc_odt_entry : Law R 0xD3 ALLOC_ODT_ENTRY
