-- The slave as the protocol speaks of it. No byte of the lent state has a place here.
use Rattle.std.specs.Prelude.{ℕ, zero, suc, ◌+◌, ◌<◌, Bool, true, false, cond, List, [], ◌∷◌, ◌++◌, eqb, ltb, leb, length, get_or, None}
use Rattle.line.specs.declared.Place.{Place}
use Rattle.state.specs.Layout.{odt_most}
use Rattle.words.specs.declared.Resource.{Resource}
use Rattle.words.specs.declared.Extension.{Extension}
use Rattle.words.specs.declared.Extension.TheVariants.{Calibration as CalibrationMemory}
use Rattle.words.specs.Values.{Seed}
use Rattle.words.specs.declared.Mta.{Mta}
use Rattle.words.specs.declared.Mta.TheVariants.{Unset}
use Rattle.words.specs.declared.Pointer.{Pointer}
use Rattle.words.specs.declared.Pointer.TheVariants.{Unset as NoEntry}

-- ---- functions of a number
-- f below n, and z from there on: what there is not reads as z
unfoldable pub up_to : {A : Type 0} → ℕ → A → (ℕ → A) → ℕ → A
up_to n z f j = cond (ltb j n) (f j) z

-- f, but x at i
unfoldable pub put : {A : Type 0} → ℕ → A → (ℕ → A) → ℕ → A
put i x f j = cond (eqb j i) x (f j)

-- ---- bytes: byte i of a packet or a memory, 0 if it is not there; and that each is below 256
abbrev pub byte : List ℕ → ℕ → ℕ
byte bs i = get_or bs i 0

abbrev pub Bytes : List ℕ → Type 0
Bytes bs = (i : ℕ) → byte bs i < 256

-- ---- what there is
-- a block of a memory; of size 0 it is none
pub record Entry : Type 0 where
  pub size : ℕ
  pub extension : Extension
  pub address : ℕ

-- an ODT: how many entries it has and these, and the packet of it that waits, without its number ([]: none)
pub record Odt : Type 0 where
  pub entries : ℕ
  pub entry : ℕ → Entry
  pub store : List ℕ

-- a list: its mode (0: never set, else 1 more than its event), whether it is selected and whether it was started, how many ODTs it
-- has, and these
pub record DaqList : Type 0 where
  pub mode : ℕ
  pub selected : Bool
  pub started : Bool
  pub odts : ℕ
  pub odt : ℕ → Odt

-- the generator runs on across sessions, and so does the count of wrong keys since power-up; the seed is out for one resource, or none is; whether the lists
-- were freed since the session began, how many there are, with which of them the round begins, and these
pub record Session : Type 0 where
  pub generator : ℕ
  pub wrong_keys : ℕ
  pub opened : Bool
  pub unlocked : Resource → Bool
  pub seed : Seed
  pub mta : Mta
  pub pointer : Pointer
  pub freed : Bool
  pub lists : ℕ
  pub round : ℕ
  pub list : ℕ → DaqList

-- beside it: the line's reader, the answer that waits ([]: none), the CTR, and whether the last frame was an answer
pub record Slave : Type 0 where
  pub session : Session
  pub place : Place
  pub message : List ℕ
  pub answer : List ℕ
  pub ctr : ℕ
  pub last_answer : Bool

-- ---- nothing set
abbrev pub no_entry : Entry
no_entry = record { size = 0; extension = CalibrationMemory; address = 0 }

abbrev pub no_odt : Odt
no_odt = record { entries = 0; entry = λ e. no_entry; store = [] }

abbrev pub no_list : DaqList
no_list = record { mode = 0; selected = false; started = false; odts = 0; odt = λ o. no_odt }

-- both resources locked, no seed, MTA or pointer, and no lists
abbrev pub blank : ℕ → ℕ → Bool → Session
blank g n o = record { generator = g; wrong_keys = n; opened = o; unlocked = λ r. false; seed = None; mta = Unset; pointer = NoEntry; freed = false; lists = 0; round = 0; list = λ l. no_list }

-- ---- what of the pool is taken
-- the ODTs of the first n lists: so many are before list n, and its first one has that number
unfoldable pub odts_before : (ℕ → DaqList) → ℕ → ℕ
odts_before f zero = 0
odts_before f (suc n) = odts_before f n + (f n).odts

abbrev pub first_of : Session → ℕ → ℕ
first_of c l = odts_before c.list l

abbrev pub odts_taken : Session → ℕ
odts_taken c = first_of c c.lists

-- the entries of a list's first n ODTs, of the first n lists, and of all
unfoldable pub entries_of : DaqList → ℕ → ℕ
entries_of x zero = 0
entries_of x (suc n) = entries_of x n + (x.odt n).entries

unfoldable pub entries_before : (ℕ → DaqList) → ℕ → ℕ
entries_before f zero = 0
entries_before f (suc n) = entries_before f n + entries_of (f n) (f n).odts

abbrev pub entries_taken : Session → ℕ
entries_taken c = entries_before c.list c.lists

-- ---- whether a list can be started, which a start asks, and whether it runs
-- the bytes of an ODT's first n entries, and of an ODT
unfoldable pub sizes_of : Odt → ℕ → ℕ
sizes_of y zero = 0
sizes_of y (suc n) = sizes_of y n + (y.entry n).size

abbrev pub bytes_in : Odt → ℕ
bytes_in y = sizes_of y y.entries

-- of a list's first n ODTs: their bytes, and whether each fits into a packet
unfoldable pub all_bytes : DaqList → ℕ → ℕ
all_bytes x zero = 0
all_bytes x (suc n) = all_bytes x n + bytes_in (x.odt n)

unfoldable pub each_fits : DaqList → ℕ → Bool
each_fits x zero = true
each_fits x (suc n) = cond (each_fits x n) (leb (bytes_in (x.odt n)) (odt_most n)) false

-- its mode was set, some entry is above size 0, no ODT has too many bytes
unfoldable pub fits : DaqList → Bool
fits x =
    cond (eqb x.mode 0) false
    (cond (eqb (all_bytes x x.odts) 0) false
    (each_fits x x.odts))

-- a session is open, the list was started, and it has an ODT
unfoldable pub runs : Bool → DaqList → Bool
runs opened x = cond opened (cond x.started (ltb 0 x.odts) false) false

abbrev pub runs_in : Session → ℕ → Bool
runs_in c l = runs c.opened (c.list l)

-- some of the first n lists runs
unfoldable pub some_runs : Session → ℕ → Bool
some_runs c zero = false
some_runs c (suc n) = cond (some_runs c n) true (runs_in c n)

-- some of the first n lists was started
unfoldable pub some_started : Session → ℕ → Bool
some_started c zero = false
some_started c (suc n) = cond (some_started c n) true (c.list n).started

-- ---- an answer waits
abbrev pub has_answer : Slave → Bool
has_answer v = ltb 0 (length v.answer)

-- ---- packets: of an ODT one waits, of some of a list's first n ODTs, of some of all
abbrev pub has_packet : Odt → Bool
has_packet y = ltb 0 (length y.store)

unfoldable pub some_packet : DaqList → ℕ → Bool
some_packet x zero = false
some_packet x (suc n) = cond (some_packet x n) true (has_packet (x.odt n))

-- a list still has an unsent packet
abbrev pub unsent : DaqList → Bool
unsent x = some_packet x x.odts

-- ---- what waits of a list whose first ODT has that number, in the order in which it leaves: each ODT's number and what was captured, if something was
abbrev pub in_store : ℕ → Odt → List (List ℕ)
in_store k y = cond (has_packet y) ((k ∷ y.store) ∷ []) []

-- of the n ODTs from o on
unfoldable pub in_stores : ℕ → DaqList → ℕ → ℕ → List (List ℕ)
in_stores first x o zero = []
in_stores first x o (suc n) = in_store (first + o) (x.odt o) ++ in_stores first x (o + 1) n

unfoldable pub waiting : Bool → ℕ → DaqList → List (List ℕ)
waiting opened first x = cond (runs opened x) (in_stores first x 0 x.odts) []

abbrev pub waiting_in : Session → ℕ → List (List ℕ)
waiting_in c l = waiting c.opened (first_of c l) (c.list l)
