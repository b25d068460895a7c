-- Runs of ours with commands between two that belong together: GET_SEED and UNLOCK, SHORT_UPLOAD and UPLOAD, and the allocations of a plan, asked by packets
-- with any reserved bytes and bytes behind. Every premise is met, and the answers show that the commands between were heard. Assumes nothing.
use Rattle.std.proofs.Common.{◌≡◌, ℕ, ◌^◌, ◌<◌, inl, ⊎_elim, Bool, true, false, ◌&&◌, List, [], ◌∷◌, ◌++◌, map, take, drop, ltb, refl, sym, ap, subst, arith, lit<, lit≤, ltb-true, Option, Some}
use Rattle.std.proofs.lemmas.Bool.{and_parts}
use Rattle.state.specs.State.{consistent, bit_of}
use Rattle.words.specs.declared.Resource.TheVariants.{Calibration, Lists}
use Rattle.model.specs.Model.{Bytes, has_answer}
use Rattle.model.specs.View.{session_of, view_of}
use Rattle.demands.specs.Slave.{ours}
use Rattle.demands.specs.Runs.{Call, Byte, Event, SendingSlot, Elsewhere, run, frames, LentBytes}
use Rattle.demands.specs.Heard.{packet_ended, Commands, of_answered}
use Rattle.demands.specs.Between.{changes_seed, changes_mta, changes_pool, Without}
use Rattle.demands.specs.Waiting.{packet_read}
use Rattle.demands.specs.Memory.{Brings}
use Rattle.demands.specs.Keys.{key_to}
use Rattle.demands.specs.Pool.{Plan, InPool, EachOnce, HasOdts, OdtAt, HasEntries, Request, Freed, SomeLists, SomeOdts, SomeEntries, Asks, asked}
use Rattle.shown.specs.Exchange.{asks, begun, last_byte, reached, meanwhile, connect, synch, get_status, seed_of_calibration, seed_of_lists, key_of_calibration, mta_to, upload, upload_first, pair, fetching_first, listable, alloc_lists, alloc_odts, on_event0, start, select_list}
use Rattle.shown.proofs.Computed.{computed}
use Rattle.shown.proofs.Never.{never, never_so}
use Rattle.shown.proofs.Taken.{low, low_bytes}

-- ---- whether what is lent to a run is of bytes can be computed
unfoldable low_in : List Call → Bool
low_in [] = true
low_in (Byte cal meas b ∷ cs) = low cal && (low meas && (ltb b 256 && low_in cs))
low_in (Event cal meas event clock ∷ cs) = low cal && (low meas && low_in cs)
low_in (SendingSlot out ∷ cs) = low_in cs
low_in (Elsewhere ∷ cs) = low_in cs

lent_so : (cs : List Call) → low_in cs ≡ true → LentBytes cs
unfolding low_in
lent_so [] e = tt
lent_so (Byte cal meas b ∷ cs) e =
    let x = and_parts (low cal) (low meas && (ltb b 256 && low_in cs)) e in
    let y = and_parts (low meas) (ltb b 256 && low_in cs) x.1 in
    let z = and_parts (ltb b 256) (low_in cs) y.1 in (low_bytes cal x.0, low_bytes meas y.0, ltb-true b 256 z.0, lent_so cs z.1)
lent_so (Event cal meas event clock ∷ cs) e =
    let x = and_parts (low cal) (low meas && low_in cs) e in
    let y = and_parts (low meas) (low_in cs) x.1 in (low_bytes cal x.0, low_bytes meas y.0, lent_so cs y.1)
lent_so (SendingSlot out ∷ cs) e = lent_so cs e
lent_so (Elsewhere ∷ cs) e = lent_so cs e

-- ---- after calls cs from state s command p comes to its end: what there is to know, with the answers that left meanwhile
record Come : Type 0 where
  kept : Bool
  lent : Bool
  ended : Option (List ℕ)
  opened : Bool
  waits : Bool
  answers : List (List ℕ)

abbrev answered : (List ℕ → List ℕ → Bool) → List ℕ → List ℕ → List ℕ → ℕ → Bool
answered changes s cal meas b = of_answered changes (ours.receive s cal meas b) s b

unfoldable comes : (List ℕ → List ℕ → Bool) → List ℕ → List Call → List ℕ → Come
comes changes s cs p = record {
  kept = never (answered changes) ours s cs;
  lent = low_in cs && ltb (last_byte p) 256;
  ended = packet_ended (run ours s cs) (last_byte p);
  opened = (session_of (run ours s cs)).opened;
  waits = has_answer (view_of (run ours s cs));
  answers = map packet_read (frames ours s cs);
}

unfoldable heard : List ℕ → List (List ℕ) → Come
heard p said = record { kept = true; lent = true; ended = Some p; opened = true; waits = false; answers = said }

-- nothing was changed, and it is heard
pub record Comes (changes : List ℕ → List ℕ → Bool) (s : List ℕ) (cs : List Call) (p : List ℕ) (said : List (List ℕ)) : Type 0 where
  pub kept : Without changes ours s cs
  pub lent : LentBytes cs × (last_byte p < 256)
  pub command : Commands (run ours s cs) (last_byte p) p
  pub answers : map packet_read (frames ours s cs) ≡ said

comes_so : (changes : List ℕ → List ℕ → Bool) (s : List ℕ) (cs : List Call) (p : List ℕ) (said : List (List ℕ)) → comes changes s cs p ≡ heard p said → Comes changes s cs p said
unfolding comes heard
comes_so changes s cs p said k = record {
  kept = never_so (answered changes) ours s cs (ap (λ x. x.kept) k);
  lent = let w = and_parts (low_in cs) (ltb (last_byte p) 256) (ap (λ x. x.lent) k) in (lent_so cs w.0, ltb-true (last_byte p) 256 w.1);
  command = record { ends = ap (λ x. x.ended) k; opened = ap (λ x. x.opened) k; free = ap (λ x. x.waits) k };
  answers = ap (λ x. x.answers) k;
}

-- ---- between GET_SEED and UNLOCK: SYNCH, GET_STATUS, UPLOAD without an MTA, refused FE 29, SET_MTA, and GET_SEED of a mode that there is not, refused FE 22
abbrev seed_begun : List ℕ
seed_begun = reached ours (asks [] [] connect ++ begun [] [] seed_of_calibration)

abbrev seed_given : List ℕ
seed_given = (ours.receive seed_begun [] [] (last_byte seed_of_calibration)).state

abbrev until_key : List Call
until_key = meanwhile [] (synch ∷ get_status ∷ upload 1 ∷ mta_to 0 0 ∷ (0xF8 ∷ 2 ∷ 1 ∷ []) ∷ []) key_of_calibration

abbrev until_key_said : List (List ℕ)
until_key_said = (0xFF ∷ 4 ∷ 0x21 ∷ 0x20 ∷ 0x04 ∷ 0x00 ∷ []) ∷ (0xFE ∷ 0x00 ∷ []) ∷ (0xFF ∷ 0 ∷ 5 ∷ 0 ∷ 0 ∷ 0 ∷ []) ∷ (0xFE ∷ 0x29 ∷ []) ∷ (0xFF ∷ []) ∷ (0xFE ∷ 0x22 ∷ []) ∷ []

pub seed_opens_met : (consistent seed_begun ≡ true) × ((session_of seed_begun).generator < 2 ^ 32) × ((session_of seed_begun).wrong_keys < 3) × Commands seed_begun (last_byte seed_of_calibration) seed_of_calibration
    × (take 3 seed_of_calibration ≡ 0xF8 ∷ 0x00 ∷ bit_of Calibration ∷ []) × ((session_of seed_begun).unlocked Calibration ≡ false)
    × Comes changes_seed seed_given until_key key_of_calibration until_key_said × (take 6 key_of_calibration ≡ 0xF7 ∷ 0x04 ∷ key_to Calibration (drop 2 (view_of seed_given).answer))
unfolding computed never low_in low comes heard
seed_opens_met = (refl, lit< tt, lit< tt, record { ends = refl; opened = refl; free = refl }, refl, refl, comes_so changes_seed seed_given until_key key_of_calibration until_key_said refl, refl)

-- ---- between SHORT_UPLOAD and UPLOAD: GET_SEED, which gives a seed, UPLOAD of 64 bytes and SET_MTA to a memory that there is not, both refused FE 22
abbrev short_begun : List ℕ
short_begun = reached ours fetching_first

abbrev short_done : List ℕ
short_done = (ours.receive short_begun pair [] (last_byte upload_first)).state

abbrev until_upload : List Call
until_upload = meanwhile pair (seed_of_lists ∷ upload 64 ∷ (0xF6 ∷ 0 ∷ 0 ∷ 7 ∷ 0 ∷ 0 ∷ 0 ∷ 0 ∷ []) ∷ []) (upload 1)

abbrev until_upload_said : List (List ℕ)
until_upload_said = (0xFF ∷ 5 ∷ []) ∷ (0xFF ∷ 4 ∷ 0x21 ∷ 0x20 ∷ 0x04 ∷ 0x00 ∷ []) ∷ (0xFE ∷ 0x22 ∷ []) ∷ (0xFE ∷ 0x22 ∷ []) ∷ []

pub goes_on_met : (consistent short_begun ≡ true) × Brings ours 0xF4 short_begun pair [] (last_byte upload_first) upload_first (5 ∷ [])
    × Comes changes_mta short_done until_upload (upload 1) until_upload_said
    × Brings ours 0xF5 (run ours short_done until_upload) pair [] (last_byte (upload 1)) (upload 1) (6 ∷ [])
unfolding computed never low_in low comes heard
goes_on_met = (
  refl,
  record { command = record { ends = refl; opened = refl; free = refl }; code = refl; answer = refl },
  comes_so changes_mta short_done until_upload (upload 1) until_upload_said refl,
  record { command = record { ends = refl; opened = refl; free = refl }; code = refl; answer = refl },
)

-- ---- a plan: one list with one ODT, which has all 128 entries
abbrev plan : Plan
plan = record { lists = 1; odts = λ l. 1; entries = λ l o. 128 }

plan_fits : InPool plan
plan_fits = record { some = lit≤ tt; lists = lit≤ tt; odts = lit≤ tt; entries = lit≤ tt }

list_once : EachOnce (HasOdts plan) (0 ∷ [])
list_once = record {
  only = λ l i. ⊎_elim (λ e. (omega arith, lit≤ tt)) (λ none. absurd none) i;
  every = λ l h. inl (omega (arith, h.0));
  once = (λ none. none, tt);
}

abbrev first_odt : OdtAt
first_odt = record { list = 0; odt = 0 }

nought : (n : ℕ) → n < 1 → n ≡ 0
nought n h = omega arith

odt_once : EachOnce (HasEntries plan) (first_odt ∷ [])
odt_once = record {
  only = λ x i. ⊎_elim (λ e. subst (HasEntries plan) (sym e) (lit< tt, lit< tt, lit≤ tt)) (λ none. absurd none) i;
  every = λ x h. inl (λ t. record { list = nought x.list h.0 t; odt = nought x.odt h.1 t });
  once = (λ none. none, tt);
}

-- a packet that asks for something, and before it commands that are answered so
record Asking : Type 0 where
  before : List (List ℕ)
  said : List (List ℕ)
  packet : List ℕ
  request : Request

-- of list 0 a selection, refused FE 22: there is none yet; ODTs, refused FE 29, and SYNCH; lists again, refused FE 29, and SET_DAQ_LIST_MODE; a start, refused
-- FE 2A, a selection, and GET_SEED. Reserved bytes are 55, and a byte AA lies behind each packet
abbrev askings : List Asking
askings =
    record { before = select_list 0 ∷ []; said = (0xFE ∷ 0x22 ∷ []) ∷ []; packet = 0xD6 ∷ 0xAA ∷ []; request = Freed }
    ∷ record { before = alloc_odts 0 1 ∷ synch ∷ []; said = (0xFF ∷ []) ∷ (0xFE ∷ 0x29 ∷ []) ∷ (0xFE ∷ 0x00 ∷ []) ∷ []; packet = 0xD5 ∷ 0x55 ∷ 1 ∷ 0 ∷ 0xAA ∷ []; request = SomeLists 1 }
    ∷ record { before = alloc_lists 1 ∷ on_event0 0 ∷ []; said = (0xFF ∷ []) ∷ (0xFE ∷ 0x29 ∷ []) ∷ (0xFF ∷ []) ∷ []; packet = 0xD4 ∷ 0x55 ∷ 0 ∷ 0 ∷ 1 ∷ 0xAA ∷ []; request = SomeOdts 0 1 }
    ∷ record {
      before = start 0 ∷ select_list 0 ∷ seed_of_calibration ∷ [];
      said = (0xFF ∷ []) ∷ (0xFE ∷ 0x2A ∷ []) ∷ (0xFF ∷ 0 ∷ []) ∷ (0xFF ∷ 4 ∷ 0x01 ∷ 0x06 ∷ 0x08 ∷ 0x04 ∷ []) ∷ [];
      packet = 0xD3 ∷ 0x55 ∷ 0 ∷ 0 ∷ 0 ∷ 128 ∷ 0xAA ∷ [];
      request = SomeEntries first_odt 128;
    }
    ∷ []

abbrev calls : Asking → List Call
calls x = meanwhile [] x.before x.packet

abbrev next : List ℕ → Asking → List ℕ
next s x = (ours.receive (run ours s (calls x)) [] [] (last_byte x.packet)).state

abbrev Met : List ℕ → List Asking → Type 0
Met s [] = Unit {0}
Met s (x ∷ xs) = Comes changes_pool s (calls x) x.packet x.said × Met (next s x) xs

-- computed in one run
unfoldable come_all : List ℕ → List Asking → List Come
come_all s [] = []
come_all s (x ∷ xs) = comes changes_pool s (calls x) x.packet ∷ come_all (next s x) xs

abbrev first : Come → List Come → Come
first d [] = d
first d (x ∷ xs) = x

abbrev rest : List Come → List Come
rest [] = []
rest (x ∷ xs) = xs

met_so : (xs : List Asking) (s : List ℕ) → come_all s xs ≡ map (λ x. heard x.packet x.said) xs → Met s xs
unfolding come_all
met_so [] s k = tt
met_so (x ∷ xs) s k = (comes_so changes_pool s (calls x) x.packet x.said (ap (first (heard [] [])) k), met_so xs (next s x) (ap rest k))

abbrev EachAsks : List Asking → Type 0
EachAsks [] = Unit {0}
EachAsks (x ∷ xs) = Asks x.packet x.request × EachAsks xs

-- every premise of the promise, and those of each of its commands
pub whole_pool_met : InPool plan × EachOnce (HasOdts plan) (0 ∷ []) × EachOnce (HasEntries plan) (first_odt ∷ [])
    × (consistent (reached ours listable) ≡ true) × Bytes (reached ours listable) × ((session_of (reached ours listable)).unlocked Lists ≡ true)
    × (asked plan (0 ∷ []) (first_odt ∷ []) ≡ map (λ x. x.request) askings) × EachAsks askings × Met (reached ours listable) askings
unfolding computed never low_in low comes heard come_all
whole_pool_met = (
  plan_fits,
  list_once,
  odt_once,
  refl,
  low_bytes (reached ours listable) refl,
  refl,
  refl,
  (refl, ((refl, refl, lit≤ tt), ((refl, refl, refl, lit≤ tt), ((refl, refl, refl, refl, lit≤ tt), tt)))),
  met_so askings (reached ours listable) refl,
)
