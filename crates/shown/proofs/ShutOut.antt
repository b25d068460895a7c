-- Each wrong slave fails the demand that is to shut it out: one run of it is computed. Assumes nothing.
use Rattle.std.proofs.Common.{◌≡◌, ℕ, ◌+◌, ◌-◌, ◌≤◌, Bool, true, false, cond, List, [], ◌∷◌, ◌++◌, length, get_or, replicate, Option, Some, None, Ok, refl, sym, ap, ◌∙◌, subst, arith, lit<, lit≤}
use Rattle.std.proofs.Math.Option.{none as no_fault, some as fault_of}
use Rattle.line.specs.Message.{longest, room}
use Rattle.line.specs.Number.{outcome_number}
use Rattle.line.specs.Run as line
use Rattle.line.specs.Wire.{heard}
use Rattle.line.specs.declared.Place.TheVariants.{Outside}
use Rattle.state.specs.Layout.{address_at, session_at}
use Rattle.state.specs.Bytes.{block}
use Rattle.state.specs.State.{consistent}
use Rattle.words.specs.Number.{received_number, evented_value}
use Rattle.session.specs.PowerUp.{powered}
use Rattle.words.specs.declared.Resource.TheVariants.{Calibration}
use Rattle.words.specs.declared.Extension.TheVariants.{Calibration as CalibrationMemory}
use Rattle.words.specs.declared.Mta.{Mta}
use Rattle.words.specs.declared.Mta.TheVariants.{Unset, At}
use Rattle.model.specs.Calls.{turn_in, packet_for}
use Rattle.model.specs.Model.{byte, has_answer}
use Rattle.model.specs.View.{session_of, view_of}
use Rattle.views.specs.Commands.{TheRound, Obeys}
use Rattle.demands.specs.Slave.{AnySlave, ours}
use Rattle.demands.specs.Runs.{Byte, Event, SendingSlot}
use Rattle.demands.specs.Heard.{packet_ended}
use Rattle.demands.specs.Demand1.{Demand1}
use Rattle.demands.specs.Demand2.{Demand2}
use Rattle.demands.specs.Wire.{ReadsBack}
use Rattle.demands.specs.Memory.{WritesTo, by_download, by_short_download, ReadsFrom, by_upload, by_short_upload}
use Rattle.demands.specs.Demand3.{Demand3}
use Rattle.demands.specs.Obeyed.{Obeyed}
use Rattle.demands.specs.Checked.{Checked}
use Rattle.views.specs.OnTheLine.{comes_to}
use Rattle.demands.specs.CallNumbers.{CallNumbers}
use Rattle.demands.specs.Shows.{Shows}
use Rattle.demands.specs.StaysShut.{StaysShut}
use Rattle.demands.specs.Slices.{BySlices}
use Rattle.session.specs.Slice.{receive_bytes_of}
use Rattle.shown.specs.Wrong.{refuses_always, silent, only_connects, always_ff, stores_nothing, obeys_damaged, reads_escaped, all_at_once, slots_up_to, sums_escaped, never_samples, invents_counts, invents_missed, stamps_each, keeps_freed, begins_behind, moves_after_refusal, leaves_mta, load_leaves_mta, loads_at_mta, reads_late, opens_both, connect_clears, shuts_first, drops_behind}
use Rattle.shown.specs.Exchange.{slot, says, asks, ask_all, begun, last_byte, device, answering, reached, connect, synch, seed_of_calibration, key_of_calibration, tries, mta_to, upload, upload_first, download_one, download_first, downloading, uploading, pair, loading_first, fetching_first, reading_on, listable, free_lists, alloc_lists, alloc_entries, measuring, freed_again}
use Rattle.shown.proofs.Computed.{computed, told}
use Rattle.shown.proofs.Taken.{low, asked, heard_so, done_so, refused_so, took, taken_so, left, taken_so_lem}

-- CONNECT is answered FE
pub refuses_always_fails : Checked refuses_always → ⊥
unfolding computed
refuses_always_fails d =
    let e : ◌≡◌ {A = ℕ} 0xFE 0xFF = d.connect_done (reached refuses_always (begun [] [] connect)) [] [] (last_byte connect) connect refl refl refl refl refl (lit≤ tt) refl in omega arith

-- CONNECT is answered, and SYNCH is not
pub silent_fails : Demand3 silent → ⊥
unfolding computed
silent_fails d =
    let e : ◌≡◌ {A = ℕ} 2 1 = ap received_number (d.answered (reached silent (asks [] [] connect)) (begun [] [] synch) [] [] (last_byte synch) [] 0 synch refl (lit≤ tt) (lit≤ tt) refl refl refl).number
    in omega arith

-- CONNECT is answered, and GET_SEED refused: no lock opens, so that case 8 is out of reach
pub only_connects_fails : Demand2 only_connects → ⊥
unfolding computed
only_connects_fails d =
    let s : List ℕ = reached only_connects (asks [] [] connect ++ begun [] [] seed_of_calibration) in
    let e : ◌≡◌ {A = ℕ} 0xFE 0xFF = ap (λ a. get_or a 0 0) (d.keys.seed_opens s [] [] (last_byte seed_of_calibration) seed_of_calibration Calibration refl (lit< tt) (lit< tt) (record { ends = refl; opened = refl; free = refl }) refl refl).answer
    in omega arith

-- CONNECT with a checksum one too high is answered
pub obeys_damaged_fails : CallNumbers obeys_damaged → ⊥
unfolding computed comes_to
obeys_damaged_fails d =
    let e : ◌≡◌ {A = ℕ} 1 5 = (d.received (reached obeys_damaged (begun [] [] connect)) [] [] (last_byte connect + 1) refl).number in omega arith

-- CONNECT with one byte more, 9A: its checksum is 9C, and 9E over escaped bytes; the one is refused, the other heeded
pub reads_escaped_fails : CallNumbers reads_escaped → ⊥
unfolding computed comes_to
reads_escaped_fails d =
    let s : List ℕ = reached reads_escaped (begun [] [] (0xFF ∷ 0 ∷ 0x9A ∷ [])) in
    let right : ◌≡◌ {A = ℕ} 5 1 = (d.received s [] [] 0x9C refl).number in omega arith

pub reads_escaped_heeds : CallNumbers reads_escaped → ⊥
unfolding computed comes_to
reads_escaped_heeds d =
    let s : List ℕ = reached reads_escaped (begun [] [] (0xFF ∷ 0 ∷ 0x9A ∷ [])) in
    let wrong : ◌≡◌ {A = ℕ} 1 5 = (d.received s [] [] 0x9E refl).number in omega arith

-- ---- UPLOAD after DOWNLOAD, SHORT_UPLOAD after SHORT_DOWNLOAD
-- how a state stands at a byte, and what two commands come to, the second with the memory that the first left
record Standing : Type 0 where
  sound : Bool
  ended : Option (List ℕ)
  opened : Bool
  waiting : Bool
  place : Mta

record Exchanged : Type 0 where
  before : Standing
  first : List ℕ
  between : Standing
  second : List ℕ

standing : List ℕ → ℕ → Standing
standing s b = record { sound = consistent s; ended = packet_ended s b; opened = (session_of s).opened; waiting = has_answer (view_of s); place = (session_of s).mta }

-- p, lent memory cal, and q, lent what p left
exchanged : AnySlave → List ℕ → List ℕ → List ℕ → List ℕ → List ℕ → Exchanged
exchanged v cal s t p q =
    record {
      before = standing s (last_byte p);
      first = (view_of (v.receive s cal [] (last_byte p)).state).answer;
      between = standing t (last_byte q);
      second = (view_of (v.receive t (v.receive s cal [] (last_byte p)).cal [] (last_byte q)).state).answer;
    }

-- both commands are heard, with the MTA at x and at y; the first is answered FF, the second a
ready : List ℕ → Mta → Standing
ready p x = record { sound = true; ended = Some p; opened = true; waiting = false; place = x }

answers : List ℕ → List ℕ → Mta → Mta → List ℕ → Exchanged
answers p q x y a = record { before = ready p x; first = 0xFF ∷ []; between = ready q y; second = a }

-- one byte is written to the first place, and read there
given_back : (v : AnySlave) (cal s t p q : List ℕ) (x y : Mta) (a : List ℕ) (from : ℕ) → Demand2 v → exchanged v cal s t p q ≡ answers p q x y a
    → ((session_of s).mta ≡ x → WritesTo p (session_of s) 0 from) → byte p 1 ≡ 1 → ((session_of t).mta ≡ y → ReadsFrom q (session_of t) 0) → byte q 1 ≡ 1 → a ≡ 0xFF ∷ block p from 1
unfolding standing exchanged ready answers
given_back v cal s t p q x y a from d e writes one reads one' =
    sym (ap (λ z. z.second) e)
    ∙ (d.memory.gives_back s t cal [] [] (last_byte p) (last_byte q) p q from 0 1 (ap (λ z. z.before.sound) e) (ap (λ z. z.between.sound) e)
    (record { command = record { ends = ap (λ z. z.before.ended) e; opened = ap (λ z. z.before.opened) e; free = ap (λ z. z.before.waiting) e }; place = writes (ap (λ z. z.before.place) e); count = one })
    (ap (λ z. z.first) e)
    (record { command = record { ends = ap (λ z. z.between.ended) e; opened = ap (λ z. z.between.opened) e; free = ap (λ z. z.between.waiting) e }; place = reads (ap (λ z. z.between.place) e); count = one' })).0

-- DOWNLOAD of 7 to the first place of a memory that holds 0, and UPLOAD of it
first_given : (v : AnySlave) (a : List ℕ) → Demand2 v
    → exchanged v (0 ∷ []) (reached v (downloading 7 (0 ∷ []))) (reached v (uploading (0 ∷ []) 1)) (download_one 7) (upload 1) ≡ answers (download_one 7) (upload 1) (At CalibrationMemory 0) (At CalibrationMemory 0) a
    → a ≡ 0xFF ∷ 7 ∷ []
first_given v a d e = given_back v (0 ∷ []) (reached v (downloading 7 (0 ∷ []))) (reached v (uploading (0 ∷ []) 1)) (download_one 7) (upload 1) (At CalibrationMemory 0) (At CalibrationMemory 0) a 2 d e (by_download refl) refl (by_upload refl) refl

-- its answer to UPLOAD has no byte
pub always_ff_fails : Demand2 always_ff → ⊥
unfolding computed standing exchanged ready answers
always_ff_fails d = let e : ◌≡◌ {A = ℕ} 1 2 = ap length (first_given always_ff (0xFF ∷ []) d refl) in omega arith

-- its answer to UPLOAD has the byte that was there before
pub stores_nothing_fails : Demand2 stores_nothing → ⊥
unfolding computed standing exchanged ready answers
stores_nothing_fails d = let e : ◌≡◌ {A = ℕ} 0 7 = ap (λ a. get_or a 1 0) (first_given stores_nothing (0xFF ∷ 0 ∷ []) d refl) in omega arith

-- SHORT_DOWNLOAD of 7 to the first of two places, while the MTA is at the second, and SHORT_UPLOAD of it: the byte that was there before
pub loads_at_mta_fails : Demand2 loads_at_mta → ⊥
unfolding computed standing exchanged ready answers
loads_at_mta_fails d =
    let s : List ℕ = reached loads_at_mta (loading_first (mta_to 1 0 ∷ []) 7) in
    let t : List ℕ = reached loads_at_mta fetching_first in
    let e : ◌≡◌ {A = ℕ} 5 7 = ap (λ a. get_or a 1 0)
    (given_back loads_at_mta pair s t (download_first 7) upload_first (At CalibrationMemory 1) Unset (0xFF ∷ 5 ∷ []) 8 d refl (λ _. by_short_download refl refl refl) refl (λ _. by_short_upload refl (lit≤ tt) refl refl) refl)
    in omega arith

-- ---- slots
-- an answer and a sample wait, and one slot sends all three frames
pub all_at_once_fails : Demand2 all_at_once → ⊥
unfolding computed slots_up_to
all_at_once_fails d =
    let e : ◌≡◌ {A = ℕ} 19 7 = ap (λ fs. length (get_or fs 0 [])) (d.wire.numbers (reached all_at_once (measuring (5 ∷ []))) (Event [] (5 ∷ []) 0 0 ∷ SendingSlot (replicate (room + 19) 0) ∷ []) refl (lit< tt)) in omega arith

-- a frame that reads back carries the packet whose turn it was
read_back : (f s p : List ℕ) → packet_for (turn_in (view_of s)) (view_of s) ≡ p ∷ [] → ReadsBack (f ∷ []) s → line.run_of Outside (replicate longest 0) f ≡ heard Outside (replicate longest 0) (view_of s).ctr p
read_back f s p e r = subst (λ q. line.run_of Outside (replicate longest 0) f ≡ heard Outside (replicate longest 0) (view_of s).ctr q) (ap (λ ps. get_or ps 0 []) (sym r.2 ∙ e)) (r.3 Outside (replicate longest 0) (lit≤ tt))

-- the frame of FF 9A reads as one with a wrong checksum
pub sums_escaped_fails : Demand2 sums_escaped → ⊥
unfolding computed
sums_escaped_fails d =
    let s : List ℕ = reached sums_escaped (asks [] [] connect ++ says (0x9A ∷ []) [] upload_first) in
    let e : ◌≡◌ {A = ℕ} 5 1 = ap (λ r. outcome_number (get_or r.outcomes 6 (Ok None))) (read_back (0x9A ∷ 2 ∷ 1 ∷ 0xFF ∷ 0x9B ∷ 1 ∷ 0x9E ∷ []) s (0xFF ∷ 0x9A ∷ []) refl (d.wire.reads_back s (replicate room 0) refl (lit≤ tt))) in omega arith

-- ---- events
-- list 0 is sampled, and no packet waits
pub never_samples_fails : Demand2 never_samples → ⊥
unfolding computed
never_samples_fails d =
    let e : ◌≡◌ {A = ℕ} 0 2 = ap length (d.gains_sample (reached never_samples (measuring (5 ∷ []))) [] (5 ∷ []) 0 0 0 refl (lit≤ tt) refl) in omega arith

-- no list runs, and one is said to be sampled
pub invents_counts_fails : Shows invents_counts → ⊥
unfolding computed
invents_counts_fails d = let e : ◌≡◌ {A = ℕ} 256 0 = ap evented_value (d.samples (powered 1) [] [] 0 0 refl (lit≤ tt)).told in omega arith

-- and one missed
pub invents_missed_fails : Shows invents_missed → ⊥
unfolding computed
invents_missed_fails d = let e : ◌≡◌ {A = ℕ} 1 0 = ap evented_value (d.samples (powered 1) [] [] 0 0 refl (lit≤ tt)).told in omega arith

-- list 0 is sampled, and the packet of its second ODT has two bytes more
pub stamps_each_fails : Demand2 stamps_each → ⊥
unfolding computed
stamps_each_fails d =
    let e : ◌≡◌ {A = ℕ} 4 2 = ap (λ ps. length (get_or ps 1 [])) (d.gains_sample (reached stamps_each (measuring (5 ∷ []))) [] (5 ∷ []) 0 0 0 refl (lit≤ tt) refl) in omega arith

-- ---- the pool
-- one entry is written and freed; then 128 are answered FE 30, though no check applies
pub keeps_freed_fails : Checked keeps_freed → ⊥
unfolding computed told asked heard_so
keeps_freed_fails d =
    let p : List ℕ = alloc_entries 0 0 128 in
    let e : ◌≡◌ {A = ℕ} 0xFE 0xFF = done_so keeps_freed (reached keeps_freed (freed_again ++ begun [] [] p)) [] p no_fault (0xFE ∷ 0x30 ∷ []) refl refl d in omega arith

-- after FREE_DAQ two lists are allocated, and the round begins with the second
pub begins_behind_fails : Obeys (Obeyed begins_behind) → ⊥
unfolding computed low took taken_so
begins_behind_fails d =
    let p : List ℕ = alloc_lists 2 in
    let s : List ℕ = reached begins_behind (listable ++ (asks [] [] free_lists ++ begun [] [] p)) in
    let law = d.alloc_daq p (session_of s) [] [] (left begins_behind s [] p) (taken_so_lem begins_behind s [] p (lit< tt) refl) refl refl in
    let e : ◌≡◌ {A = ℕ} 1 0 = law.rest TheRound (λ n. cc) (λ n. cc) in omega arith

-- ---- slips
-- refused for want of memory, UPLOAD of 1 moves the MTA from 0 to 1
pub moves_after_refusal_fails : Demand1 moves_after_refusal → ⊥
unfolding computed
moves_after_refusal_fails d =
    let e : ◌≡◌ {A = ℕ} 1 0 = ap (λ s. get_or s (address_at - session_at) 0) (d.refusals.refused (reached moves_after_refusal (uploading [] 1)) [] [] (last_byte (upload 1)) refl (record { answered = refl; begins = refl }) refl).state.back
    in omega arith

-- of two bytes SHORT_UPLOAD reads the first, and UPLOAD of one more the first again
pub leaves_mta_fails : Demand2 leaves_mta → ⊥
unfolding computed
leaves_mta_fails d =
    let s : List ℕ = reached leaves_mta (ask_all pair [] (connect ∷ mta_to 0 0 ∷ []) ++ begun pair [] upload_first) in
    let e : ◌≡◌ {A = ℕ} 5 6 = ap (λ l. get_or l 1 0)
    (d.memory.goes_on s pair [] (last_byte upload_first) upload_first (5 ∷ []) reading_on (last_byte (upload 1)) (upload 1) (5 ∷ []) refl
    (record { command = record { ends = refl; opened = refl; free = refl }; code = refl; answer = refl })
    (refl, (refl, (refl, (refl, (refl, tt)))))
    (record { command = record { ends = refl; opened = refl; free = refl }; code = refl; answer = refl }))
    in omega arith

-- and in a fresh session the MTA stays unset
whether_set : Mta → ℕ
whether_set Unset = 0
whether_set (At e a) = 1

pub leaves_mta_unset : Obeys (Obeyed leaves_mta) → ⊥
unfolding computed low took taken_so whether_set
leaves_mta_unset d =
    let s : List ℕ = reached leaves_mta fetching_first in
    let law = d.short_upload upload_first (session_of s) pair [] (left leaves_mta s pair upload_first) (taken_so_lem leaves_mta s pair upload_first (lit< tt) refl) refl refl in
    let e : ◌≡◌ {A = ℕ} 0 1 = ap whether_set law.carries.mta in omega arith

-- so it does after SHORT_DOWNLOAD
pub load_leaves_mta_fails : Obeys (Obeyed load_leaves_mta) → ⊥
unfolding computed low took taken_so whether_set
load_leaves_mta_fails d =
    let p : List ℕ = download_first 7 in
    let s : List ℕ = reached load_leaves_mta (loading_first [] 7) in
    let law = d.short_download p (session_of s) pair [] (left load_leaves_mta s pair p) (taken_so_lem load_leaves_mta s pair p (lit< tt) refl) refl refl in
    let e : ◌≡◌ {A = ℕ} 0 1 = ap whether_set law.loads.mta in omega arith

-- a byte of 5 is sampled, another comes while it is 6, and 6 is sent
pub reads_late_fails : Demand3 reads_late → ⊥
unfolding computed
reads_late_fails d =
    let e : ◌≡◌ {A = ℕ} 6 5 = ap (λ ps. get_or (get_or ps 1 []) 1 0) (d.sampled (reached reads_late (measuring (5 ∷ []))) [] (5 ∷ []) 0 0 0 (Byte [] (6 ∷ []) 0 ∷ replicate 4 slot) refl (lit≤ tt) refl (refl, tt) (lit≤ tt)).1
    in omega arith

-- the key to calibration unlocks lists
pub opens_both_fails : Demand2 opens_both → ⊥
unfolding computed
opens_both_fails d =
    let e : ◌≡◌ {A = ℕ} 1 0 = ap (λ t. cond t 1 0) (d.keys.unlocks (reached opens_both (ask_all [] [] (connect ∷ seed_of_calibration ∷ []) ++ begun [] [] key_of_calibration)) [] [] (last_byte key_of_calibration) key_of_calibration Calibration refl (record { ends = refl; opened = refl; free = refl }) refl refl refl).1
    in omega arith

-- ---- three wrong keys
-- a fourth key is judged, and wrong
pub connect_clears_fails : StaysShut connect_clears → ⊥
unfolding computed
connect_clears_fails d = let e : 4 ≤ 3 = d.at_most device 1 (answering (tries 4)) refl in omega arith

-- GET_SEED of its code alone is answered 25
pub shuts_first_fails : Checked shuts_first → ⊥
unfolding computed told asked heard_so
shuts_first_fails d =
    let s : List ℕ = reached shuts_first (ask_all [] [] (tries 3 ++ connect ∷ []) ++ begun [] [] (0xF8 ∷ [])) in
    let e : ◌≡◌ {A = ℕ} 0x25 0x21 = ap (λ a. get_or a 1 0) (refused_so shuts_first s [] (0xF8 ∷ []) (fault_of 0x21) (0xFE ∷ 0x25 ∷ []) refl 0x21 refl d) in omega arith

-- ---- slices
-- CONNECT and a byte behind it are lent: seven bytes count as taken, and the byte call ended the command with the sixth
pub drops_behind_fails : BySlices ours drops_behind → ⊥
unfolding computed receive_bytes_of
drops_behind_fails d =
    let e : ◌≡◌ {A = ℕ} 1 0 = ap (λ r. get_or r.numbers 5 0) (d.same (powered 1) [] [] (0x9A ∷ 2 ∷ 0 ∷ 0xFF ∷ 0 ∷ 1 ∷ 0 ∷ []) refl) in omega arith
