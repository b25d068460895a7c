-- What a deed changes of the state, and that its answer is read as it was given. Assumes nothing.
use Rattle.std.proofs.Common.{◌≡◌, ℕ, zero, suc, ◌+◌, ◌-◌, ◌*◌, ◌%◌, ◌<◌, ◌≤◌, Bool, true, cond, T, leb, List, ◌∷◌, length, get_or, set, Some, None, ◌∙◌, arith, lit<, lit≤, length-take}
use Rattle.model.specs.Answers.{reply_in}
use Rattle.model.specs.View.{session_of}
use Rattle.line.proofs.Laws.{cond_ind}
use Rattle.state.specs.Layout.{size, generator_at, ctr_at, round_at, last_at, session_at, pointer_at, phase_at, odts_at, counts_at, mode_at, selected_at, running_at, entries_at, sample_at, lists, all_odts, all_entries, packet_most, upload_most, list_size, entry_size}
use Rattle.state.specs.Pool.{list_count, first_odt, odt_count, odt_total, entries_in, first_entry, entry_count, entry_total, entry_at}
use Rattle.state.specs.Bytes.{block, copied, cleared}
use Rattle.state.specs.Generator.{next_of}
use Rattle.state.specs.Memory.{pick}
use Rattle.state.specs.State.{flag_of, generator_of, set_generator, lock_at, set_mta, pointer_of, set_pointer, dropped, closed, place_of, message_of, waits, answer_of}
use Rattle.state.proofs.Ranges.{start_most}
use Rattle.state.proofs.Allocated.{lists_most, first_most_lem, odt_most_lem, odt_inside, entry_most_lem, entry_inside}
use Rattle.model.proofs.Shown.{odts_at_lem, odt_at, entries_taken_lem}
use Rattle.lists.specs.Lists.{runs_of, switched, entries_of_list, list_cleared, mode_set, head_of, entry_set, stop_each, start_one, start_selected, stop_selected}
use Rattle.lists.specs.Alloc.{lists_allocated, odts_allocated, room_made, entries_allocated}
use Rattle.judge.specs.Doable.{Entered, Doable}
use Rattle.model.specs.Step.{next_entry}
use Rattle.session.specs.Perform.{entry_written, effect, reply, after}
use Rattle.words.specs.declared.Extension.{Extension}
use Rattle.words.specs.declared.Extension.TheVariants.{Calibration}
use Rattle.words.specs.declared.Mta.{Mta}
use Rattle.words.specs.declared.Pointer.{Pointer}
use Rattle.model.specs.declared.Deed.{Deed}
use Rattle.model.specs.declared.Deed.TheVariants.{Refuse, RefuseSize, WrongKey, Connect, Disconnect, Status, Synch, NoSeed, GiveSeed, Unlock, SetMta, Upload, Checksum, Download, ClearList, SetPointer, ClearEntry, WriteEntry, SetMode, Stop, Start, KeepRunning, Select, StopAll, StartSelected, StopSelected, ProcessorInfo, ResolutionInfo, FreeLists, AllocLists, AllocOdts, AllocEntries}
use Rattle.fields.proofs.Fields.{kindly, Answering, answer_same, waits_answered}
use Rattle.fields.proofs.Frames.{Only, among, only_none, only_then, only_wider, only_within, only_set, only_sets, only_cleared, only_dropped, only_generator, only_counted, only_lock, only_seed, only_mta, only_pointer, only_closed, only_fresh}
use Rattle.fields.proofs.Readers.{Same, apart, same_then, same_within, place_reads, message_reads}

block_short : (s : List ℕ) (i n : ℕ) → length (block s i n) ≤ n
block_short s i n = rw length-take (omega arith)

-- ---- the lists' changes
only_cond : {lo hi : ℕ} {s t u : List ℕ} (b : Bool) → Only lo hi s t → Only lo hi s u → Only lo hi s (cond b t u)
only_cond {lo} {hi} {s} b p q = cond_ind (Only lo hi s) b (λ _. p) (λ _. q)

pub only_switched : (s : List ℕ) (l on : ℕ) → l < lists → Only (mode_at 0) size s (switched s l on)
unfolding switched
only_switched s l on h =
    only_then (only_set s (running_at l) on (omega arith) (omega arith)) (only_wider (omega arith) (omega (arith, odt_most_lem s l)) (only_dropped (set s (running_at l) on) (first_odt s l) (odt_count s l)))

only_deselected : {s t : List ℕ} (l : ℕ) → l < lists → Only (mode_at 0) size s t → Only (mode_at 0) size s (set t (selected_at l) 0)
only_deselected {s} {t} l h w = only_then w (only_set t (selected_at l) 0 (omega arith) (omega arith))

pub only_list_cleared : (s : List ℕ) (l : ℕ) → l < lists → Only (mode_at 0) (sample_at 0) s (list_cleared s l)
unfolding list_cleared
only_list_cleared s l h =
    only_then (only_cleared s (mode_at l) list_size (omega arith) (omega arith))
    (only_cleared (cleared s (mode_at l) list_size) (entries_at (first_entry s (first_odt s l))) (entry_size * entries_of_list s l) (omega arith)
    (omega (arith, start_most all_entries (entries_in s) (first_odt s l), start_most all_entries (entries_in s) (first_odt s (suc l)))))

pub only_mode_set : (s : List ℕ) (l event : ℕ) → l < lists → Only (mode_at 0) (entries_at 0) s (mode_set s l event)
unfolding mode_set
only_mode_set s l event h =
    only_then (only_set s (mode_at l) ((event + 1) % 256) (omega arith) (omega arith)) (only_set (set s (mode_at l) ((event + 1) % 256)) (running_at l) 0 (omega arith) (omega arith))

pub only_entry_set : (s : List ℕ) (l k e n : ℕ) (x : Extension) (a : ℕ) → l < lists → e < entry_count s k → Only (mode_at 0) (sample_at 0) s (entry_set s l k e n x a)
unfolding entry_set
only_entry_set s l k e n x a h q =
    let s₁ : List ℕ = set s (running_at l) 0 in
    let s₂ : List ℕ = set s₁ (entry_at s k e) (head_of n x a) in
    only_then (only_set s (running_at l) 0 (omega arith) (omega arith))
    (only_then (only_set s₁ (entry_at s k e) (head_of n x a) (omega arith) (omega (arith, entry_most_lem s k))) (only_set s₂ (entry_at s k e + 1) (a % 256) (omega arith) (omega (arith, entry_most_lem s k))))

pub only_stop_each : (s : List ℕ) (n : ℕ) → n ≤ lists → Only (mode_at 0) size s (stop_each s n)
unfolding stop_each
only_stop_each s zero h = only_none
only_stop_each s (suc n) h =
    only_deselected n (omega arith) (only_then (only_stop_each s n (omega arith)) (only_switched (stop_each s n) n 0 (omega arith)))

only_start_one : (s : List ℕ) (l : ℕ) → l < lists → Only (mode_at 0) size s (start_one s l)
only_start_one s l h = only_cond (flag_of s (selected_at l)) (only_cond (runs_of s l) only_none (only_switched s l 1 h)) only_none

pub only_start_selected : (s : List ℕ) (n : ℕ) → n ≤ lists → Only (mode_at 0) size s (start_selected s n)
unfolding start_selected
only_start_selected s zero h = only_none
only_start_selected s (suc n) h =
    only_deselected n (omega arith) (only_then (only_start_selected s n (omega arith)) (only_start_one (start_selected s n) n (omega arith)))

pub only_stop_selected : (s : List ℕ) (n : ℕ) → n ≤ lists → Only (mode_at 0) size s (stop_selected s n)
unfolding stop_selected
only_stop_selected s zero h = only_none
only_stop_selected s (suc n) h =
    only_deselected n (omega arith)
    (only_then (only_stop_selected s n (omega arith))
    (only_cond (flag_of (stop_selected s n) (selected_at n)) (only_switched (stop_selected s n) n 0 (omega arith)) only_none))

-- ---- the allocations
only_new_odts : (s : List ℕ) (l n : ℕ) → l < lists → Only odts_at size s (odts_allocated s l n)
unfolding odts_allocated
only_new_odts s l n h =
    let s₁ : List ℕ = dropped s 0 all_odts in
    only_then (only_within tt (only_dropped s 0 all_odts))
    (only_then (only_cleared s₁ counts_at all_odts (lit≤ tt) (lit≤ tt)) (only_set (cleared s₁ counts_at all_odts) (odts_at + l) n (omega arith) (omega arith)))

only_copied : {lo hi : ℕ} (d : List ℕ) (i : ℕ) (s : List ℕ) (from n : ℕ) → lo ≤ i → i + n ≤ hi → Only lo hi d (copied d i s from n)
unfolding copied
only_copied d i s from n p q = only_sets d i (block s from n) p (omega (arith, q, block_short s from n))

-- from entry i on, of which there are m
pub only_room : (s : List ℕ) (i m n : ℕ) → i ≤ m → m + n ≤ all_entries → Only (entries_at i) (sample_at 0) s (room_made s i m n)
unfolding room_made
only_room s i m n p q =
    only_then (only_copied s (entries_at (i + n)) s (entries_at i) (entry_size * (m - i)) (omega arith) (omega arith))
    (only_cleared (copied s (entries_at (i + n)) s (entries_at i) (entry_size * (m - i))) (entries_at i) (entry_size * n) (omega arith) (omega arith))

only_new_entries : (s : List ℕ) (k n : ℕ) → k < odt_total s → entry_total s + n ≤ all_entries → Only pointer_at (sample_at 0) s (entries_allocated s k n)
unfolding entries_allocated
only_new_entries s k n h q =
    let s₁ : List ℕ = room_made s (first_entry s k) (entry_total s) n in
    only_then (only_wider (omega arith) (lit≤ tt) (only_room s (first_entry s k) (entry_total s) n (omega (arith, entry_inside s k h)) q))
    (only_then (only_set s₁ (counts_at + k) n (omega arith) (omega (arith, first_most_lem s (list_count s))))
    (only_within tt (only_pointer (set s₁ (counts_at + k) n) (pointer_of s))))

-- ---- the deeds
-- t differs from s in the generator, the count of wrong keys, with which list the round begins, and the session alone: not in the mark, the CTR, the reader or
-- the answer
pub record Effected (s t : List ℕ) : Type 0 where
  pub range : Only generator_at size s t
  pub ctr : Same ctr_at round_at s t
  pub between : Same last_at session_at s t

-- the session alone
within : {s t : List ℕ} → Only session_at size s t → Effected s t
within w = record { range = only_within tt w; ctr = apart tt w; between = apart tt w }

inside : {lo hi : ℕ} {s t : List ℕ} → T (among lo hi session_at size) → Only lo hi s t → Effected s t
inside i w = within (only_within i w)

-- what runs on across sessions alone; the round alone; one after the other
beside : {s t : List ℕ} → Only generator_at ctr_at s t → Effected s t
beside w = record { range = only_within tt w; ctr = apart tt w; between = apart tt w }

rounded : {s t : List ℕ} → Only round_at last_at s t → Effected s t
rounded w = record { range = only_within tt w; ctr = apart tt w; between = apart tt w }

then : {s t u : List ℕ} → Effected s t → Effected t u → Effected s u
then w v = record { range = only_then w.range v.range; ctr = same_then w.ctr v.ctr; between = same_then w.between v.between }

none : {s : List ℕ} → Effected s s
none = within only_none

mta : (s : List ℕ) (m : Mta) → Effected s (set_mta s m)
mta s m = inside tt (only_mta s m)

pointer : {s t : List ℕ} (p : Pointer) → Only (mode_at 0) (sample_at 0) s t → Effected s (set_pointer t p)
pointer {s} {t} p w = within (only_then (only_within tt w) (only_within tt (only_pointer t p)))

-- ALLOC_DAQ begins the round anew
new_lists_lem : (s : List ℕ) (n : ℕ) → Effected s (lists_allocated s n)
unfolding lists_allocated
new_lists_lem s n =
    let s₁ : List ℕ = cleared s odts_at (mode_at lists - odts_at) in
    then (within (only_cleared s odts_at (mode_at lists - odts_at) (lit≤ tt) (lit≤ tt)))
    (then (rounded (only_set s₁ round_at 0 (lit≤ tt) (lit< tt))) (within (only_set (set s₁ round_at 0) phase_at ((n + 1) % 256) (lit≤ tt) (lit< tt))))

-- the lists alone
listed : {s t : List ℕ} → Only (mode_at 0) size s t → Effected s t
listed w = inside tt w

-- a deed is about lists, ODTs and entries that there are
module _ (s : List ℕ) where
  pub list_there : (l : ℕ) → l < (session_of s).lists → l < list_count s
  unfolding session_of
  list_there l h = h

  pub odt_there : (l o : ℕ) → l < list_count s → o < ((session_of s).list l).odts → o < odt_count s l
  odt_there l o there h = rw (odts_at_lem s l there) at h

  pub entry_there : (l o e : ℕ) → l < list_count s → o < odt_count s l → e < (((session_of s).list l).odt o).entries → e < entry_count s (first_odt s l + o)
  entry_there l o e there its h = rw (odt_at s l there o its) at h

  pub list_few : (l : ℕ) → l < (session_of s).lists → l < lists
  list_few l h = omega (arith, list_there l h, lists_most s)

entered : (s : List ℕ) (l o e m : ℕ) (x : Extension) (a : ℕ) → Entered (session_of s) l o e → Effected s (entry_written s l o e m x a)
entered s l o e m x a h =
    let there : l < list_count s = list_there s l h.0 in
    let its : o < odt_count s l = odt_there s l o there h.1 in
    let k : ℕ = first_odt s l + o in
    pointer (next_entry (entry_count s k) l o e) (only_entry_set s l k e m x a (list_few s l h.0) (entry_there s l o e there its h.2))

pub effected : (d : Deed) (s : List ℕ) (n nc nm : ℕ) → Doable d (session_of s) n nc nm → Effected s (effect d s)
unfolding effect
effected (Refuse r) s n nc nm h = none
effected RefuseSize s n nc nm h = none
effected WrongKey s n nc nm h = then (inside tt (only_closed s)) (beside (only_within tt (only_counted (closed s))))
effected Connect s n nc nm h = inside tt (only_fresh s)
effected Disconnect s n nc nm h = inside tt (only_closed s)
effected Status s n nc nm h = none
effected Synch s n nc nm h = none
effected NoSeed s n nc nm h = none
effected (GiveSeed r) s n nc nm h =
    let x : ℕ = next_of (generator_of s) in
    then (beside (only_within tt (only_generator s x))) (inside tt (only_seed (set_generator s x) (Some r)))
effected (Unlock r) s n nc nm h =
    within (only_then (only_within tt (only_lock s r 1)) (only_within tt (only_seed (set s (lock_at r) 1) None)))
effected (SetMta e a) s n nc nm h = mta s _
effected (Upload e a m) s n nc nm h = mta s _
effected (Checksum e a m) s n nc nm h = mta s _
effected (Download from a m) s n nc nm h = mta s _
effected (ClearList l) s n nc nm h = listed (only_within tt (only_list_cleared s l (list_few s l h)))
effected (SetPointer l o e) s n nc nm h = pointer _ only_none
effected (ClearEntry l o e) s n nc nm h = entered s l o e 0 Calibration 0 h
effected (WriteEntry l o e m x a) s n nc nm h = entered s l o e m x a h
effected (SetMode l event) s n nc nm h = listed (only_within tt (only_mode_set s l event (list_few s l h.0)))
effected (Stop l) s n nc nm h = listed (only_switched s l 0 (list_few s l h))
effected (Start l) s n nc nm h = listed (only_switched s l 1 (list_few s l h))
effected (KeepRunning l) s n nc nm h = none
effected (Select l) s n nc nm h = listed (only_set s (selected_at l) 1 (omega arith) (omega (arith, list_few s l h)))
effected StopAll s n nc nm h = listed (only_stop_each s (list_count s) (lists_most s))
effected StartSelected s n nc nm h = listed (only_start_selected s (list_count s) (lists_most s))
effected StopSelected s n nc nm h = listed (only_stop_selected s (list_count s) (lists_most s))
effected ProcessorInfo s n nc nm h = none
effected ResolutionInfo s n nc nm h = none
effected FreeLists s n nc nm h = within (only_set s phase_at 1 (lit≤ tt) (lit< tt))
effected (AllocLists m) s n nc nm h = new_lists_lem s m
effected (AllocOdts l m) s n nc nm h = inside tt (only_new_odts s l m (list_few s l h.0))
effected (AllocEntries l o m) s n nc nm h =
    let there : l < list_count s = list_there s l h.0 in
    let its : o < odt_count s l = odt_there s l o there h.1 in
    inside tt (only_new_entries s (first_odt s l + o) m (omega (arith, odt_inside s l there)) (rw (entries_taken_lem s) at h.3))

pub effect_place : (d : Deed) (s : List ℕ) (n nc nm : ℕ) → Doable d (session_of s) n nc nm → place_of (effect d s) ≡ place_of s
effect_place d s n nc nm h = place_reads (same_within tt (effected d s n nc nm h).between)

pub effect_message : (d : Deed) (s : List ℕ) (n nc nm : ℕ) → Doable d (session_of s) n nc nm → message_of (effect d s) ≡ message_of s
effect_message d s n nc nm h = message_reads (same_within tt (effected d s n nc nm h).between)

-- ---- the answers
-- one that is written out
short : {bs : List ℕ} → T (leb 1 (length bs)) → T (leb (length bs) packet_most) → T (kindly (length bs) (get_or bs 0 0)) → Answering bs
short p q k = record { some = lit≤ p; few = lit≤ q; kind = k }

uploaded : (mem : List ℕ) (a n : ℕ) → n ≤ upload_most → Answering (0xFF ∷ block mem a n)
uploaded mem a n h = record { some = omega arith; few = omega (arith, block_short mem a n); kind = tt }

pub answering : (d : Deed) (s cal meas : List ℕ) (n : ℕ) → Doable d (session_of s) n (length cal) (length meas) → Answering (reply d s cal meas)
unfolding reply_in session_of
answering (Refuse r) s cal meas n h = short tt tt tt
answering RefuseSize s cal meas n h = short tt tt tt
answering WrongKey s cal meas n h = short tt tt tt
answering Connect s cal meas n h = short tt tt tt
answering Disconnect s cal meas n h = short tt tt tt
answering Status s cal meas n h = short tt tt tt
answering Synch s cal meas n h = short tt tt tt
answering NoSeed s cal meas n h = short tt tt tt
answering (GiveSeed r) s cal meas n h = short tt tt tt
answering (Unlock r) s cal meas n h = short tt tt tt
answering (SetMta e a) s cal meas n h = short tt tt tt
answering (Upload e a m) s cal meas n h = uploaded (pick e cal meas) a m h.0
answering (Checksum e a m) s cal meas n h = short tt tt tt
answering (Download from a m) s cal meas n h = short tt tt tt
answering (ClearList l) s cal meas n h = short tt tt tt
answering (SetPointer l o e) s cal meas n h = short tt tt tt
answering (ClearEntry l o e) s cal meas n h = short tt tt tt
answering (WriteEntry l o e m x a) s cal meas n h = short tt tt tt
answering (SetMode l event) s cal meas n h = short tt tt tt
answering (Stop l) s cal meas n h = short tt tt tt
answering (Start l) s cal meas n h = short tt tt tt
answering (KeepRunning l) s cal meas n h = short tt tt tt
answering (Select l) s cal meas n h = short tt tt tt
answering StopAll s cal meas n h = short tt tt tt
answering StartSelected s cal meas n h = short tt tt tt
answering StopSelected s cal meas n h = short tt tt tt
answering ProcessorInfo s cal meas n h = short tt tt tt
answering ResolutionInfo s cal meas n h = short tt tt tt
answering FreeLists s cal meas n h = short tt tt tt
answering (AllocLists m) s cal meas n h = short tt tt tt
answering (AllocOdts l m) s cal meas n h = short tt tt tt
answering (AllocEntries l o m) s cal meas n h = short tt tt tt

-- a deed that is done leaves its answer waiting, and it reads as it was given
pub after_answer : (d : Deed) (s cal meas : List ℕ) (n : ℕ) → length s ≡ size → Doable d (session_of s) n (length cal) (length meas) → answer_of (after d s cal meas) ≡ reply d s cal meas
after_answer d s cal meas n e h =
    answer_same (effect d s) (reply d s cal meas) ((effected d s n (length cal) (length meas) h).range.long ∙ e) (answering d s cal meas n h)

pub after_waits : (d : Deed) (s cal meas : List ℕ) (n : ℕ) → length s ≡ size → Doable d (session_of s) n (length cal) (length meas) → waits (after d s cal meas) ≡ true
after_waits d s cal meas n e h =
    let a : Answering (reply d s cal meas) = answering d s cal meas n h in
    waits_answered (effect d s) (reply d s cal meas) ((effected d s n (length cal) (length meas) h).range.long ∙ e) a.some a.few
