-- Power-up makes a consistent state, and every call keeps one. Assumes nothing.
use Rattle.std.proofs.Common.{◌≡◌, ℕ, zero, suc, ◌+◌, ◌-◌, ◌*◌, ◌%◌, ◌<◌, ◌≤◌, Bool, true, cond, ltb, leb, List, ◌∷◌, length, get_or, take, set, replicate, Some, None, Ok, Err, sym, refl, ap, ◌∙◌, arith, lit<, lit≤, length-set, get_or-take, eq-eqb}
use Rattle.std.proofs.lemmas.List.{take-set-le}
use Rattle.std.proofs.Math.Seq.{sets, length-sets}
use Rattle.model.specs.Heed.{Heeding, Dropped, Obeyed, Ignored, heeding_in}
use Rattle.model.specs.View.{session_of}
use Rattle.line.specs.Message.{longest, room}
use Rattle.line.specs.Unstuffing.{Fed}
use Rattle.line.specs.Values.{Outcome}
use Rattle.line.specs.declared.Fault.TheVariants.{BadLength, BadEscape, BadChecksum, CutOff, ShortBuffer}
use Rattle.line.proofs.Laws.{cond_ind}
use Rattle.line.proofs.After.{take_length}
use Rattle.state.specs.Layout.{mark, mark_at, size, generator_at, ctr_at, round_at, last_at, message_at, answer_at, answer_bytes_at, lists, all_odts, odts_at, counts_at, mode_at, selected_at, running_at, phase_at, entries_at, sample_at, events, list_size, entry_size}
use Rattle.state.specs.Pool.{list_count, first_odt, odt_count, first_entry, entry_count, entry_total, entry_at}
use Rattle.state.specs.Bytes.{u32_at, put32, block, copied, cleared}
use Rattle.state.specs.Generator.{start_of, next_of}
use Rattle.state.specs.State.{consistent, flag_of, generator_of, set_generator, lock_at, set_seed, set_mta, set_pointer, dropped, closed, pointer_of, place_of, message_of, waits, answer_kind, answered}
use Rattle.lists.specs.Lists.{runs_of, switched, entries_of_list, list_cleared, mode_set, head_of, entry_set, stop_each, start_one, start_selected, stop_selected}
use Rattle.lists.specs.Alloc.{lists_allocated, odts_allocated, room_made, entries_allocated}
use Rattle.model.specs.Step.{next_entry}
use Rattle.session.specs.Perform.{entry_written, effect, reply, after}
use Rattle.session.specs.Receive.{Step, heeded_by, heeded, meant, read_on, fed_of, receive_of}
use Rattle.lists.specs.Event.{stored, captured_odts, captured, sampling_of, sampled_state, tally, Happened, event_of}
use Rattle.lists.specs.Slot.{Slot, turn_of, ctr_next, answer_sent, round_after, packet_sent, sent_by, slot_of}
use Rattle.session.specs.PowerUp.{powered, power_up_of}
use Rattle.words.specs.declared.Extension.{Extension}
use Rattle.words.specs.declared.Extension.TheVariants.{Calibration}
use Rattle.words.specs.Values.{Seed}
use Rattle.words.specs.declared.Mta.{Mta}
use Rattle.words.specs.declared.Pointer.{Pointer}
use Rattle.model.specs.declared.Sampling.{Sampling}
use Rattle.model.specs.declared.Sampling.TheVariants.{Idle, Sampled, Missed}
use Rattle.model.specs.Turn.{Turn}
use Rattle.model.specs.declared.Sender.TheVariants.{Answer, Packet}
use Rattle.model.specs.declared.Deed.{Deed}
use Rattle.model.specs.declared.Deed.TheVariants.{Refuse, RefuseSize, WrongKey, Connect, Disconnect, Status, Synch, NoSeed, GiveSeed, Unlock, SetMta, Upload, Checksum, Download, ClearList, SetPointer, ClearEntry, WriteEntry, SetMode, Stop, Start, KeepRunning, Select, StopAll, StartSelected, StopSelected, ProcessorInfo, ResolutionInfo, FreeLists, AllocLists, AllocOdts, AllocEntries}
use Rattle.state.proofs.Sets.{block_length}
use Rattle.state.proofs.Consistent.{consistent_size}
use Rattle.fields.proofs.Stores.{take_sets}
use Rattle.fields.proofs.Frames.{Only, only_take, only_generator, only_counted, only_lock, only_seed, only_mta, only_pointer, only_closed, only_fresh, only_read_on}

-- ---- t has the length of s and its first bytes, the mark
pub record Marked (s t : List ℕ) : Type 0 where
  pub long : length t ≡ length s
  pub front : take generator_at t ≡ take generator_at s

pub marked_none : {s : List ℕ} → Marked s s
marked_none = record { long = refl; front = refl }

pub marked_then : {s t u : List ℕ} → Marked s t → Marked t u → Marked s u
marked_then p q = record { long = q.long ∙ p.long; front = q.front ∙ p.front }

marked_cond : {s t u : List ℕ} (b : Bool) → Marked s t → Marked s u → Marked s (cond b t u)
marked_cond {s} b p q = cond_ind (Marked s) b (λ _. p) (λ _. q)

-- any change behind them
marked_only : {lo hi : ℕ} {s t : List ℕ} → generator_at ≤ lo → Only lo hi s t → Marked s t
marked_only h w = record { long = w.long; front = only_take generator_at h w }

marked_set : (s : List ℕ) (i a : ℕ) → generator_at ≤ i → Marked s (set s i a)
marked_set s i a h = record { long = length-set s i a; front = take-set-le generator_at s i a h }

marked_sets : (s : List ℕ) (i : ℕ) (xs : List ℕ) → generator_at ≤ i → Marked s (sets s i xs)
marked_sets s i xs h = record { long = length-sets s i xs; front = take_sets generator_at s i xs h }

marked_cleared : (s : List ℕ) (i n : ℕ) → generator_at ≤ i → Marked s (cleared s i n)
unfolding cleared
marked_cleared s i n h = marked_sets s i (replicate n 0) h

-- the mark, so whether a state is consistent, lies in them
first_same : {s t : List ℕ} (j : ℕ) → j < generator_at → Marked s t → get_or t j 0 ≡ get_or s j 0
first_same {s} {t} j h m = sym (get_or-take generator_at t j 0 h) ∙ ap (λ (l : List ℕ). get_or l j 0) m.front ∙ get_or-take generator_at s j 0 h

mark_same : {s t : List ℕ} → Marked s t → u32_at t mark_at ≡ u32_at s mark_at
unfolding u32_at
mark_same m = simp (first_same 0 (lit< tt) m, first_same 1 (lit< tt) m, first_same 2 (lit< tt) m, first_same 3 (lit< tt) m)

pub marked_consistent : {s t : List ℕ} → Marked s t → consistent t ≡ consistent s
unfolding consistent
marked_consistent m = rw (m.long, mark_same m)

pub kept : {s t : List ℕ} → Marked s t → consistent s ≡ true → consistent t ≡ true
kept m h = marked_consistent m ∙ h

-- ---- power-up
marked_blank : consistent (put32 (replicate size 0) mark_at mark) ≡ true
unfolding consistent u32_at put32
marked_blank = refl

pub power_consistent : (start : ℕ) → consistent (powered start) ≡ true
unfolding powered
power_consistent start = kept (marked_only (lit≤ tt) (only_generator (put32 (replicate size 0) mark_at mark) (start_of start))) marked_blank

-- a state of the right size is consistent after power-up, whatever it was
pub power_up_consistent : (s : List ℕ) (start : ℕ) → length s ≡ size → consistent (power_up_of s start).state ≡ true
unfolding power_up_of
power_up_consistent s start h = simp (eq-eqb (length s) size h) (power_consistent start)

-- ---- the lists' changes
marked_dropped : (s : List ℕ) (k n : ℕ) → Marked s (dropped s k n)
unfolding dropped
marked_dropped s k zero = marked_none
marked_dropped s k (suc n) = marked_then (marked_dropped s k n) (marked_set (dropped s k n) (sample_at (k + n)) 0 (omega arith))

marked_switched : (s : List ℕ) (l on : ℕ) → Marked s (switched s l on)
unfolding switched
marked_switched s l on = marked_then (marked_set s (running_at l) on (omega arith)) (marked_dropped (set s (running_at l) on) (first_odt s l) (odt_count s l))

marked_deselected : {s t : List ℕ} (l : ℕ) → Marked s t → Marked s (set t (selected_at l) 0)
marked_deselected {s} {t} l m = marked_then m (marked_set t (selected_at l) 0 (omega arith))

marked_list_cleared : (s : List ℕ) (l : ℕ) → Marked s (list_cleared s l)
unfolding list_cleared
marked_list_cleared s l =
    marked_then (marked_cleared s (mode_at l) list_size (omega arith))
    (marked_cleared (cleared s (mode_at l) list_size) (entries_at (first_entry s (first_odt s l))) (entry_size * entries_of_list s l) (omega arith))

marked_mode_set : (s : List ℕ) (l event : ℕ) → Marked s (mode_set s l event)
unfolding mode_set
marked_mode_set s l event =
    marked_then (marked_set s (mode_at l) ((event + 1) % 256) (omega arith)) (marked_set (set s (mode_at l) ((event + 1) % 256)) (running_at l) 0 (omega arith))

marked_entry_set : (s : List ℕ) (l k e n : ℕ) (x : Extension) (a : ℕ) → Marked s (entry_set s l k e n x a)
unfolding entry_set
marked_entry_set s l k e n x a =
    let s₁ : List ℕ = set s (running_at l) 0 in
    let s₂ : List ℕ = set s₁ (entry_at s k e) (head_of n x a) in
    marked_then (marked_set s (running_at l) 0 (omega arith))
    (marked_then (marked_set s₁ (entry_at s k e) (head_of n x a) (omega arith)) (marked_set s₂ (entry_at s k e + 1) (a % 256) (omega arith)))

marked_stop_each : (s : List ℕ) (n : ℕ) → Marked s (stop_each s n)
unfolding stop_each
marked_stop_each s zero = marked_none
marked_stop_each s (suc n) = marked_deselected n (marked_then (marked_stop_each s n) (marked_switched (stop_each s n) n 0))

marked_start_one : (s : List ℕ) (l : ℕ) → Marked s (start_one s l)
marked_start_one s l =
    marked_cond (flag_of s (selected_at l)) (marked_cond (runs_of s l) marked_none (marked_switched s l 1)) marked_none

marked_start_selected : (s : List ℕ) (n : ℕ) → Marked s (start_selected s n)
unfolding start_selected
marked_start_selected s zero = marked_none
marked_start_selected s (suc n) = marked_deselected n (marked_then (marked_start_selected s n) (marked_start_one (start_selected s n) n))

marked_stop_selected : (s : List ℕ) (n : ℕ) → Marked s (stop_selected s n)
unfolding stop_selected
marked_stop_selected s zero = marked_none
marked_stop_selected s (suc n) =
    marked_deselected n
    (marked_then (marked_stop_selected s n) (marked_cond (flag_of (stop_selected s n) (selected_at n)) (marked_switched (stop_selected s n) n 0) marked_none))

-- ---- the deeds
marked_seed : (s : List ℕ) (x : Seed) → Marked s (set_seed s x)
marked_seed s x = marked_only (lit≤ tt) (only_seed s x)

marked_mta : (s : List ℕ) (m : Mta) → Marked s (set_mta s m)
marked_mta s m = marked_only (lit≤ tt) (only_mta s m)

marked_pointer : (s : List ℕ) (p : Pointer) → Marked s (set_pointer s p)
marked_pointer s p = marked_only (lit≤ tt) (only_pointer s p)

marked_entered : (s : List ℕ) (l o e n : ℕ) (x : Extension) (a : ℕ) → Marked s (entry_written s l o e n x a)
marked_entered s l o e n x a =
    let k : ℕ = first_odt s l + o in
    marked_then (marked_entry_set s l k e n x a) (marked_pointer (entry_set s l k e n x a) (next_entry (entry_count s k) l o e))

-- ---- the allocations
marked_copied : (d : List ℕ) (i : ℕ) (s : List ℕ) (from n : ℕ) → generator_at ≤ i → Marked d (copied d i s from n)
unfolding copied
marked_copied d i s from n h = marked_sets d i (block s from n) h

marked_new_lists : (s : List ℕ) (n : ℕ) → Marked s (lists_allocated s n)
unfolding lists_allocated
marked_new_lists s n =
    let s₁ : List ℕ = cleared s odts_at (mode_at lists - odts_at) in
    marked_then (marked_cleared s odts_at (mode_at lists - odts_at) (lit≤ tt)) (marked_then (marked_set s₁ round_at 0 (lit≤ tt)) (marked_set (set s₁ round_at 0) phase_at ((n + 1) % 256) (lit≤ tt)))

marked_new_odts : (s : List ℕ) (l n : ℕ) → Marked s (odts_allocated s l n)
unfolding odts_allocated
marked_new_odts s l n =
    let s₁ : List ℕ = dropped s 0 all_odts in
    marked_then (marked_dropped s 0 all_odts) (marked_then (marked_cleared s₁ counts_at all_odts (lit≤ tt)) (marked_set (cleared s₁ counts_at all_odts) (odts_at + l) n (omega arith)))

marked_room : (s : List ℕ) (i m n : ℕ) → Marked s (room_made s i m n)
unfolding room_made
marked_room s i m n =
    marked_then (marked_copied s (entries_at (i + n)) s (entries_at i) (entry_size * (m - i)) (omega arith))
    (marked_cleared (copied s (entries_at (i + n)) s (entries_at i) (entry_size * (m - i))) (entries_at i) (entry_size * n) (omega arith))

marked_new_entries : (s : List ℕ) (k n : ℕ) → Marked s (entries_allocated s k n)
unfolding entries_allocated
marked_new_entries s k n =
    let s₁ : List ℕ = room_made s (first_entry s k) (entry_total s) n in
    marked_then (marked_room s (first_entry s k) (entry_total s) n) (marked_then (marked_set s₁ (counts_at + k) n (omega arith)) (marked_pointer (set s₁ (counts_at + k) n) (pointer_of s)))

pub marked_effect : (d : Deed) (s : List ℕ) → Marked s (effect d s)
unfolding effect
marked_effect (Refuse r) s = marked_none
marked_effect RefuseSize s = marked_none
marked_effect WrongKey s = marked_then (marked_only (lit≤ tt) (only_closed s)) (marked_only (lit≤ tt) (only_counted (closed s)))
marked_effect Connect s = marked_only (lit≤ tt) (only_fresh s)
marked_effect Disconnect s = marked_only (lit≤ tt) (only_closed s)
marked_effect Status s = marked_none
marked_effect Synch s = marked_none
marked_effect NoSeed s = marked_none
marked_effect (GiveSeed r) s =
    let x : ℕ = next_of (generator_of s) in
    marked_then (marked_only (lit≤ tt) (only_generator s x)) (marked_seed (set_generator s x) (Some r))
marked_effect (Unlock r) s = marked_then (marked_only (lit≤ tt) (only_lock s r 1)) (marked_seed (set s (lock_at r) 1) None)
marked_effect (SetMta e a) s = marked_mta s _
marked_effect (Upload e a n) s = marked_mta s _
marked_effect (Checksum e a n) s = marked_mta s _
marked_effect (Download from a n) s = marked_mta s _
marked_effect (ClearList l) s = marked_list_cleared s l
marked_effect (SetPointer l o e) s = marked_pointer s _
marked_effect (ClearEntry l o e) s = marked_entered s l o e 0 Calibration 0
marked_effect (WriteEntry l o e n x a) s = marked_entered s l o e n x a
marked_effect (SetMode l event) s = marked_mode_set s l event
marked_effect (Stop l) s = marked_switched s l 0
marked_effect (Start l) s = marked_switched s l 1
marked_effect (KeepRunning l) s = marked_none
marked_effect (Select l) s = marked_set s (selected_at l) 1 (omega arith)
marked_effect StopAll s = marked_stop_each s (list_count s)
marked_effect StartSelected s = marked_start_selected s (list_count s)
marked_effect StopSelected s = marked_stop_selected s (list_count s)
marked_effect ProcessorInfo s = marked_none
marked_effect ResolutionInfo s = marked_none
marked_effect FreeLists s = marked_set s phase_at 1 (lit≤ tt)
marked_effect (AllocLists n) s = marked_new_lists s n
marked_effect (AllocOdts l n) s = marked_new_odts s l n
marked_effect (AllocEntries l o n) s = marked_new_entries s (first_odt s l + o) n

pub marked_answered : (s bs : List ℕ) → Marked s (answered s bs)
unfolding answered
marked_answered s bs = marked_sets s answer_at (length bs ∷ bs) (lit≤ tt)

pub marked_after : (d : Deed) (s cal meas : List ℕ) → Marked s (after d s cal meas)
marked_after d s cal meas = marked_then (marked_effect d s) (marked_answered (effect d s) (reply d s cal meas))

-- ---- a received byte
marked_heeding : (h : Heeding) (p s cal meas : List ℕ) → Marked s (heeded_by h p s cal meas).state
marked_heeding Dropped p s cal meas = marked_none
marked_heeding (Obeyed d) p s cal meas = marked_after d s cal meas
marked_heeding Ignored p s cal meas = marked_none

marked_heeded : (p s cal meas : List ℕ) → Marked s (heeded p s cal meas).state
unfolding heeded
marked_heeded p s cal meas = marked_heeding (heeding_in (waits s) p (session_of s) (length cal) (length meas)) p s cal meas

marked_meant : (o : Outcome) (m s cal meas : List ℕ) → Marked s (meant o m s cal meas).state
unfolding meant
marked_meant (Ok None) m s cal meas = marked_none
marked_meant (Ok (Some good)) m s cal meas = marked_heeded (block m good.at good.len) s cal meas
marked_meant (Err BadLength) m s cal meas = marked_none
marked_meant (Err BadEscape) m s cal meas = marked_none
marked_meant (Err BadChecksum) m s cal meas = marked_none
marked_meant (Err CutOff) m s cal meas = marked_none
marked_meant (Err ShortBuffer) m s cal meas = marked_none

fed_length : (s : List ℕ) (b : ℕ) → length s ≡ size → length (fed_of s b).message ≡ longest
unfolding message_of
fed_length s b h = take_length (place_of s) (block s message_at longest) b ∙ block_length s message_at longest (omega arith)

marked_receive : (s cal meas : List ℕ) (b : ℕ) → Marked s (receive_of s cal meas b).state
unfolding receive_of
marked_receive s cal meas b =
    cond_ind (λ (o : Step). Marked s o.state) (consistent s)
    (λ c. let h : length s ≡ size = consistent_size s c in
    let f : Fed = fed_of s b in
    marked_then (marked_only (lit≤ tt) (only_read_on s f h (fed_length s b h))) (marked_meant f.taken.outcome f.message (read_on s f) cal meas))
    (λ _. marked_none)

pub receive_kept : (s cal meas : List ℕ) (b : ℕ) → consistent s ≡ true → consistent (receive_of s cal meas b).state ≡ true
receive_kept s cal meas b h = kept (marked_receive s cal meas b) h

-- ---- an event
marked_stored : (s : List ℕ) (k : ℕ) (bs : List ℕ) → Marked s (stored s k bs)
unfolding stored
marked_stored s k bs = marked_sets s (sample_at k) (length bs ∷ bs) (omega arith)

marked_odts : (s : List ℕ) (k clock : ℕ) (cal meas : List ℕ) (n : ℕ) → Marked s (captured_odts s k clock cal meas n)
unfolding captured_odts
marked_odts s k clock cal meas zero = marked_none
marked_odts s k clock cal meas (suc n) = marked_then (marked_odts s k clock cal meas n) (marked_stored (captured_odts s k clock cal meas n) (k + n) _)

marked_captured : (s : List ℕ) (l clock : ℕ) (cal meas : List ℕ) → Marked s (captured s l clock cal meas)
marked_captured s l clock cal meas = marked_odts s (first_odt s l) clock cal meas (odt_count s l)

marked_sampled : (c : Sampling) (s : List ℕ) (l clock : ℕ) (cal meas : List ℕ) → Marked s (sampled_state c s l clock cal meas)
unfolding sampled_state
marked_sampled Idle s l clock cal meas = marked_none
marked_sampled Sampled s l clock cal meas = marked_captured s l clock cal meas
marked_sampled Missed s l clock cal meas = marked_none

marked_tally : (s : List ℕ) (event clock : ℕ) (cal meas : List ℕ) (n : ℕ) → Marked s (tally s event clock cal meas n).state
unfolding tally
marked_tally s event clock cal meas zero = marked_none
marked_tally s event clock cal meas (suc n) =
    let t : List ℕ = (tally s event clock cal meas n).state in
    marked_then (marked_tally s event clock cal meas n) (marked_sampled (sampling_of t n event) t n clock cal meas)

marked_event : (s cal meas : List ℕ) (event clock : ℕ) → Marked s (event_of s cal meas event clock).state
unfolding event_of
marked_event s cal meas event clock =
    let Good : Happened → Type 0 = λ (o : Happened). Marked s o.state in
    cond_ind Good (consistent s)
    (λ _. cond_ind Good (leb events event) (λ _. marked_none) (λ _. marked_tally s event clock cal meas (list_count s)))
    (λ _. marked_none)

pub event_kept : (s cal meas : List ℕ) (event clock : ℕ) → consistent s ≡ true → consistent (event_of s cal meas event clock).state ≡ true
event_kept s cal meas event clock h = kept (marked_event s cal meas event clock) h

-- ---- a slot
marked_answer_sent : (s : List ℕ) → Marked s (answer_sent s)
unfolding answer_sent
marked_answer_sent s =
    let s₁ : List ℕ = set s answer_bytes_at (answer_kind s) in
    let s₂ : List ℕ = set s₁ answer_at 0 in
    let s₃ : List ℕ = set s₂ ctr_at (ctr_next s) in
    marked_then (marked_set s answer_bytes_at (answer_kind s) (lit≤ tt))
    (marked_then (marked_set s₁ answer_at 0 (lit≤ tt))
    (marked_then (marked_set s₂ ctr_at (ctr_next s) (lit≤ tt)) (marked_set s₃ last_at 1 (lit≤ tt))))

marked_packet_sent : (s : List ℕ) (l o : ℕ) → Marked s (packet_sent s l o)
unfolding packet_sent
marked_packet_sent s l o =
    let at : ℕ = sample_at (first_odt s l + o) in
    let s₁ : List ℕ = set s at 0 in
    let s₂ : List ℕ = set s₁ ctr_at (ctr_next s) in
    let s₃ : List ℕ = set s₂ round_at (round_after l) in
    marked_then (marked_set s at 0 (omega arith))
    (marked_then (marked_set s₁ ctr_at (ctr_next s) (lit≤ tt))
    (marked_then (marked_set s₂ round_at (round_after l) (lit≤ tt)) (marked_set s₃ last_at 0 (lit≤ tt))))

marked_sent : (t : Turn) (s out : List ℕ) → Marked s (sent_by t s out).state
unfolding sent_by
marked_sent None s out = marked_none
marked_sent (Some Answer) s out = marked_answer_sent s
marked_sent (Some (Packet l o)) s out = marked_packet_sent s l o

marked_slot : (s out : List ℕ) → Marked s (slot_of s out).state
unfolding slot_of
marked_slot s out =
    let Good : Slot → Type 0 = λ (o : Slot). Marked s o.state in
    cond_ind Good (consistent s)
    (λ _. cond_ind Good (ltb (length out) room) (λ _. marked_none) (λ _. marked_sent (turn_of s) s out))
    (λ _. marked_none)

pub slot_kept : (s out : List ℕ) → consistent s ≡ true → consistent (slot_of s out).state ≡ true
slot_kept s out h = kept (marked_slot s out) h
