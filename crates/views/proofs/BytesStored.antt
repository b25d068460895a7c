-- What the writers of the state store is of bytes, if what they are given is. Assumes nothing.
use Rattle.std.proofs.Common.{ℕ, zero, suc, ◌+◌, ◌-◌, ◌*◌, ◌/◌, ◌%◌, ◌<◌, ◌≤◌, Bool, true, false, cond, T, ltb, List, [], ◌∷◌, ◌++◌, length, take, drop, set, replicate, Some, None, mod-lt, arith, lit<, ltb-true}
use Rattle.std.proofs.Math.Seq.{sets}
use Rattle.line.specs.Unstuffing.{Fed}
use Rattle.line.specs.declared.Place.{Place}
use Rattle.line.specs.declared.Place.TheVariants.{Outside, Inside, Escaped}
use Rattle.line.proofs.Laws.{cond_ind}
use Rattle.state.specs.Layout.{lists, all_odts, list_size, entry_size, packet_most, wrong_most, generator_at, wrong_keys_at, place_at, count_at, message_at, answer_at, session_at, session_size, open_at, seed_at, mta_at, address_at, pointer_at, pointer_entry_at, phase_at, odts_at, counts_at, mode_at, selected_at, running_at, round_at, entries_at, sample_at}
use Rattle.state.specs.Pool.{first_odt, odt_count, first_entry, entry_count, entry_total, entry_at}
use Rattle.state.proofs.Allocated.{entry_most_lem}
use Rattle.state.specs.Bytes.{put32, block, copied, cleared}
use Rattle.state.specs.Generator.{one_wrong_more}
use Rattle.state.specs.State.{set_generator, wrong_keys_of, counted_wrong, bit_of, set_seed, mta_tag, set_mta, pointer_of, set_pointer, Pointed, dropped, closed, fresh, set_place, set_message, answered}
use Rattle.state.specs.Lists.{selected_of}
use Rattle.state.proofs.Pointers.{pointed}
use Rattle.words.specs.declared.Resource.{Resource}
use Rattle.words.specs.declared.Resource.TheVariants.{Calibration, Lists}
use Rattle.words.specs.declared.Extension.{Extension}
use Rattle.words.specs.declared.Extension.TheVariants.{Calibration as CalibrationMemory, Measured}
use Rattle.words.specs.Values.{Seed}
use Rattle.words.specs.declared.Mta.{Mta}
use Rattle.words.specs.declared.Mta.TheVariants.{Unset, At}
use Rattle.words.specs.declared.Pointer.{Pointer}
use Rattle.words.specs.declared.Pointer.TheVariants.{Unset as NoEntry, At as Points}
use Rattle.model.specs.Model.{Bytes}
use Rattle.lists.specs.Lists.{runs_of, tag_of, switched, stopped, list_cleared, mode_set, head_of, entry_set, stop_each, start_one, start_selected, stop_one, stop_selected}
use Rattle.lists.specs.Alloc.{lists_allocated, odts_allocated, room_made, entries_allocated}
use Rattle.session.specs.Receive.{read_on}
use Rattle.fields.proofs.Stores.{both_tests}
use Rattle.fields.proofs.Fields.{more_few}
use Rattle.views.proofs.Bytes.{bytes_cons, bytes_set, bytes_take, bytes_drop, bytes_block}

-- ---- bytes written out, put together, and stored
abbrev low : List ℕ → Bool
low [] = true
low (x ∷ xs) = cond (ltb x 256) (low xs) false

pub no_bytes : Bytes []
no_bytes i = lit< tt

-- `tt` proves it of numbers that are written out
pub literal : (xs : List ℕ) → T (low xs) → Bytes xs
literal [] t = no_bytes
literal (x ∷ xs) t = let p = both_tests (ltb x 256) (low xs) t in bytes_cons x xs (ltb-true x 256 p.0) (literal xs p.1)

pub one_byte : (x : ℕ) → x < 256 → Bytes (x ∷ [])
one_byte x h = bytes_cons x [] h no_bytes

pub bytes_append : (xs ys : List ℕ) → Bytes xs → Bytes ys → Bytes (xs ++ ys)
bytes_append [] ys v w = w
bytes_append (x ∷ xs) ys v w = bytes_cons x (xs ++ ys) (v 0) (bytes_append xs ys (λ i. v (suc i)) w)

pub bytes_zeros : (n : ℕ) → Bytes (replicate n 0)
bytes_zeros zero = no_bytes
bytes_zeros (suc n) = bytes_cons 0 (replicate n 0) (lit< tt) (bytes_zeros n)

pub bytes_sets : (xs s : List ℕ) (i : ℕ) → Bytes s → Bytes xs → Bytes (sets s i xs)
bytes_sets [] s i w v = w
bytes_sets (x ∷ xs) s i w v = bytes_sets xs (set s i x) (suc i) (bytes_set s i x w (v 0)) (λ j. v (suc j))

bytes_cleared : (s : List ℕ) (i n : ℕ) → Bytes s → Bytes (cleared s i n)
unfolding cleared
bytes_cleared s i n w = bytes_sets (replicate n 0) s i w (bytes_zeros n)

-- whatever the number, its last byte
pub bytes_modulo : (s : List ℕ) (i x : ℕ) → Bytes s → Bytes (set s i (x % 256))
bytes_modulo s i x w = bytes_set s i (x % 256) w (mod-lt x (lit< tt))

pub bytes_put32 : (s : List ℕ) (i x : ℕ) → Bytes s → Bytes (put32 s i x)
unfolding put32
bytes_put32 s i x w =
    let s₁ : List ℕ = set s i (x % 256) in
    let s₂ : List ℕ = set s₁ (i + 1) (x / 256 % 256) in
    let s₃ : List ℕ = set s₂ (i + 2) (x / 65536 % 256) in
    bytes_modulo s₃ (i + 3) (x / 16777216) (bytes_modulo s₂ (i + 2) (x / 65536) (bytes_modulo s₁ (i + 1) (x / 256) (bytes_modulo s i x w)))

-- ---- the fields
bit_low : (r : Resource) → bit_of r < 256
bit_low Calibration = lit< tt
bit_low Lists = lit< tt

pub bytes_seed : (s : List ℕ) (x : Seed) → Bytes s → Bytes (set_seed s x)
unfolding set_seed
bytes_seed s None w = bytes_set s seed_at 0 w (lit< tt)
bytes_seed s (Some r) w = bytes_set s seed_at (bit_of r) w (bit_low r)

pub bytes_generator : (s : List ℕ) (x : ℕ) → Bytes s → Bytes (set_generator s x)
unfolding set_generator
bytes_generator s x w = bytes_put32 s generator_at x w

tag_low : (e : Extension) → mta_tag e < 256
tag_low CalibrationMemory = lit< tt
tag_low Measured = lit< tt

pub bytes_mta : (s : List ℕ) (m : Mta) → Bytes s → Bytes (set_mta s m)
unfolding set_mta
bytes_mta s Unset w = bytes_set s mta_at 0 w (lit< tt)
bytes_mta s (At e a) w = bytes_put32 (set s mta_at (mta_tag e)) address_at a (bytes_set s mta_at (mta_tag e) w (tag_low e))

-- an entry that there is in some state has a number of one byte
pub bytes_pointer : (s t : List ℕ) (p : Pointer) → Pointed s p → Bytes t → Bytes (set_pointer t p)
unfolding set_pointer
bytes_pointer s t NoEntry h w = bytes_set t pointer_at 0 w (lit< tt)
bytes_pointer s t (Points l o e) h w =
    let k : ℕ = first_odt s l + o in
    let few : e < entry_count s k = h.2 in
    let b : ℕ = all_odts * l + o + 1 in
    bytes_set (set t pointer_at (b % 256)) pointer_entry_at e (bytes_modulo t pointer_at b w) (omega (arith, entry_most_lem s k))

pub bytes_counted : (s : List ℕ) → Bytes s → Bytes (counted_wrong s)
unfolding counted_wrong
bytes_counted s w = bytes_set s wrong_keys_at _ w (let few : one_wrong_more (wrong_keys_of s) ≤ wrong_most = more_few (wrong_keys_of s) in omega arith)

bytes_dropped : (s : List ℕ) (k n : ℕ) → Bytes s → Bytes (dropped s k n)
unfolding dropped
bytes_dropped s k zero w = w
bytes_dropped s k (suc n) w = bytes_set (dropped s k n) (sample_at (k + n)) 0 (bytes_dropped s k n w) (lit< tt)

pub bytes_closed : (s : List ℕ) → Bytes s → Bytes (closed s)
unfolding closed
bytes_closed s w = bytes_cleared s session_at session_size w

pub bytes_fresh : (s : List ℕ) → Bytes s → Bytes (fresh s)
unfolding fresh
bytes_fresh s w = bytes_set (closed s) open_at 1 (bytes_closed s w) (lit< tt)

bytes_place : (s : List ℕ) (p : Place) → Bytes s → Bytes (set_place s p)
unfolding set_place
bytes_place s Outside w = bytes_set s place_at 0 w (lit< tt)
bytes_place s (Inside k) w = bytes_modulo (set s place_at 1) count_at k (bytes_set s place_at 1 w (lit< tt))
bytes_place s (Escaped k) w = bytes_modulo (set s place_at 2) count_at k (bytes_set s place_at 2 w (lit< tt))

bytes_message : (s m : List ℕ) → Bytes s → Bytes m → Bytes (set_message s m)
unfolding set_message
bytes_message s m w v =
    bytes_append (take message_at s) (m ++ drop answer_at s) (bytes_take message_at s w) (bytes_append m (drop answer_at s) v (bytes_drop answer_at s w))

pub bytes_read_on : (s : List ℕ) (f : Fed) → Bytes s → Bytes f.message → Bytes (read_on s f)
unfolding read_on
bytes_read_on s f w v = bytes_place (set_message s f.message) f.taken.place (bytes_message s f.message w v)

pub bytes_answered : (s bs : List ℕ) → Bytes s → Bytes bs → length bs ≤ packet_most → Bytes (answered s bs)
unfolding answered
bytes_answered s bs w v few = bytes_sets (length bs ∷ bs) s answer_at w (bytes_cons (length bs) bs (omega arith) v)

-- ---- the lists
pub bytes_switched : (s : List ℕ) (l on : ℕ) → on < 256 → Bytes s → Bytes (switched s l on)
unfolding switched
bytes_switched s l on h w = bytes_dropped (set s (running_at l) on) (first_odt s l) (odt_count s l) (bytes_set s (running_at l) on w h)

pub bytes_list_cleared : (s : List ℕ) (l : ℕ) → Bytes s → Bytes (list_cleared s l)
unfolding list_cleared
bytes_list_cleared s l w = bytes_cleared (cleared s (mode_at l) list_size) (entries_at (first_entry s (first_odt s l))) _ (bytes_cleared s (mode_at l) list_size w)

pub bytes_mode_set : (s : List ℕ) (l event : ℕ) → Bytes s → Bytes (mode_set s l event)
unfolding mode_set
bytes_mode_set s l event w = bytes_set (set s (mode_at l) ((event + 1) % 256)) (running_at l) 0 (bytes_modulo s (mode_at l) (event + 1) w) (lit< tt)

pub bytes_entry_set : (s : List ℕ) (l k e n : ℕ) (x : Extension) (a : ℕ) → Bytes s → Bytes (entry_set s l k e n x a)
unfolding entry_set
bytes_entry_set s l k e n x a w =
    let s₁ : List ℕ = set s (running_at l) 0 in
    bytes_modulo (set s₁ (entry_at s k e) (head_of n x a)) (entry_at s k e + 1) a
    (bytes_modulo s₁ (entry_at s k e) (32 * n + 16 * tag_of x + a / 256) (bytes_set s (running_at l) 0 w (lit< tt)))

pub bytes_selected : (s : List ℕ) (l on : ℕ) → on < 256 → Bytes s → Bytes (set s (selected_at l) on)
bytes_selected s l on h w = bytes_set s (selected_at l) on w h

pub bytes_stop_each : (s : List ℕ) (n : ℕ) → Bytes s → Bytes (stop_each s n)
unfolding stop_each
bytes_stop_each s zero w = w
bytes_stop_each s (suc n) w = bytes_selected (stopped (stop_each s n) n) n 0 (lit< tt) (bytes_switched (stop_each s n) n 0 (lit< tt) (bytes_stop_each s n w))

pub bytes_start_selected : (s : List ℕ) (n : ℕ) → Bytes s → Bytes (start_selected s n)
unfolding start_selected
bytes_start_selected s zero w = w
bytes_start_selected s (suc n) w =
    let t : List ℕ = start_selected s n in
    let v : Bytes t = bytes_start_selected s n w in
    bytes_selected (start_one t n) n 0 (lit< tt)
    (cond_ind Bytes (selected_of t n) (λ _. cond_ind Bytes (runs_of t n) (λ _. v) (λ _. bytes_switched t n 1 (lit< tt) v)) (λ _. v))

pub bytes_stop_selected : (s : List ℕ) (n : ℕ) → Bytes s → Bytes (stop_selected s n)
unfolding stop_selected
bytes_stop_selected s zero w = w
bytes_stop_selected s (suc n) w =
    let t : List ℕ = stop_selected s n in
    let v : Bytes t = bytes_stop_selected s n w in
    bytes_selected (stop_one t n) n 0 (lit< tt) (cond_ind Bytes (selected_of t n) (λ _. bytes_switched t n 0 (lit< tt) v) (λ _. v))

-- ---- the allocations
pub bytes_new_lists : (s : List ℕ) (n : ℕ) → Bytes s → Bytes (lists_allocated s n)
unfolding lists_allocated
bytes_new_lists s n w =
    let s₁ : List ℕ = cleared s odts_at (mode_at lists - odts_at) in
    bytes_modulo (set s₁ round_at 0) phase_at (n + 1) (bytes_set s₁ round_at 0 (bytes_cleared s odts_at (mode_at lists - odts_at) w) (lit< tt))

pub bytes_new_odts : (s : List ℕ) (l n : ℕ) → n < 256 → Bytes s → Bytes (odts_allocated s l n)
unfolding odts_allocated
bytes_new_odts s l n h w = let s₁ : List ℕ = dropped s 0 all_odts in bytes_set (cleared s₁ counts_at all_odts) (odts_at + l) n (bytes_cleared s₁ counts_at all_odts (bytes_dropped s 0 all_odts w)) h

bytes_copied : (d : List ℕ) (i : ℕ) (s : List ℕ) (from n : ℕ) → Bytes d → Bytes s → Bytes (copied d i s from n)
unfolding copied
bytes_copied d i s from n v w = bytes_sets (block s from n) d i v (bytes_block s from n w)

bytes_room : (s : List ℕ) (i m n : ℕ) → Bytes s → Bytes (room_made s i m n)
unfolding room_made
bytes_room s i m n w =
    let size : ℕ = entry_size * (m - i) in
    bytes_cleared (copied s (entries_at (i + n)) s (entries_at i) size) (entries_at i) (entry_size * n) (bytes_copied s (entries_at (i + n)) s (entries_at i) size w w)

pub bytes_new_entries : (s : List ℕ) (k n : ℕ) → n < 256 → Bytes s → Bytes (entries_allocated s k n)
unfolding entries_allocated
bytes_new_entries s k n h w =
    let s₁ : List ℕ = room_made s (first_entry s k) (entry_total s) n in
    bytes_pointer s (set s₁ (counts_at + k) n) (pointer_of s) (pointed s) (bytes_set s₁ (counts_at + k) n (bytes_room s (first_entry s k) (entry_total s) n w) h)
