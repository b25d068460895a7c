-- What the bytes show: of a list, an ODT, an entry that there is, its own bytes; of a list that there is not, nothing. Assumes nothing.
use Rattle.std.proofs.Common.{Some, ℕ, zero, suc, ◌+◌, ◌≤◌, ◌<◌, ◌≡◌, refl, sym, ap, ap₂, ◌∙◌, Bool, true, false, cond, List, ◌∷◌, ◌++◌, add-zero, add-suc, arith, ltb-false, eqb, ltb, leb, length, get_or, length-set, set}
use Rattle.line.proofs.Laws.{cond_ind}
use Rattle.state.specs.Layout.{size, odt_most, all_odts, all_entries, stored_most, packet_most, last_at, sample_at, answer_at, answer_bytes_at, running_at}
use Rattle.state.specs.Pool.{list_count, odts_in, first_odt, odt_count, odt_total, entries_in, first_entry, entry_count, entry_total}
use Rattle.state.specs.State.{flag_of, open_of, waits, answer_length, answer_kind, answer_of}
use Rattle.state.specs.Lists.{size_of, mode_of, selected_of, stored_length}
use Rattle.state.proofs.Sets.{block_length}
use Rattle.state.proofs.Ranges.{start_zero, start_next}
use Rattle.state.proofs.Allocated.{odt_most_lem}
use Rattle.model.specs.declared.Sampling.TheVariants.{Idle, Sampled, Missed}
use Rattle.model.specs.Model.{no_entry, no_odt, no_list, Odt, DaqList, odts_before, first_of, odts_taken, entries_of, entries_before, entries_taken, sizes_of, bytes_in, all_bytes, each_fits, fits, runs, runs_in, has_packet, some_packet, unsent}
use Rattle.model.specs.Judge.{startable}
use Rattle.model.specs.Calls.{block_in, blocks_in, or_else, round_in, turn_in, packet_from, sampling_in}
use Rattle.model.specs.View.{entry_of, odt_of, daq_of, lists_of, session_of, view_of}
use Rattle.model.proofs.Bounded.{up_to_at, up_to_above}
use Rattle.model.specs.declared.Sender.TheVariants.{Answer}

-- ---- a packet in store
pub stored_most_lem : (s : List ℕ) (k : ℕ) → stored_length s k ≤ stored_most
unfolding stored_length
stored_most_lem s k =
    let P : ℕ → Type 0 = λ (n : ℕ). n ≤ stored_most in
    cond_ind P (ltb stored_most (get_or s (sample_at k) 0)) (λ _. omega arith) (λ h. ltb-false stored_most (get_or s (sample_at k) 0) h)

pub stored_long : (s : List ℕ) (k : ℕ) → length s ≡ size → k < all_odts → length (odt_of s k).store ≡ stored_length s k
stored_long s k h q = block_length s (sample_at k + 1) (stored_length s k) (omega (arith, stored_most_lem s k))

-- an entry that there is, and one that there is not; one more entry's size and bytes
module _ (s : List ℕ) (k : ℕ) where
  pub entry_at_lem : (e : ℕ) → e < entry_count s k → (odt_of s k).entry e ≡ entry_of s k e
  entry_at_lem e h = up_to_at (entry_count s k) e no_entry (entry_of s k) h

  pub sizes_next : (n : ℕ) → n < entry_count s k → sizes_of (odt_of s k) (suc n) ≡ sizes_of (odt_of s k) n + size_of s k n
  unfolding sizes_of
  sizes_next n h = rw (entry_at_lem n h)

  pub blocks_next : (cal meas : List ℕ) (n : ℕ) → n < entry_count s k → blocks_in (odt_of s k) cal meas (suc n) ≡ blocks_in (odt_of s k) cal meas n ++ block_in (entry_of s k n) cal meas
  unfolding blocks_in
  blocks_next cal meas n h = rw (entry_at_lem n h)

module _ (s : List ℕ) where
  pub list_at : (l : ℕ) → l < list_count s → (session_of s).list l ≡ daq_of s l
  unfolding session_of lists_of
  list_at l h = up_to_at (list_count s) l no_list (daq_of s) h

  pub no_list_lem : (l : ℕ) → list_count s ≤ l → (session_of s).list l ≡ no_list
  unfolding session_of lists_of
  no_list_lem l h = up_to_above (list_count s) l no_list (daq_of s) h

  -- a list that there is not can not be started, and does not run
  pub unlisted_fits : (l : ℕ) → list_count s ≤ l → fits ((session_of s).list l) ≡ false
  unfolding fits
  unlisted_fits l h = rw (no_list_lem l h)

  pub unlisted_runs : (l : ℕ) → list_count s ≤ l → runs_in (session_of s) l ≡ false
  unfolding runs
  unlisted_runs l h = rw (no_list_lem l h) (cond_ind (λ (b : Bool). b ≡ false) (session_of s).opened (λ _. refl) (λ _. refl))

pub open_at_lem : (s : List ℕ) → (session_of s).opened ≡ open_of s
unfolding session_of
open_at_lem s = refl

-- a list that there is
module _ (s : List ℕ) (l : ℕ) (there : l < list_count s) where
  pub mode_at_lem : ((session_of s).list l).mode ≡ mode_of s l
  mode_at_lem = ap (λ (x : DaqList). x.mode) (list_at s l there)

  pub selected_at_lem : ((session_of s).list l).selected ≡ selected_of s l
  selected_at_lem = ap (λ (x : DaqList). x.selected) (list_at s l there)

  pub started_at : ((session_of s).list l).started ≡ flag_of s (running_at l)
  started_at = ap (λ (x : DaqList). x.started) (list_at s l there)

  pub odts_at_lem : ((session_of s).list l).odts ≡ odt_count s l
  odts_at_lem = ap (λ (x : DaqList). x.odts) (list_at s l there)

  pub odt_at : (o : ℕ) → o < odt_count s l → ((session_of s).list l).odt o ≡ odt_of s (first_odt s l + o)
  odt_at o h = ap (λ (x : DaqList). x.odt o) (list_at s l there) ∙ up_to_at (odt_count s l) o no_odt (λ o. odt_of s (first_odt s l + o)) h

  pub packet_at_lem : (o : ℕ) → length s ≡ size → o < odt_count s l → has_packet (((session_of s).list l).odt o) ≡ ltb 0 (stored_length s (first_odt s l + o))
  packet_at_lem o whole h = ap has_packet (odt_at o h) ∙ ap (ltb 0) (stored_long s (first_odt s l + o) whole (omega (arith, odt_most_lem s l)))

  pub fits_at : fits ((session_of s).list l)
      ≡ cond (eqb (mode_of s l) 0) false (cond (eqb (all_bytes ((session_of s).list l) (odt_count s l)) 0) false (each_fits ((session_of s).list l) (odt_count s l)))
  unfolding fits
  fits_at = rw (mode_at_lem, odts_at_lem)

  pub runs_at : runs_in (session_of s) l ≡ cond (open_of s) (cond (flag_of s (running_at l)) (ltb 0 (odt_count s l)) false) false
  unfolding runs session_of
  runs_at = ap₂ (λ (b : Bool) (n : ℕ). cond (open_of s) (cond b (ltb 0 n) false) false) started_at odts_at_lem

  pub startable_at : startable (session_of s) l ≡ cond (selected_of s l) (cond (runs_in (session_of s) l) true (fits ((session_of s).list l))) true
  startable_at = ap (λ (b : Bool). cond b (cond (runs_in (session_of s) l) true (fits ((session_of s).list l))) true) selected_at_lem

  pub sampling_at : (event : ℕ) → sampling_in (session_of s) l event ≡ cond (eqb (mode_of s l) (event + 1)) (cond (runs_in (session_of s) l) (cond (unsent ((session_of s).list l)) Missed Sampled) Idle) Idle
  unfolding sampling_in
  sampling_at event = rw mode_at_lem

  -- one ODT more
  module _ (o : ℕ) (h : o < odt_count s l) where
    pub all_next : all_bytes ((session_of s).list l) (suc o) ≡ all_bytes ((session_of s).list l) o + bytes_in (odt_of s (first_odt s l + o))
    unfolding all_bytes
    all_next = ap (λ (y : Odt). all_bytes ((session_of s).list l) o + bytes_in y) (odt_at o h)

    pub each_next : each_fits ((session_of s).list l) (suc o) ≡ cond (each_fits ((session_of s).list l) o) (leb (bytes_in (odt_of s (first_odt s l + o))) (odt_most o)) false
    unfolding each_fits
    each_next = ap (λ (y : Odt). cond (each_fits ((session_of s).list l) o) (leb (bytes_in y) (odt_most o)) false) (odt_at o h)

    pub some_next : length s ≡ size → some_packet ((session_of s).list l) (suc o) ≡ cond (some_packet ((session_of s).list l) o) true (ltb 0 (stored_length s (first_odt s l + o)))
    unfolding some_packet
    some_next whole = ap (λ (b : Bool). cond (some_packet ((session_of s).list l) o) true b) (packet_at_lem o whole h)

-- ---- what of the pool is taken
module _ (s : List ℕ) where
  pub first_at : (n : ℕ) → n ≤ list_count s → odts_before (lists_of s) n ≡ first_odt s n
  unfolding odts_before session_of
  first_at zero h = sym (start_zero all_odts (odts_in s))
  first_at (suc n) h = rw (odts_at_lem s n (omega arith)) (omega (arith, first_at n (omega arith), start_next all_odts (odts_in s) n))

  pub first_of_lem : (n : ℕ) → n ≤ list_count s → first_of (session_of s) n ≡ first_odt s n
  unfolding session_of
  first_of_lem n h = first_at n h

  pub odts_taken_lem : odts_taken (session_of s) ≡ odt_total s
  unfolding session_of
  odts_taken_lem = first_at (list_count s) (omega arith)

  -- of list l, which there is, and of the first n lists
  entries_of_lem : (l : ℕ) → l < list_count s → (n : ℕ) → n ≤ odt_count s l → first_entry s (first_odt s l) + entries_of (lists_of s l) n ≡ first_entry s (first_odt s l + n)
  unfolding entries_of session_of
  entries_of_lem l h zero p = rw (add-zero, add-zero)
  entries_of_lem l h (suc n) p =
      rw (odt_at s l h n (omega arith), add-suc) (omega (arith, entries_of_lem l h n (omega arith), start_next all_entries (entries_in s) (first_odt s l + n)))

  entries_before_lem : (n : ℕ) → n ≤ list_count s → entries_before (lists_of s) n ≡ first_entry s (first_odt s n)
  unfolding entries_before session_of
  entries_before_lem zero h = rw (start_zero all_odts (odts_in s)) (sym (start_zero all_entries (entries_in s)))
  entries_before_lem (suc n) h =
      let its : first_entry s (first_odt s n) + entries_of (lists_of s n) (odt_count s n) ≡ first_entry s (first_odt s n + odt_count s n) = entries_of_lem n (omega arith) (odt_count s n) (omega arith) in
      ap₂ (λ (a b : ℕ). a + entries_of (lists_of s n) b) (entries_before_lem n (omega arith)) (odts_at_lem s n (omega arith)) ∙ its ∙ ap (first_entry s) (sym (start_next all_odts (odts_in s) n))

  pub entries_taken_lem : entries_taken (session_of s) ≡ entry_total s
  unfolding session_of
  entries_taken_lem = entries_before_lem (list_count s) (omega arith)

-- the packet of list l's ODT o
pub packet_by_lem : (s : List ℕ) (l o : ℕ) → l < list_count s → o < odt_count s l → packet_from (session_of s) l o ≡ (first_odt s l + o) ∷ (odt_of s (first_odt s l + o)).store
unfolding packet_from
packet_by_lem s l o h p = rw (first_of_lem s l (omega arith)) (ap (λ (y : Odt). (first_odt s l + o) ∷ y.store) (odt_at s l h o p))

-- ---- the answer that waits, and whose turn it is
pub answer_most : (s : List ℕ) → answer_length s ≤ packet_most
unfolding answer_length
answer_most s =
    let P : ℕ → Type 0 = λ (n : ℕ). n ≤ packet_most in
    cond_ind P (eqb (get_or s answer_at 0) 0) (λ _. omega arith)
    (λ _. cond_ind P (ltb packet_most (get_or s answer_at 0)) (λ _. omega arith) (λ h. ltb-false packet_most (get_or s answer_at 0) h))

pub answer_long : (s : List ℕ) → length s ≡ size → length (answer_of s) ≡ answer_length s
unfolding answer_of
answer_long s h = block_length (set s answer_bytes_at (answer_kind s)) answer_bytes_at (answer_length s) (rw length-set (omega (arith, answer_most s)))

pub turn_at : (s : List ℕ) → length s ≡ size
    → turn_in (view_of s) ≡ cond (waits s) (cond (flag_of s last_at) (or_else (round_in (session_of s)) (Some Answer)) (Some Answer)) (round_in (session_of s))
unfolding turn_in view_of
turn_at s h = rw (answer_long s h)
