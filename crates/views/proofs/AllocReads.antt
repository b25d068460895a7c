-- ALLOC_ODT_ENTRY in bytes: its ODT has the new entries, each of size 0, and every other one reads as before. Assumes nothing.
use Rattle.std.proofs.Common.{◌≡◌, ℕ, ◌+◌, ◌*◌, ◌<◌, ◌≤◌, T, ◌≢◌, List, length, get_or, set, refl, ◌∙◌, add-zero, arith, lit<, lit≤, length-set, get_or-set_other, get_or-set_same}
use Rattle.state.specs.Layout.{size, lists, all_odts, all_entries, phase_at, counts_at, mode_at, entry_size, entries_at, sample_at}
use Rattle.state.specs.Pool.{list_count, first_odt, odt_count, odt_total, entries_in, first_entry, entry_count, entry_total, entry_at}
use Rattle.state.specs.State.{Pointed}
use Rattle.state.specs.Lists.{size_of, extension_of, address_of}
use Rattle.state.proofs.Ranges.{by_lt, grown_before, grown_behind, grown_here, grown_others}
use Rattle.state.proofs.Allocated.{lists_most, lists_same, first_most_lem, first_odt_same, odt_count_same, odt_inside, entry_inside, entry_before}
use Rattle.words.specs.declared.Pointer.{Pointer}
use Rattle.words.specs.declared.Pointer.TheVariants.{Unset as NoEntry, At as Entry}
use Rattle.lists.specs.Alloc.{room_made}
use Rattle.fields.proofs.Frames.{Only, out_below, only_wider, only_set}
use Rattle.fields.proofs.Readers.{Same, clear, same_part, same_then, apart, entry_by, store_own}
use Rattle.fields.proofs.Effects.{only_room}
use Rattle.model.specs.Model.{no_entry}
use Rattle.model.specs.Step.{with_entries}
use Rattle.model.specs.View.{entry_of, odt_of}
use Rattle.model.proofs.Bounded.{up_to_is, up_to_same}
use Rattle.views.proofs.Parts.{odt_from}
use Rattle.views.proofs.Moved.{room_new, room_moved}

-- room made, and the new entries counted
abbrev pub counted : List ℕ → ℕ → ℕ → List ℕ
counted s k n = set (room_made s (first_entry s k) (entry_total s) n) (counts_at + k) n

module _ (s : List ℕ) (k n : ℕ) (h : length s ≡ size) (one : k < odt_total s) (was : entry_count s k ≡ 0) (fits : entry_total s + n ≤ all_entries) where
  abbrev roomy : List ℕ
  roomy = room_made s (first_entry s k) (entry_total s) n

  abbrev t : List ℕ
  t = counted s k n

  odts_few : odt_total s ≤ all_odts
  odts_few = first_most_lem s (list_count s)

  first_inside : first_entry s k ≤ entry_total s
  first_inside = omega (arith, entry_inside s k one)

  room_only : Only (entries_at (first_entry s k)) (sample_at 0) s roomy
  room_only = only_room s (first_entry s k) (entry_total s) n first_inside fits

  pub counted_long : length t ≡ size
  counted_long = length-set roomy (counts_at + k) n ∙ room_only.long ∙ h

  pub beside_entries : {a b : ℕ} → T (clear counts_at (mode_at 0) a b) → T (clear (entries_at 0) (sample_at 0) a b) → Same a b s t
  beside_entries p q =
      let w : Only (entries_at 0) (sample_at 0) s roomy = only_wider (omega arith) (omega arith) room_only in
      let v : Only counts_at (mode_at 0) roomy t = only_set roomy (counts_at + k) n (omega arith) (omega (arith, odts_few)) in
      same_then (apart q w) (apart p v)

  -- ---- how many entries there are
  own : entries_in t k ≡ n
  own = get_or-set_same roomy (counts_at + k) n 0 (omega (arith, room_only.long, odts_few))

  other : (i : ℕ) → i < odt_total s → i ≢ k → entries_in t i ≡ entries_in s i
  other i p ne =
      get_or-set_other roomy (counts_at + k) (counts_at + i) n 0 (omega arith)
      ∙ room_only.bytes (counts_at + i) (out_below (entries_at (first_entry s k)) (sample_at 0) (counts_at + i) (omega (arith, odts_few)))

  entries_made : entry_count t k ≡ n
  entries_made = grown_here all_entries (entries_in s) (entries_in t) k n (odt_total s) one was own other fits

  entries_kept : (i : ℕ) → i < odt_total s → i ≢ k → entry_count t i ≡ entry_count s i
  entries_kept = grown_others all_entries (entries_in s) (entries_in t) k n (odt_total s) one was own other fits

  entries_before_lem : (i : ℕ) → i ≤ k → first_entry t i ≡ first_entry s i
  entries_before_lem = grown_before all_entries (entries_in s) (entries_in t) k n (odt_total s) one was own other fits

  entries_behind : (i : ℕ) → k < i → i ≤ odt_total s → first_entry t i ≡ first_entry s i + n
  entries_behind = grown_behind all_entries (entries_in s) (entries_in t) k n (odt_total s) one was own other fits

  -- ---- how they read
  table : (j : ℕ) → entries_at 0 ≤ j → get_or t j 0 ≡ get_or roomy j 0
  table j p = get_or-set_other roomy (counts_at + k) j n 0 (omega (arith, odts_few))

  byte_new : (e b : ℕ) → e < n → b < entry_size → get_or t (entry_at t k e + b) 0 ≡ 0
  byte_new e b p q =
      let at : ℕ = entry_at s k e + b in
      rw (entries_before_lem k (omega arith)) (table at (omega arith) ∙ room_new s (first_entry s k) (entry_total s) n h first_inside fits at (omega arith) (omega arith))

  byte_kept : (i e b : ℕ) → i < odt_total s → i ≢ k → e < entry_count s i → b < entry_size → get_or t (entry_at t i e + b) 0 ≡ get_or s (entry_at s i e + b) 0
  byte_kept i e b there ne p q =
      let at : ℕ = entry_at s i e + b in
      by_lt i k
      (λ l. rw (entries_before_lem i (omega arith))
      (table at (omega arith) ∙ room_only.bytes at (out_below (entries_at (first_entry s k)) (sample_at 0) at (omega (arith, entry_before s i k l)))))
      (λ l. let moved : entry_at t i e + b ≡ at + entry_size * n = omega (arith, entries_behind i (omega arith) (omega arith)) in
      rw moved
      (table (at + entry_size * n) (omega arith)
      ∙ room_moved s (first_entry s k) (entry_total s) n h first_inside fits at (omega (arith, entry_before s k i (omega arith))) (omega (arith, entry_inside s i there))))

  new_entry : (e : ℕ) → e < n → entry_of t k e ≡ no_entry
  unfolding size_of extension_of address_of
  new_entry e p = simp (rw add-zero at (byte_new e 0 p (lit< tt)), byte_new e 1 p (lit< tt))

  kept_entry : (i e : ℕ) → i < odt_total s → i ≢ k → e < entry_count s i → entry_of t i e ≡ entry_of s i e
  kept_entry i e there ne p = entry_by s t i e (rw (add-zero, add-zero) at (byte_kept i e 0 there ne p (lit< tt))) (byte_kept i e 1 there ne p (lit< tt))

  pub made_odt : odt_of t k ≡ with_entries n (odt_of s k)
  made_odt =
      odt_from entries_made (up_to_is (entry_count t k) no_entry (λ e p. new_entry e (omega (arith, entries_made))) (λ e p. refl))
      (store_own k (same_part (omega arith) (omega (arith, odts_few)) (beside_entries {a = sample_at 0} {b = size} tt tt)))

  pub kept_odt : (i : ℕ) → i < odt_total s → i ≢ k → odt_of t i ≡ odt_of s i
  kept_odt i there ne =
      odt_from (entries_kept i there ne) (rw (entries_kept i there ne) (up_to_same (entry_count s i) no_entry (λ e p. kept_entry i e there ne p)))
      (store_own i (same_part (omega arith) (omega (arith, odts_few)) (beside_entries {a = sample_at 0} {b = size} tt tt)))

  -- ---- the lists and their ODTs are as they were
  before_counts : Same phase_at counts_at s t
  before_counts = beside_entries tt tt

  pub lists_kept : list_count t ≡ list_count s
  lists_kept = lists_same t s (before_counts.byte phase_at (lit≤ tt) (lit< tt))

  pub first_kept : (l : ℕ) → l < lists → first_odt t l ≡ first_odt s l
  first_kept l p = first_odt_same t s (λ j a b. before_counts.byte j (omega arith) b) l (omega arith)

  pub odts_kept : (l : ℕ) → l < lists → odt_count t l ≡ odt_count s l
  odts_kept l p = odt_count_same t s (λ j a b. before_counts.byte j (omega arith) b) l p

  -- an entry that was there is there still
  not_new : (i e : ℕ) → e < entry_count s i → i ≢ k
  not_new i e p same = let q = rw same at p in omega (arith, was)

  pub still_pointed : (p : Pointer) → Pointed s p → Pointed t p
  still_pointed NoEntry w = tt
  still_pointed (Entry l o e) w =
      let few : l < lists = omega (arith, w.0, lists_most s) in
      let odt : first_odt s l + o < odt_total s = omega (arith, w.1, odt_inside s l w.0) in
      (rw lists_kept w.0, rw (odts_kept l few) w.1, rw (first_kept l few, entries_kept (first_odt s l + o) odt (not_new (first_odt s l + o) e w.2)) w.2)
