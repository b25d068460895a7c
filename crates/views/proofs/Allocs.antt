-- What FREE_DAQ and the three allocations show: the session with its lists freed, or with new lists, ODTs or entries, of which nothing is set. Assumes nothing.
use Rattle.std.proofs.Common.{◌≡◌, ℕ, suc, ◌+◌, ◌-◌, ◌%◌, ◌<◌, ◌≤◌, Bool, true, cond, T, eqb, ltb, ◌≢◌, List, length, get_or, set, sym, refl, ap, ◌∙◌, mod-eq_of_lt, zero-add, arith, lit<, lit≤, length-set, get_or-set_other, get_or-set_same, le-ltb, lt-ltb, eq-eqb, ne_eqb}
use Rattle.line.proofs.Laws.{cond_ind}
use Rattle.state.specs.Layout.{size, lists, all_odts, all_entries, generator_at, ctr_at, round_at, last_at, open_at, pointer_at, phase_at, odts_at, counts_at, mode_at, selected_at, running_at, entries_at, sample_at}
use Rattle.state.specs.Bytes.{cleared}
use Rattle.state.specs.Pool.{phase_of, freed_of, list_count, round_of, odts_in, first_odt, odt_count, odt_total, entries_in, entry_count, entry_total}
use Rattle.state.specs.State.{flag_of, pointer_of, Pointed, dropped}
use Rattle.state.specs.Lists.{mode_of, selected_of}
use Rattle.state.proofs.Ranges.{apart_of, start_none, grown_here, grown_others}
use Rattle.state.proofs.Allocated.{lists_most, phase_same, lists_same, round_same, odt_most_lem, odt_inside, entry_inside}
use Rattle.state.proofs.Pointers.{pointed}
use Rattle.state.proofs.Sets.{cleared_length}
use Rattle.words.specs.declared.Pointer.{Pointer}
use Rattle.words.specs.declared.Pointer.TheVariants.{Unset as NoEntry, At as Entry}
use Rattle.lists.specs.Alloc.{lists_freed, lists_allocated, odts_allocated, entries_allocated}
use Rattle.fields.proofs.Stores.{cleared_in}
use Rattle.fields.proofs.Frames.{Only, out_below, out_above, only_set, only_cleared, only_dropped}
use Rattle.fields.proofs.Readers.{Same, clear, same_part, same_within, same_then, apart, flag_reads, generator_reads, wrong_keys_reads, open_reads, seed_reads, mta_reads}
use Rattle.fields.proofs.Fields.{no_round, dropped_empty}
use Rattle.model.specs.Model.{up_to, put, no_entry, Odt, no_odt, DaqList, no_list, Session}
use Rattle.model.specs.Step.{with_pointer, at, each_list, with_odts, with_entries, alloc_entries, without_lists, with_new_lists}
use Rattle.model.specs.View.{odt_of, daq_of, lists_of, session_of}
use Rattle.model.proofs.Bounded.{up_to_at, up_to_above, up_to_is, up_to_same, up_to_put}
use Rattle.views.proofs.Parts.{this_or_other, odt_from, list_from, mode_own, locks_reads}
use Rattle.views.proofs.Shows.{shows_pointer, no_lists_lem, flag_zero, store_empty}
use Rattle.views.proofs.AllocReads.{counted, counted_long, beside_entries, made_odt, kept_odt, lists_kept, first_kept, odts_kept, still_pointed}

-- ---- the bytes before the pointer as they were: so is all but the lists
abbrev relisted : Session → Pointer → Bool → ℕ → ℕ → (ℕ → DaqList) → Session
relisted c p f n r g = record { generator = c.generator; wrong_keys = c.wrong_keys; opened = c.opened; unlocked = c.unlocked; seed = c.seed; mta = c.mta; pointer = p; freed = f; lists = n; round = r; list = g }

in_alloc : {s t : List ℕ} {p : Pointer} {f : Bool} {n r : ℕ} {g : ℕ → DaqList} → Same generator_at ctr_at s t → Same open_at pointer_at s t
    → pointer_of t ≡ p → freed_of t ≡ f → list_count t ≡ n → round_of t ≡ r → lists_of t ≡ g → session_of t ≡ relisted (session_of s) p f n r g
unfolding session_of
in_alloc w v p f n r g = λ i. record {
  generator = generator_reads (same_within tt w) i;
  wrong_keys = wrong_keys_reads (same_within tt w) i;
  opened = open_reads (same_within tt v) i;
  unlocked = locks_reads (same_within tt v) i;
  seed = seed_reads (same_within tt w) (same_within tt v) i;
  mta = mta_reads (same_within tt v) i;
  pointer = p i;
  freed = f i;
  lists = n i;
  round = r i;
  list = g i;
}

-- ---- what there is not
module _ (s : List ℕ) where
  -- no entry, and so no pointer
  unset_by : (p : Pointer) → Pointed s p → ((l o e : ℕ) → l < list_count s → o < odt_count s l → e < entry_count s (first_odt s l + o) → ⊥) → p ≡ NoEntry
  unset_by NoEntry h none = refl
  unset_by (Entry l o e) h none = absurd (none l o e h.0 h.1 h.2)

  unpointed : ((l o e : ℕ) → l < list_count s → o < odt_count s l → e < entry_count s (first_odt s l + o) → ⊥) → pointer_of s ≡ NoEntry
  unpointed none = unset_by (pointer_of s) (pointed s) none

  unlisted_pointer : list_count s ≡ 0 → pointer_of s ≡ NoEntry
  unlisted_pointer none = unpointed (λ l o e p q r. omega arith)

-- ---- FREE_DAQ
module _ (s : List ℕ) (h : length s ≡ size) where
  freed_phase : phase_of (lists_freed s) ≡ 1
  unfolding phase_of
  freed_phase = simp (get_or-set_same s phase_at 1 0 (omega arith))

  pub shows_freed : session_of (lists_freed s) ≡ without_lists (session_of s)
  shows_freed =
      let t : List ℕ = lists_freed s in
      let w : Only phase_at odts_at s t = only_set s phase_at 1 (lit≤ tt) (lit< tt) in
      let none : list_count t ≡ 0 = omega (arith, freed_phase) in
      in_alloc (apart tt w) (apart tt w) (unlisted_pointer t none) (rw freed_phase refl) none (no_round t none) (no_lists_lem t none)

-- ---- ALLOC_DAQ
module _ (s : List ℕ) (n : ℕ) (h : length s ≡ size) (few : n ≤ lists) where
  abbrev t : List ℕ
  t = lists_allocated s n

  abbrev bare : List ℕ
  bare = cleared s odts_at (mode_at lists - odts_at)

  bare_long : length bare ≡ size
  bare_long = cleared_length s odts_at (mode_at lists - odts_at) ∙ h

  nought : (j : ℕ) → odts_at ≤ j → j < mode_at lists → get_or t j 0 ≡ 0
  unfolding lists_allocated
  nought j p q =
      get_or-set_other (set bare round_at 0) phase_at j ((n + 1) % 256) 0 (omega arith) ∙ get_or-set_other bare round_at j 0 0 (omega arith)
      ∙ cleared_in s odts_at (mode_at lists - odts_at) j (omega arith) p (omega arith)

  new_phase : phase_of t ≡ n + 1
  unfolding phase_of lists_allocated
  new_phase =
      let byte : (n + 1) % 256 ≡ n + 1 = mod-eq_of_lt (omega arith) in
      let at : get_or t phase_at 0 ≡ n + 1 = get_or-set_same (set bare round_at 0) phase_at ((n + 1) % 256) 0 (rw length-set (omega (arith, bare_long))) ∙ byte in
      simp (at, le-ltb (lists + 1) (n + 1) (omega arith))

  new_round : round_of t ≡ 0
  unfolding round_of lists_allocated
  new_round =
      cond_ind (λ (r : ℕ). r ≡ 0) (ltb (get_or t round_at 0) (list_count t))
      (λ _. get_or-set_other (set bare round_at 0) phase_at round_at ((n + 1) % 256) 0 (omega arith) ∙ get_or-set_same bare round_at 0 0 (omega (arith, bare_long)))
      (λ _. refl)

  no_odts : (l : ℕ) → l < lists → odt_count t l ≡ 0
  no_odts l p =
      let z : (i : ℕ) → i < suc l → odts_in t i ≡ 0 = λ i q. nought (odts_at + i) (omega arith) (omega arith) in
      omega (arith, start_none all_odts (odts_in t) (suc l) z)

  new_list : (l : ℕ) → l < lists → daq_of t l ≡ no_list
  unfolding mode_of
  new_list l p =
      list_from (simp (nought (mode_at l) (omega arith) (omega arith))) (flag_zero t (selected_at l) (nought (selected_at l) (omega arith) (omega arith)))
      (flag_zero t (running_at l) (nought (running_at l) (omega arith) (omega arith)))
      (no_odts l p) (up_to_is (odt_count t l) no_odt (λ o q. absurd (omega (arith, no_odts l p))) (λ o q. refl))

  new_lists : lists_of t ≡ λ l. no_list
  unfolding lists_of
  new_lists = up_to_is (list_count t) no_list (λ l p. new_list l (omega (arith, new_phase))) (λ l p. refl)

  new_same : {a b : ℕ} → T (clear round_at last_at a b) → T (clear phase_at (mode_at lists) a b) → Same a b s t
  unfolding lists_allocated
  new_same p q =
      let w : Only phase_at (mode_at lists) s bare = only_cleared s odts_at (mode_at lists - odts_at) (lit≤ tt) (lit≤ tt) in
      let v : Only round_at last_at bare (set bare round_at 0) = only_set bare round_at 0 (lit≤ tt) (lit< tt) in
      let u : Only phase_at (mode_at lists) (set bare round_at 0) t = only_set (set bare round_at 0) phase_at ((n + 1) % 256) (lit≤ tt) (lit< tt) in
      same_then (apart q w) (same_then (apart p v) (apart q u))

  pub shows_new_lists : list_count s ≡ 0 → freed_of s ≡ true → session_of (lists_allocated s n) ≡ with_new_lists n (session_of s)
  unfolding session_of
  shows_new_lists none freed =
      in_alloc (new_same tt tt) (new_same tt tt) (unpointed t (λ l o e p q r. omega (arith, no_odts l (omega (arith, lists_most t)))) ∙ sym (unlisted_pointer s none))
      (rw new_phase (lt-ltb 0 (n + 1) (omega arith)) ∙ sym freed) (omega (arith, new_phase)) (new_round ∙ sym (no_round s none)) new_lists

-- ---- ALLOC_ODT
module _ (s : List ℕ) (l n : ℕ) (h : length s ≡ size) (one : l < list_count s) (was : odt_count s l ≡ 0) (empty : entry_total s ≡ 0) (fits : odt_total s + n ≤ all_odts) where
  abbrev u : List ℕ
  u = odts_allocated s l n

  abbrev unsent : List ℕ
  unsent = dropped s 0 all_odts

  abbrev uncounted : List ℕ
  uncounted = cleared unsent counts_at all_odts

  unsent_long : length unsent ≡ size
  unsent_long = (only_dropped s 0 all_odts).long ∙ h

  beside_odts : {a b : ℕ} → T (clear odts_at (mode_at 0) a b) → T (clear (sample_at 0) size a b) → Same a b s u
  unfolding odts_allocated
  beside_odts p q =
      let w : Only (sample_at 0) size s unsent = only_dropped s 0 all_odts in
      let v : Only odts_at (mode_at 0) unsent uncounted = only_cleared unsent counts_at all_odts (lit≤ tt) (lit≤ tt) in
      let x : Only odts_at (mode_at 0) uncounted u = only_set uncounted (odts_at + l) n (omega arith) (omega (arith, lists_most s)) in
      same_then (apart q w) (same_then (apart p v) (apart p x))

  odts_own : odts_in u l ≡ n
  unfolding odts_allocated
  odts_own = get_or-set_same uncounted (odts_at + l) n 0 (omega (arith, lists_most s, cleared_length unsent counts_at all_odts, unsent_long))

  odts_other : (i : ℕ) → i < list_count s → i ≢ l → odts_in u i ≡ odts_in s i
  unfolding odts_allocated
  odts_other i p ne =
      get_or-set_other uncounted (odts_at + l) (odts_at + i) n 0 (omega arith)
      ∙ (only_cleared {lo = counts_at} {hi = mode_at 0} unsent counts_at all_odts (lit≤ tt) (lit≤ tt)).bytes (odts_at + i) (out_below counts_at (mode_at 0) (odts_at + i) (omega (arith, lists_most s)))
      ∙ (only_dropped s 0 all_odts).bytes (odts_at + i) (out_below (sample_at 0) (sample_at (0 + all_odts)) (odts_at + i) (omega (arith, lists_most s)))

  -- no ODT has an entry or a packet
  no_entries_lem : (k : ℕ) → k < all_odts → entry_count u k ≡ 0
  unfolding odts_allocated
  no_entries_lem k p =
      let z : (i : ℕ) → i < suc k → entries_in u i ≡ 0
      = λ i q. get_or-set_other uncounted (odts_at + l) (counts_at + i) n 0 (omega (arith, lists_most s))
      ∙ cleared_in unsent counts_at all_odts (counts_at + i) (omega (arith, unsent_long)) (omega arith) (omega arith) in
      omega (arith, start_none all_entries (entries_in u) (suc k) z)

  no_packet : (k : ℕ) → k < all_odts → get_or u (sample_at k) 0 ≡ 0
  unfolding odts_allocated
  no_packet k p =
      get_or-set_other uncounted (odts_at + l) (sample_at k) n 0 (omega (arith, lists_most s))
      ∙ (only_cleared {lo = counts_at} {hi = mode_at 0} unsent counts_at all_odts (lit≤ tt) (lit≤ tt)).bytes (sample_at k) (out_above counts_at (mode_at 0) (sample_at k) (omega arith))
      ∙ (rw zero-add at (dropped_empty s 0 all_odts k h (lit≤ tt) p))

  new_odt : (k : ℕ) → k < all_odts → odt_of u k ≡ no_odt
  new_odt k p =
      odt_from (no_entries_lem k p) (up_to_is (entry_count u k) no_entry (λ e q. absurd (omega (arith, no_entries_lem k p))) (λ e q. refl)) (store_empty u k (no_packet k p))

  odts_phase : get_or u phase_at 0 ≡ get_or s phase_at 0
  odts_phase = (beside_odts {a = phase_at} {b = odts_at} tt tt).byte phase_at (lit≤ tt) (lit< tt)

  odts_in_lem : (i : ℕ) → i < list_count s → odt_count u i ≡ cond (eqb i l) n (odt_count s i)
  odts_in_lem i p =
      this_or_other i l
      (λ e. rw (e, eq-eqb l l refl) (grown_here all_odts (odts_in s) (odts_in u) l n (list_count s) one was odts_own odts_other fits))
      (λ ne. rw (ne_eqb i l ne) (grown_others all_odts (odts_in s) (odts_in u) l n (list_count s) one was odts_own odts_other fits i p ne))

  odts_listed : (i : ℕ) → i < list_count s → daq_of u i ≡ with_odts l n i (daq_of s i)
  odts_listed i p =
      let w : Same (mode_at 0) (sample_at 0) s u = beside_odts tt tt in
      list_from (mode_own i (same_part (omega arith) (omega (arith, lists_most s)) w)) (flag_reads (selected_at i) (same_part (omega arith) (omega (arith, lists_most s)) w))
      (flag_reads (running_at i) (same_part (omega arith) (omega (arith, lists_most s)) w)) (odts_in_lem i p)
      (up_to_is (odt_count u i) no_odt (λ o q. new_odt (first_odt u i + o) (omega (arith, odt_most_lem u i))) (λ o q. refl))

  odts_lists : lists_of u ≡ λ i. with_odts l n i (lists_of s i)
  unfolding lists_of
  odts_lists =
      let same : list_count u ≡ list_count s = lists_same u s odts_phase in
      up_to_is (list_count u) no_list (λ i p. odts_listed i (omega arith) ∙ ap (with_odts l n i) (sym (up_to_at (list_count s) i no_list (daq_of s) (omega arith))))
      (λ i p. list_from refl refl refl (sym (rw (ne_eqb i l (omega arith)))) refl ∙ ap (with_odts l n i) (sym (up_to_above (list_count s) i no_list (daq_of s) (omega arith))))

  pub shows_new_odts : session_of (odts_allocated s l n) ≡ each_list (with_odts l n) (session_of s)
  unfolding session_of
  shows_new_odts =
      in_alloc (beside_odts tt tt) (beside_odts tt tt)
      (unpointed u (λ i o e p q r. omega (arith, no_entries_lem (first_odt u i + o) (omega (arith, odt_most_lem u i))))
      ∙ sym (unpointed s (λ i o e p q r. omega (arith, odt_inside s i p, entry_inside s (first_odt s i + o) (omega (arith, odt_inside s i p))))))
      (rw (phase_same u s odts_phase)) (lists_same u s odts_phase)
      (round_same u s odts_phase ((beside_odts {a = round_at} {b = last_at} tt tt).byte round_at (lit≤ tt) (lit< tt))) odts_lists

-- ---- ALLOC_ODT_ENTRY
module _ (s : List ℕ) (l o n : ℕ) (h : length s ≡ size) (one : l < list_count s) (its : o < odt_count s l) (was : entry_count s (first_odt s l + o) ≡ 0) (fits : entry_total s + n ≤ all_entries) where
  abbrev k : ℕ
  k = first_odt s l + o

  abbrev x : List ℕ
  x = counted s k n

  k_there : k < odt_total s
  k_there = omega (arith, odt_inside s l one)

  beside : {a b : ℕ} → T (clear counts_at (mode_at 0) a b) → T (clear (entries_at 0) (sample_at 0) a b) → Same a b s x
  beside = beside_entries s k n h k_there was fits

  entries_phase : get_or x phase_at 0 ≡ get_or s phase_at 0
  entries_phase = (beside {a = phase_at} {b = odts_at} tt tt).byte phase_at (lit≤ tt) (lit< tt)

  -- a list with its ODTs
  entries_listed : (i : ℕ) {y : ℕ → Odt} → i < lists → up_to (odt_count s i) no_odt (λ o. odt_of x (first_odt s i + o)) ≡ y
      → daq_of x i ≡ record { mode = mode_of s i; selected = selected_of s i; started = flag_of s (running_at i); odts = odt_count s i; odt = y }
  entries_listed i p e =
      let w : Same (mode_at 0) (entries_at 0) s x = beside tt tt in
      list_from (mode_own i (same_part (omega arith) (omega arith) w)) (flag_reads (selected_at i) (same_part (omega arith) (omega arith) w))
      (flag_reads (running_at i) (same_part (omega arith) (omega arith) w)) (odts_kept s k n h k_there was fits i p)
      (rw (odts_kept s k n h k_there was fits i p, first_kept s k n h k_there was fits i p) e)

  entries_here : daq_of x l ≡ alloc_entries o n (daq_of s l)
  entries_here =
      entries_listed l (omega (arith, lists_most s))
      (up_to_put (odt_count s l) no_odt its
      (made_odt s k n h k_there was fits ∙ ap (with_entries n) (sym (up_to_at (odt_count s l) o no_odt (λ o. odt_of s (first_odt s l + o)) its)))
      (λ j p ne. kept_odt s k n h k_there was fits (first_odt s l + j) (omega (arith, odt_inside s l one)) (omega arith)))

  entries_there_lem : (i : ℕ) → i < list_count s → i ≢ l → daq_of x i ≡ daq_of s i
  entries_there_lem i p ne =
      entries_listed i (omega (arith, lists_most s))
      (up_to_same (odt_count s i) no_odt
      (λ j q. kept_odt s k n h k_there was fits (first_odt s i + j) (omega (arith, odt_inside s i p)) (apart_of all_odts (odts_in s) i l j o ne q its)))

  entries_lists : lists_of x ≡ put l (alloc_entries o n (lists_of s l)) (lists_of s)
  unfolding lists_of
  entries_lists =
      rw (lists_kept s k n h k_there was fits)
      (up_to_put (list_count s) no_list one (entries_here ∙ ap (alloc_entries o n) (sym (up_to_at (list_count s) l no_list (daq_of s) one))) entries_there_lem)

  pub shows_new_entries : session_of (entries_allocated s (first_odt s l + o) n) ≡ at l (alloc_entries o n) (session_of s)
  unfolding session_of entries_allocated
  shows_new_entries =
      shows_pointer x (counted_long s k n h k_there was fits) (pointer_of s) (still_pointed s k n h k_there was fits (pointer_of s) (pointed s))
      ∙ ap (λ (c : Session). with_pointer c (pointer_of s))
      (in_alloc (beside tt tt) (beside tt tt) refl (rw (phase_same x s entries_phase)) (lists_same x s entries_phase)
      (round_same x s entries_phase ((beside {a = round_at} {b = last_at} tt tt).byte round_at (lit≤ tt) (lit< tt))) entries_lists)
