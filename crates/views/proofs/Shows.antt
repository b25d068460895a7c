-- What each writer of the state shows: the slave with that one part changed. Assumes nothing.
use Rattle.std.proofs.Common.{◌≡◌, ℕ, suc, ◌+◌, ◌*◌, ◌%◌, ◌^◌, ◌<◌, ◌≤◌, true, false, eqb, ◌≢◌, List, [], length, get_or, set, sym, refl, ap, ◌∙◌, mod-eq_of_lt, arith, length-set, get_or-set_other, get_or-set_same, le-ltb}
use Rattle.std.proofs.Math.Path.{fun_ext}
use Rattle.state.specs.Layout.{size, lists, all_odts, events, list_size, entry_size, entry_most, addressable, mode_at, selected_at, running_at, entries_at, sample_at}
use Rattle.state.specs.Pool.{list_count, first_odt, odt_count, entry_count, entry_at}
use Rattle.state.specs.Bytes.{cleared}
use Rattle.state.specs.State.{flag_of, generator_of, set_generator, wrong_keys_of, counted_wrong, open_of, unlocked_of, lock_at, set_seed, set_mta, set_pointer, Pointed, dropped, closed, fresh}
use Rattle.state.specs.Lists.{mode_of}
use Rattle.state.proofs.Allocated.{lists_most, odt_most_lem, entry_most_lem}
use Rattle.lists.specs.Lists.{switched, entries_of_list, list_cleared, mode_set, head_of, entry_set}
use Rattle.state.specs.Generator.{one_wrong_more}
use Rattle.words.specs.declared.Resource.{Resource}
use Rattle.words.specs.declared.Resource.TheVariants.{Calibration, Lists}
use Rattle.words.specs.declared.Extension.{Extension}
use Rattle.words.specs.Values.{Seed}
use Rattle.words.specs.declared.Mta.{Mta}
use Rattle.words.specs.declared.Pointer.{Pointer}
use Rattle.state.proofs.Xorshift.{start_same}
use Rattle.fields.proofs.Stores.{cleared_in}
use Rattle.fields.proofs.Fields.{Addressed, mta_same, pointer_same, Given, wrong_keys_counted, seed_same, generator_same, lock_same, lock_other, Bare, bare_locked, bare_seed, bare_mta, bare_pointer, bare_freed, bare_lists, no_round, empty_stored, dropped_empty, closed_open, closed_bare, counted_bare, fresh_open, fresh_bare}
use Rattle.fields.proofs.Frames.{Only, only_then, only_generator, only_counted, only_set, only_cleared, only_dropped, only_seed, only_mta, only_pointer, only_lock, only_closed, only_fresh}
use Rattle.fields.proofs.Readers.{apart, flag_reads, generator_reads, wrong_keys_reads, open_reads, seed_reads, mta_reads, list_count_reads, odt_count_reads, entry_count_reads, first_entry_reads, round_reads, pointer_reads, entries_own, store_own}
use Rattle.model.specs.Model.{put, no_odt, DaqList, no_list, blank}
use Rattle.model.specs.Step.{unlock, with_generator, with_lock, with_seed, with_mta, with_pointer, emptied, switch, select, unset, clear, set_mode, with_entry, set_entry}
use Rattle.model.specs.View.{odt_of, daq_of, lists_of, session_of}
use Rattle.model.proofs.Bounded.{up_to_at, up_to_is, up_to_map, up_to_put}
use Rattle.views.proofs.Parts.{spared, both, odt_from, list_from, Stays, mode_own, odt_own, odts_as, odts_own, odts_apart, entries_from, in_pool, in_list_lem, lists_apart, own_one, own_both, list_own, lists_reads, freed_reads, in_generator, in_seed, in_mta, in_pointer}
use Rattle.views.proofs.EntryStored.{entry_put, entries_zero}

-- ---- single fields
module _ (s : List ℕ) (h : length s ≡ size) where
  pub shows_seed : (x : Seed) → Given x (wrong_keys_of s) → session_of (set_seed s x) ≡ with_seed (session_of s) x
  shows_seed x g = in_seed (only_seed s x) ∙ ap (with_seed (session_of s)) (seed_same s x h g)

  pub shows_generator : (x : ℕ) → x ≢ 0 → x < 2 ^ 32 → session_of (set_generator s x) ≡ with_generator (session_of s) x
  shows_generator x n l = in_generator (only_generator s x) ∙ ap (with_generator (session_of s)) (generator_same s x h l ∙ start_same x n)

  pub shows_mta : (m : Mta) → Addressed m → session_of (set_mta s m) ≡ with_mta (session_of s) m
  shows_mta m a = in_mta (only_mta s m) ∙ ap (with_mta (session_of s)) (mta_same s m h a)

  pub shows_pointer : (p : Pointer) → Pointed s p → session_of (set_pointer s p) ≡ with_pointer (session_of s) p
  shows_pointer p a = in_pointer (only_pointer s p) ∙ ap (with_pointer (session_of s)) (pointer_same s p h a)

  pub shows_lock : (r : Resource) → session_of (set s (lock_at r) 1) ≡ with_lock (session_of s) r
  unfolding session_of
  shows_lock r = let w = only_lock s r 1 in
      λ i. record {
        generator = generator_reads (apart tt w) i;
        wrong_keys = wrong_keys_reads (apart tt w) i;
        opened = open_reads (apart tt w) i;
        unlocked = fun_ext (locks r) i;
        seed = seed_reads (apart tt w) (apart tt w) i;
        mta = mta_reads (apart tt w) i;
        pointer = pointer_reads (apart tt w) i;
        freed = freed_reads (apart tt w) i;
        lists = list_count_reads (apart tt w) i;
        round = round_reads (apart tt w) (apart tt w) i;
        list = lists_reads (apart tt w) i;
      } where
        locks : (r x : Resource) → unlocked_of (set s (lock_at r) 1) x ≡ unlock r (unlocked_of s) x
        locks Calibration Calibration = lock_same s Calibration h
        locks Calibration Lists = lock_other s Calibration 1
        locks Lists Calibration = lock_other s Lists 1
        locks Lists Lists = lock_same s Lists h

-- ---- single bytes
flag_set : (s : List ℕ) (i v : ℕ) → i < length s → flag_of (set s i v) i ≡ eqb v 1
unfolding flag_of
flag_set s i v h = rw (get_or-set_same s i v 0 h)

pub flag_zero : (s : List ℕ) (i : ℕ) → get_or s i 0 ≡ 0 → flag_of s i ≡ false
unfolding flag_of
flag_zero s i e = rw e

pub store_empty : (s : List ℕ) (k : ℕ) → get_or s (sample_at k) 0 ≡ 0 → (odt_of s k).store ≡ []
store_empty s k e = rw (empty_stored s k e)

-- ---- a session with nothing set
pub no_lists_lem : (s : List ℕ) → list_count s ≡ 0 → lists_of s ≡ λ l. no_list
unfolding lists_of
no_lists_lem s e = rw e (up_to_is 0 no_list (λ l p. absurd (omega arith)) (λ l p. refl))

module _ (s : List ℕ) (z : Bare s) where
  pub bare_session : session_of s ≡ blank (generator_of s) (wrong_keys_of s) (open_of s)
  unfolding session_of
  bare_session = λ i. record {
    generator = generator_of s;
    wrong_keys = wrong_keys_of s;
    opened = open_of s;
    unlocked = fun_ext (λ r. bare_locked s r z) i;
    seed = bare_seed s z i;
    mta = bare_mta s z i;
    pointer = bare_pointer s z i;
    freed = bare_freed s z i;
    lists = bare_lists s z i;
    round = no_round s (bare_lists s z) i;
    list = no_lists_lem s (bare_lists s z) i;
  }

pub shows_closed : (s : List ℕ) → length s ≡ size → session_of (closed s) ≡ blank (generator_of s) (wrong_keys_of s) false
shows_closed s h =
    let w = only_closed s in
    bare_session (closed s) (closed_bare s h) ∙ λ i. blank (generator_reads (apart tt w) i) (wrong_keys_reads (apart tt w) i) (closed_open s h i)

pub shows_fresh : (s : List ℕ) → length s ≡ size → session_of (fresh s) ≡ blank (generator_of s) (wrong_keys_of s) true
shows_fresh s h =
    let w = only_fresh s in
    bare_session (fresh s) (fresh_bare s h) ∙ λ i. blank (generator_reads (apart tt w) i) (wrong_keys_reads (apart tt w) i) (fresh_open s h i)

-- a wrong key
pub shows_counted : (s : List ℕ) → length s ≡ size → session_of (counted_wrong (closed s)) ≡ blank (generator_of s) (one_wrong_more (wrong_keys_of s)) false
shows_counted s h =
    let w = only_closed s in
    let v = only_counted (closed s) in
    bare_session (counted_wrong (closed s)) (counted_bare (closed s) (closed_bare s h)) ∙ λ i.
    blank ((generator_reads (apart tt v) ∙ generator_reads (apart tt w)) i)
    ((wrong_keys_counted (closed s) (w.long ∙ h) ∙ ap one_wrong_more (wrong_keys_reads (apart tt w))) i) ((open_reads (apart tt v) ∙ closed_open s h) i)

-- ---- one list changed: what it then is, and the others as they were
abbrev pub Changes : ℕ → (DaqList → DaqList) → List ℕ → List ℕ → Type 0
Changes l f s t = lists_of t ≡ put l (f (lists_of s l)) (lists_of s)

pub changes : (l : ℕ) (f : DaqList → DaqList) (s t : List ℕ) → Stays s t → l < list_count s → daq_of t l ≡ f (daq_of s l) → ((j : ℕ) → j < lists → j ≢ l → daq_of t j ≡ daq_of s j) → Changes l f s t
unfolding lists_of
changes l f s t stays there e h =
    rw (list_count_reads stays)
    (up_to_put (list_count s) no_list there (e ∙ ap f (sym (up_to_at (list_count s) l no_list (daq_of s) there))) (λ j p n. h j (omega (arith, lists_most s)) n))

module _ (s : List ℕ) (l : ℕ) (h : length s ≡ size) (there : l < list_count s) where
  few : l < lists
  few = omega (arith, lists_most s)

  odt_few : (o : ℕ) → o < odt_count s l → first_odt s l + o < all_odts
  odt_few o p = omega (arith, odt_most_lem s l)

  pub changes_switched : (on : ℕ) → Changes l (switch (eqb on 1)) s (switched s l on)
  unfolding switched
  changes_switched on =
      let s₁ : List ℕ = set s (running_at l) on in
      let t : List ℕ = dropped s₁ (first_odt s l) (odt_count s l) in
      let w : Only (running_at l) (running_at l + 1) s s₁ = only_set s (running_at l) on (omega arith) (omega arith) in
      let v : Only (sample_at (first_odt s l)) (sample_at (first_odt s l + odt_count s l)) s₁ t = only_dropped s₁ (first_odt s l) (odt_count s l) in
      let stays : Stays s t = both w v (omega arith) in
      changes l (switch (eqb on 1)) s t stays there
      (list_from (mode_own l (both w v (omega (arith, few)))) (flag_reads (selected_at l) (both w v (omega (arith, few))))
      (flag_reads (running_at l) (spared v (omega (arith, few))) ∙ flag_set s (running_at l) on (omega (arith, few))) (odt_count_reads stays l few)
      (odts_as stays l few ∙ up_to_map (odt_count s l) no_odt emptied refl (λ o p. let k : ℕ = first_odt s l + o in
      odt_from (entry_count_reads stays k (odt_few o p)) (entries_own stays k (odt_few o p) (both w v (omega (arith, few, entry_most_lem s k))))
      (store_empty t k (dropped_empty s₁ (first_odt s l) (odt_count s l) o (w.long ∙ h) (odt_most_lem s l) p)))))
      (λ j p n. list_own j p (own_both w v (omega (arith, few, lists_apart s j l n, in_pool s j, in_pool s l))))

  pub changes_selected : (on : ℕ) → Changes l (select (eqb on 1)) s (set s (selected_at l) on)
  changes_selected on =
      let t : List ℕ = set s (selected_at l) on in
      let w : Only (selected_at l) (selected_at l + 1) s t = only_set s (selected_at l) on (omega arith) (omega arith) in
      let stays : Stays s t = spared w (omega arith) in
      changes l (select (eqb on 1)) s t stays there
      (list_from (mode_own l (spared w (omega arith))) (flag_set s (selected_at l) on (omega (arith, few))) (flag_reads (running_at l) (spared w (omega arith))) (odt_count_reads stays l few) (odts_own l few stays (spared w (omega (arith, few))) (spared w (omega (arith, few)))))
      (λ j p n. list_own j p (own_one w (omega (arith, few, in_pool s j))))

  mode_set_lem : (event : ℕ) → event < events → mode_of (set s (mode_at l) ((event + 1) % 256)) l ≡ event + 1
  unfolding mode_of
  mode_set_lem event e2 =
      let m : (event + 1) % 256 ≡ event + 1 = mod-eq_of_lt (omega arith) in
      rw (get_or-set_same s (mode_at l) ((event + 1) % 256) 0 (omega (arith, few)), m) (rw (le-ltb events (event + 1) (omega arith)))

  pub changes_mode : (event : ℕ) → event < events → Changes l (set_mode event) s (mode_set s l event)
  unfolding mode_set
  changes_mode event e2 =
      let s₁ : List ℕ = set s (mode_at l) ((event + 1) % 256) in
      let s₂ : List ℕ = set s₁ (running_at l) 0 in
      let w : Only (mode_at l) (mode_at l + 1) s s₁ = only_set s (mode_at l) ((event + 1) % 256) (omega arith) (omega arith) in
      let v : Only (running_at l) (running_at l + 1) s₁ s₂ = only_set s₁ (running_at l) 0 (omega arith) (omega arith) in
      let stays : Stays s s₂ = both w v (omega arith) in
      changes l (set_mode event) s s₂ stays there
      (list_from (mode_own l (spared v (omega arith)) ∙ mode_set_lem event e2) (flag_reads (selected_at l) (both w v (omega arith))) (flag_set s₁ (running_at l) 0 (rw length-set (omega (arith, few))))
      (odt_count_reads stays l few) (odts_own l few stays (both w v (omega (arith, few))) (both w v (omega (arith, few)))))
      (λ j p n. list_own j p (own_both w v (omega (arith, few))))

  pub changes_cleared : Changes l clear s (list_cleared s l)
  unfolding list_cleared mode_of
  changes_cleared =
      let s₁ : List ℕ = cleared s (mode_at l) list_size in
      let i : ℕ = entries_at (entries_from s l) in
      let s₂ : List ℕ = cleared s₁ i (entry_size * entries_of_list s l) in
      let w : Only (mode_at l) (mode_at (l + 1)) s s₁ = only_cleared s (mode_at l) list_size (omega arith) (omega arith) in
      let v : Only i (entries_at (entries_from s (suc l))) s₁ s₂ = only_cleared s₁ i (entry_size * entries_of_list s l) (omega arith) (omega (arith, in_pool s l)) in
      let stays : Stays s s₂ = both w v (omega arith) in
      let z : (j : ℕ) → mode_at l ≤ j → j < mode_at (l + 1) → get_or s₂ j 0 ≡ 0 =
      λ j p q. (spared {a = j} {b = j + 1} v (omega (arith, few))).byte j (omega arith) (omega arith) ∙ cleared_in s (mode_at l) list_size j (omega (arith, few)) p (omega arith) in
      changes l clear s s₂ stays there
      (list_from (simp (z (mode_at l) (omega arith) (omega arith))) (flag_zero s₂ (selected_at l) (z (selected_at l) (omega arith) (omega arith))) (flag_zero s₂ (running_at l) (z (running_at l) (omega arith) (omega arith)))
      (odt_count_reads stays l few)
      (odts_as stays l few ∙ up_to_map (odt_count s l) no_odt unset refl (λ o p. let k : ℕ = first_odt s l + o in
      odt_from (entry_count_reads stays k (odt_few o p))
      (entries_zero s₂ k (λ j a b. cleared_in s₁ i (entry_size * entries_of_list s l) j (rw w.long (omega (arith, in_pool s l)))
      (omega (arith, first_entry_reads stays k (omega (arith, odt_few o p)), in_list_lem s l o p))
      (omega (arith, first_entry_reads stays k (omega (arith, odt_few o p)), entry_count_reads stays k (odt_few o p), in_list_lem s l o p, in_pool s l))))
      (store_own k (both w v (omega (arith, few, in_pool s l)))))))
      (λ j p n. list_own j p (own_both w v (omega (arith, few, lists_apart s j l n, in_pool s j, in_pool s l))))

  -- ---- an entry that there is: its list no longer counts as started, and all else is as it was
  module _ (o e n a : ℕ) (x : Extension) (its : o < odt_count s l) (entry : e < entry_count s (first_odt s l + o)) (n4 : n ≤ entry_most) (low : a < addressable) where
    pub changes_entry_set : Changes l (set_entry o e (record { size = n; extension = x; address = a })) s (entry_set s l (first_odt s l + o) e n x a)
    unfolding entry_set
    changes_entry_set =
        let k : ℕ = first_odt s l + o in
        let i : ℕ = entry_at s k e in
        let s₁ : List ℕ = set s (running_at l) 0 in
        let s₂ : List ℕ = set s₁ i (head_of n x a) in
        let t : List ℕ = set s₂ (i + 1) (a % 256) in
        let w : Only (running_at l) (running_at l + 1) s s₁ = only_set s (running_at l) 0 (omega arith) (omega arith) in
        let v : Only i (i + entry_size) s₁ t = only_then (only_set s₁ i (head_of n x a) (omega arith) (omega arith)) (only_set s₂ (i + 1) (a % 256) (omega arith) (omega arith)) in
        let long₁ : length s₁ ≡ size = w.long ∙ h in
        let long₂ : length s₂ ≡ size = length-set s₁ i (head_of n x a) ∙ long₁ in
        let stays : Stays s t = both w v (omega arith) in
        let first : get_or t i 0 ≡ head_of n x a = get_or-set_other s₂ (i + 1) i (a % 256) 0 (omega arith) ∙ get_or-set_same s₁ i (head_of n x a) 0 (omega (arith, entry_most_lem s k)) in
        let second : get_or t (i + 1) 0 ≡ a % 256 = get_or-set_same s₂ (i + 1) (a % 256) 0 (omega (arith, entry_most_lem s k)) in
        changes l (set_entry o e (record { size = n; extension = x; address = a })) s t stays there
        (list_from (mode_own l (both w v (omega (arith, few)))) (flag_reads (selected_at l) (both w v (omega (arith, few))))
        (flag_reads (running_at l) (spared v (omega (arith, few))) ∙ flag_set s (running_at l) 0 (omega (arith, few))) (odt_count_reads stays l few)
        (odts_as stays l few ∙ up_to_put (odt_count s l) no_odt its
        (odt_from (entry_count_reads stays k (odt_few o its))
        (entry_put k e n a x stays (odt_few o its) entry n4 low first second (λ j p m. both w v (omega (arith, few))))
        (store_own k (both w v (omega (arith, few, entry_most_lem s k))))
        ∙ ap (with_entry e (record { size = n; extension = x; address = a })) (sym (up_to_at (odt_count s l) o no_odt (λ o. odt_of s (first_odt s l + o)) its)))
        (λ j p m. odt_own stays (first_odt s l + j) (odt_few j p) (both w v (omega (arith, few, odts_apart s (first_odt s l + j) k (λ q. m (omega arith))))) (both w v (omega (arith, few, entry_most_lem s k))))))
        (λ j p m. list_own j p (own_both w v (omega (arith, few, lists_apart s j l m, in_list_lem s l o its, in_pool s j, in_pool s l))))
