-- What a deed makes of the bytes shows what it makes of the slave. Assumes nothing.
use Rattle.std.proofs.Common.{◌≡◌, ℕ, zero, suc, ◌+◌, ◌^◌, ◌<◌, ◌≤◌, Bool, true, false, cond, eqb, ltb, ◌≢◌, List, length, set, Some, None, sym, refl, ap, ◌∙◌, subst, ap₂, arith, lit<, lit≤, ltb-false, ltb-true, le-ltb, lt-ltb, eqb-true}
use Rattle.std.proofs.Math.Path.{fun_ext}
use Rattle.std.proofs.lemmas.Bool.{eqb-false}
use Rattle.line.proofs.Laws.{cond_ind}
use Rattle.state.specs.Layout.{size, lists, entry_most, addressable, mode_at, selected_at, sample_at}
use Rattle.state.specs.Pool.{list_count, first_odt, odt_count, entry_count}
use Rattle.state.specs.Generator.{next_of}
use Rattle.state.specs.Memory.{pick, inside_of}
use Rattle.state.specs.State.{open_of, wrong_keys_of, generator_of, set_generator, lock_at, set_pointer, Pointed}
use Rattle.lists.specs.Lists.{runs_of, switched, entry_set, stop_each, start_one, start_selected, stop_one, stop_selected}
use Rattle.state.specs.Lists.{selected_of}
use Rattle.state.proofs.Allocated.{lists_most, odt_most_lem}
use Rattle.judge.specs.Doable.{Entered, Doable}
use Rattle.model.specs.Step.{next_entry, with_session, with_seed, entries_there, with_pointer, with_lists, at, switch, select, stop_it, start_if_selected, stop_if_selected, set_entry, step_in, step}
use Rattle.session.specs.Perform.{entry_written, effect}
use Rattle.words.specs.declared.Extension.{Extension}
use Rattle.words.specs.declared.Extension.TheVariants.{Calibration as CalibrationMemory}
use Rattle.words.specs.declared.Pointer.{Pointer}
use Rattle.words.specs.declared.Pointer.TheVariants.{Unset as NoEntry, At as Points}
use Rattle.model.specs.declared.Deed.{Deed}
use Rattle.model.specs.declared.Deed.TheVariants.{Refuse, RefuseSize, WrongKey, Connect, Disconnect, Status, Synch, NoSeed, GiveSeed, Unlock, SetMta, Upload, Checksum, Download, ClearList, SetPointer, ClearEntry, WriteEntry, SetMode, Stop, Start, KeepRunning, Select, StopAll, StartSelected, StopSelected, ProcessorInfo, ResolutionInfo, FreeLists, AllocLists, AllocOdts, AllocEntries}
use Rattle.state.proofs.Inside.{inside_le}
use Rattle.fields.proofs.Frames.{Only, only_none, only_set, only_within, only_generator, only_lock}
use Rattle.fields.proofs.Fields.{Given}
use Rattle.fields.proofs.Readers.{apart, wrong_keys_reads, open_reads, list_count_reads, first_odt_reads, odt_count_reads, entry_count_reads}
use Rattle.fields.proofs.Effects.{list_there, odt_there, entry_there, list_few, effected, only_switched, only_list_cleared, only_mode_set, only_entry_set, only_stop_each, only_start_selected, only_stop_selected}
use Rattle.model.specs.Model.{put, Odt, DaqList, no_list, Session, runs}
use Rattle.model.specs.View.{daq_of, lists_of, session_of, view_of}
use Rattle.views.proofs.Fit.{Fit}
use Rattle.model.proofs.Shown.{selected_at_lem, odts_at_lem, odt_at, odts_taken_lem, entries_taken_lem}
use Rattle.model.proofs.Bounded.{either, up_to_above}
use Rattle.views.proofs.Parts.{Stays, put_here, in_session, in_lists}
use Rattle.views.proofs.Shows.{shows_seed, shows_generator, shows_mta, shows_pointer, shows_lock, shows_closed, shows_fresh, shows_counted, Changes, changes_switched, changes_selected, changes_mode, changes_cleared, changes_entry_set}
use Rattle.views.proofs.Allocs.{shows_freed, shows_new_lists, shows_new_odts, shows_new_entries}

-- ---- one list changed
shows_lists : {s t : List ℕ} {f : ℕ → DaqList} → Only (mode_at 0) size s t → lists_of t ≡ f → session_of t ≡ with_lists (session_of s) f
shows_lists {s} w e = in_lists w ∙ ap (with_lists (session_of s)) e

-- ---- START_STOP_SYNCH: list by list, each by itself
-- the first n lists changed
unfoldable below : ℕ → (ℕ → DaqList → DaqList) → (ℕ → DaqList) → ℕ → DaqList
below n f d l = cond (ltb l n) (f l (d l)) (d l)

below_none : (f : ℕ → DaqList → DaqList) (d : ℕ → DaqList) → d ≡ below 0 f d
unfolding below
below_none f d = fun_ext (λ l. rw (le-ltb l 0 (omega arith)))

below_next : (n : ℕ) (f : ℕ → DaqList → DaqList) (d : ℕ → DaqList) → put n (f n (below n f d n)) (below n f d) ≡ below (suc n) f d
unfolding below put
below_next n f d =
    fun_ext (λ l. either (eqb l n)
    (λ b. rw (b, eqb-true l n b, le-ltb n n (omega arith), lt-ltb n (suc n) (omega arith)))
    (λ b. let m : l ≢ n = eqb-false l n b in
    either (ltb l n) (λ c. let k : l < n = ltb-true l n c in rw (b, c, lt-ltb l (suc n) (omega arith))) (λ c. let k : n ≤ l = ltb-false l n c in rw (b, c, le-ltb l (suc n) (omega arith)))))

below_all : (f : ℕ → DaqList → DaqList) (s : List ℕ) → ((l : ℕ) → no_list ≡ f l no_list) → below (list_count s) f (lists_of s) ≡ λ l. f l (lists_of s l)
unfolding below lists_of
below_all f s e = fun_ext (λ l. either (ltb l (list_count s)) (λ b. rw b) (λ b. rw (b, up_to_above (list_count s) l no_list (daq_of s) (ltb-false l (list_count s) b)) (e l)))

-- one more list
one_more_lem : (f : ℕ → DaqList → DaqList) (d : ℕ → DaqList) (t u : List ℕ) (n : ℕ) → Changes n (f n) t u → lists_of t ≡ below n f d → lists_of u ≡ below (suc n) f d
one_more_lem f d t u n c e = c ∙ ap (λ (x : ℕ → DaqList). put n (f n (x n)) x) e ∙ below_next n f d

-- two changes of the same list
put_put : (l : ℕ) (x y : DaqList) (d : ℕ → DaqList) → put l y (put l x d) ≡ put l y d
unfolding put
put_put l x y d = fun_ext (λ j. either (eqb j l) (λ b. rw b) (λ b. rw b))

put_back_lem : (l : ℕ) (d : ℕ → DaqList) → d ≡ put l (d l) d
unfolding put
put_back_lem l d = fun_ext (λ j. either (eqb j l) (λ b. rw (b, eqb-true j l b)) (λ b. rw b))

-- and then deselected
deselects : (l : ℕ) (f : DaqList → DaqList) (s t : List ℕ) → length t ≡ size → l < list_count t → Changes l f s t → Changes l (λ x. select false (f x)) s (set t (selected_at l) 0)
deselects l f s t h there c =
    changes_selected t l h there 0 ∙ ap (λ (x : ℕ → DaqList). put l (select false (x l)) x) c
    ∙ ap (λ (x : DaqList). put l (select false x) (put l (f (lists_of s l)) (lists_of s))) (put_here l (f (lists_of s l)) (lists_of s)) ∙ put_put l (f (lists_of s l)) (select false (f (lists_of s l))) (lists_of s)

-- by a test of the list: c, as the state reads it b
chosen : (l : ℕ) (b c : Bool) (x y : DaqList) (s t u : List ℕ) → c ≡ b → lists_of t ≡ put l x (lists_of s) → lists_of u ≡ put l y (lists_of s) → lists_of (cond b t u) ≡ put l (cond c x y) (lists_of s)
chosen l b c x y s t u e p q = subst (λ (i : Bool). lists_of (cond i t u) ≡ put l (cond c x y) (lists_of s)) e (go c) where
  go : (i : Bool) → lists_of (cond i t u) ≡ put l (cond i x y) (lists_of s)
  go true = p
  go false = q

module _ (s : List ℕ) (l : ℕ) (h : length s ≡ size) (there : l < list_count s) where
  few : l < lists
  few = omega (arith, lists_most s)

  -- list l is there also after a change of it
  still : {t : List ℕ} → Only (mode_at 0) size s t → l < list_count t
  still w = rw (list_count_reads (apart tt w)) there

  changes_stop_it : Changes l stop_it s (set (switched s l 0) (selected_at l) 0)
  changes_stop_it = let w = only_switched s l 0 few in deselects l (switch false) s (switched s l 0) (w.long ∙ h) (still w) (changes_switched s l h there 0)

  runs_here : runs (open_of s) (lists_of s l) ≡ runs_of s l
  unfolding session_of
  runs_here = refl

  selected_here : (lists_of s l).selected ≡ selected_of s l
  unfolding session_of
  selected_here = selected_at_lem s l there

  as_it_is : Changes l (λ x. x) s s
  as_it_is = put_back_lem l (lists_of s)

  started : Changes l (λ x. cond x.selected (cond (runs (open_of s) x) x (switch true x)) x) s (start_one s l)
  started =
      chosen l (selected_of s l) _ _ _ s (cond (runs_of s l) s (switched s l 1)) s selected_here
      (chosen l (runs_of s l) _ _ _ s s (switched s l 1) runs_here as_it_is (changes_switched s l h there 1)) as_it_is

  stopped : Changes l (λ x. cond x.selected (switch false x) x) s (stop_one s l)
  stopped = chosen l (selected_of s l) _ _ _ s (switched s l 0) s selected_here (changes_switched s l h there 0) as_it_is

  only_start_one : Only (mode_at 0) size s (start_one s l)
  only_start_one =
      cond_ind (Only (mode_at 0) size s) (selected_of s l) (λ _. cond_ind (Only (mode_at 0) size s) (runs_of s l) (λ _. only_none) (λ _. only_switched s l 1 few)) (λ _. only_none)

  only_stop_one : Only (mode_at 0) size s (stop_one s l)
  only_stop_one = cond_ind (Only (mode_at 0) size s) (selected_of s l) (λ _. only_switched s l 0 few) (λ _. only_none)

  changes_start_one : Changes l (start_if_selected (open_of s)) s (set (start_one s l) (selected_at l) 0)
  changes_start_one = deselects l (λ x. cond x.selected (cond (runs (open_of s) x) x (switch true x)) x) s (start_one s l) (only_start_one.long ∙ h) (still only_start_one) started

  changes_stop_one : Changes l stop_if_selected s (set (stop_one s l) (selected_at l) 0)
  changes_stop_one = deselects l (λ x. cond x.selected (switch false x) x) s (stop_one s l) (only_stop_one.long ∙ h) (still only_stop_one) stopped

module _ (s : List ℕ) (h : length s ≡ size) where
  few_first : (n : ℕ) → n ≤ list_count s → n ≤ lists
  few_first n p = omega (arith, lists_most s)

  first_stopped : (n : ℕ) → n ≤ list_count s → lists_of (stop_each s n) ≡ below n (λ l. stop_it) (lists_of s)
  unfolding stop_each
  first_stopped zero p = below_none (λ l. stop_it) (lists_of s)
  first_stopped (suc n) p =
      let t : List ℕ = stop_each s n in
      let w : Only (mode_at 0) size s t = only_stop_each s n (few_first n (omega arith)) in
      one_more_lem (λ l. stop_it) (lists_of s) t _ n (changes_stop_it t n (w.long ∙ h) (still s n h p w)) (first_stopped n (omega arith))

  first_started : (n : ℕ) → n ≤ list_count s → lists_of (start_selected s n) ≡ below n (λ l. start_if_selected (open_of s)) (lists_of s)
  unfolding start_selected
  first_started zero p = below_none (λ l. start_if_selected (open_of s)) (lists_of s)
  first_started (suc n) p =
      let t : List ℕ = start_selected s n in
      let w : Only (mode_at 0) size s t = only_start_selected s n (few_first n (omega arith)) in
      let o : open_of t ≡ open_of s = open_reads (apart tt w) in
      one_more_lem (λ l. start_if_selected (open_of s)) (lists_of s) t _ n
      (subst (λ (b : Bool). Changes n (start_if_selected b) t (set (start_one t n) (selected_at n) 0)) o (changes_start_one t n (w.long ∙ h) (still s n h p w))) (first_started n (omega arith))

  first_deselected : (n : ℕ) → n ≤ list_count s → lists_of (stop_selected s n) ≡ below n (λ l. stop_if_selected) (lists_of s)
  unfolding stop_selected
  first_deselected zero p = below_none (λ l. stop_if_selected) (lists_of s)
  first_deselected (suc n) p =
      let t : List ℕ = stop_selected s n in
      let w : Only (mode_at 0) size s t = only_stop_selected s n (few_first n (omega arith)) in
      one_more_lem (λ l. stop_if_selected) (lists_of s) t _ n (changes_stop_one t n (w.long ∙ h) (still s n h p w)) (first_deselected n (omega arith))

-- ---- the deeds
low : (a n len : ℕ) → inside_of a n len ≡ true → a + n < 2 ^ 32
low a n len e = omega (arith, inside_le a n len e)

-- an entry, and then the next one: of the entries that there are
pub next_pointed : (s : List ℕ) (l o e : ℕ) → l < list_count s → o < odt_count s l → e < entry_count s (first_odt s l + o) → Pointed s (next_entry (entry_count s (first_odt s l + o)) l o e)
unfolding next_entry
next_pointed s l o e there its entry =
    let n : ℕ = entry_count s (first_odt s l + o) in
    cond_ind (Pointed s) (eqb (e + 1) n) (λ _. tt) (λ b. let m : e + 1 ≢ n = eqb-false (e + 1) n b in (there, its, omega arith))

pointed_stays : {s t : List ℕ} → Stays s t → (p : Pointer) → Pointed s p → Pointed t p
pointed_stays a NoEntry h = tt
pointed_stays {s} a (Points l o e) h =
    let there : l < list_count s = h.0 in
    let its : o < odt_count s l = h.1 in
    let few : l < lists = omega (arith, lists_most s) in
    (rw (list_count_reads a) there, rw (odt_count_reads a l few) its, rw (first_odt_reads a l (omega arith), entry_count_reads a (first_odt s l + o) (omega (arith, odt_most_lem s l))) h.2)

module _ (s : List ℕ) (l o e : ℕ) (h : length s ≡ size) (can : Entered (session_of s) l o e) where
  there : l < list_count s
  there = list_there s l can.0

  its : o < odt_count s l
  its = odt_there s l o there can.1

  entry : e < entry_count s (first_odt s l + o)
  entry = entry_there s l o e there its can.2

  shows_pointed : session_of (set_pointer s (Points l o e)) ≡ with_pointer (session_of s) (Points l o e)
  shows_pointed = shows_pointer s h (Points l o e) (there, its, entry)

  shows_entry : (m : ℕ) (x : Extension) (a : ℕ) → m ≤ entry_most → a < addressable
      → session_of (entry_written s l o e m x a) ≡ with_pointer (at l (set_entry o e (record { size = m; extension = x; address = a })) (session_of s)) (next_entry (entries_there (session_of s) l o) l o e)
  unfolding session_of
  shows_entry m x a m4 a4 =
      let k : ℕ = first_odt s l + o in
      let t : List ℕ = entry_set s l k e m x a in
      let w : Only (mode_at 0) (sample_at 0) s t = only_entry_set s l k e m x a (list_few s l can.0) entry in
      let next : Pointer = next_entry (entry_count s k) l o e in
      let v : Only (mode_at 0) size s t = only_within tt w in
      shows_pointer t (w.long ∙ h) next (pointed_stays (apart tt v) next (next_pointed s l o e there its entry))
      ∙ ap₂ with_pointer (shows_lists v (changes_entry_set s l h there o e m a x its entry m4 a4)) (ap (λ (y : Odt). next_entry y.entries l o e) (sym (odt_at s l there o its)))

pub session_effect : (d : Deed) (s : List ℕ) (n nc nm : ℕ) → length s ≡ size → Doable d (session_of s) n nc nm → Fit d (generator_of s) (wrong_keys_of s) → session_of (effect d s) ≡ step_in d (session_of s)
unfolding effect step_in session_of
session_effect (Refuse r) s n nc nm h can fit = refl
session_effect RefuseSize s n nc nm h can fit = refl
session_effect WrongKey s n nc nm h can fit = shows_counted s h
session_effect Connect s n nc nm h can fit = shows_fresh s h
session_effect Disconnect s n nc nm h can fit = shows_closed s h
session_effect Status s n nc nm h can fit = refl
session_effect Synch s n nc nm h can fit = refl
session_effect NoSeed s n nc nm h can fit = refl
session_effect (GiveSeed r) s n nc nm h can fit =
    let x : ℕ = next_of (generator_of s) in
    let few : Given (Some r) (wrong_keys_of (set_generator s x)) = rw (wrong_keys_reads (apart tt (only_generator s x))) fit.2 in
    shows_seed (set_generator s x) ((only_generator s x).long ∙ h) (Some r) few ∙ ap (λ (c : Session). with_seed c (Some r)) (shows_generator s h x fit.0 fit.1)
session_effect (Unlock r) s n nc nm h can fit =
    shows_seed (set s (lock_at r) 1) ((only_lock s r 1).long ∙ h) None tt ∙ ap (λ (c : Session). with_seed c None) (shows_lock s h r)
session_effect (SetMta e a) s n nc nm h can fit = shows_mta s h _ fit
session_effect (Upload e a m) s n nc nm h can fit = shows_mta s h _ (low a m (pick e nc nm) can.1)
session_effect (Checksum e a m) s n nc nm h can fit = shows_mta s h _ (low a m (pick e nc nm) can.1)
session_effect (Download from a m) s n nc nm h can fit = shows_mta s h _ (low a m nc can.1.1)
session_effect (ClearList l) s n nc nm h can fit = shows_lists (only_within tt (only_list_cleared s l (list_few s l can))) (changes_cleared s l h can)
session_effect (SetPointer l o e) s n nc nm h can fit = shows_pointed s l o e h can
session_effect (ClearEntry l o e) s n nc nm h can fit = shows_entry s l o e h can 0 CalibrationMemory 0 (lit≤ tt) (lit< tt)
session_effect (WriteEntry l o e m x a) s n nc nm h can fit = shows_entry s l o e h can m x a fit.0 fit.1
session_effect (SetMode l event) s n nc nm h can fit =
    shows_lists (only_within tt (only_mode_set s l event (list_few s l can.0))) (changes_mode s l h can.0 event can.1)
session_effect (Stop l) s n nc nm h can fit = shows_lists (only_switched s l 0 (list_few s l can)) (changes_switched s l h can 0)
session_effect (Start l) s n nc nm h can fit = shows_lists (only_switched s l 1 (list_few s l can)) (changes_switched s l h can 1)
session_effect (KeepRunning l) s n nc nm h can fit = refl
session_effect (Select l) s n nc nm h can fit = shows_lists (only_set s (selected_at l) 1 (omega arith) (omega (arith, list_few s l can))) (changes_selected s l h can 1)
session_effect StopAll s n nc nm h can fit = shows_lists (only_stop_each s (list_count s) (lists_most s)) (first_stopped s h (list_count s) (omega arith) ∙ below_all (λ l. stop_it) s (λ l. refl))
session_effect StartSelected s n nc nm h can fit =
    shows_lists (only_start_selected s (list_count s) (lists_most s)) (first_started s h (list_count s) (omega arith) ∙ below_all (λ l. start_if_selected (open_of s)) s (λ l. refl))
session_effect StopSelected s n nc nm h can fit = shows_lists (only_stop_selected s (list_count s) (lists_most s)) (first_deselected s h (list_count s) (omega arith) ∙ below_all (λ l. stop_if_selected) s (λ l. refl))
session_effect ProcessorInfo s n nc nm h can fit = refl
session_effect ResolutionInfo s n nc nm h can fit = refl
session_effect FreeLists s n nc nm h can fit = shows_freed s h
session_effect (AllocLists m) s n nc nm h can fit = shows_new_lists s m h can.2 can.1 can.0
session_effect (AllocOdts l m) s n nc nm h can fit = shows_new_odts s l m h can.0 (rw (odts_at_lem s l can.0) at can.1) (rw (entries_taken_lem s) at can.2) (rw (odts_taken_lem s) at can.3)
session_effect (AllocEntries l o m) s n nc nm h can fit =
    let its : o < odt_count s l = odt_there s l o can.0 can.1 in
    shows_new_entries s l o m h can.0 its (rw (odt_at s l can.0 o its) at can.2) (rw (entries_taken_lem s) at can.3)

pub view_effect : (d : Deed) (s : List ℕ) (n nc nm : ℕ) → length s ≡ size → Doable d (session_of s) n nc nm → Fit d (generator_of s) (wrong_keys_of s) → view_of (effect d s) ≡ step d (view_of s)
unfolding view_of
view_effect d s n nc nm h can fit = in_session (effected d s n nc nm can) ∙ ap (with_session (view_of s)) (session_effect d s n nc nm h can fit)
