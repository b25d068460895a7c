-- A change of some bytes leaves all that is read from others. Assumes nothing.
use Rattle.std.proofs.Common.{◌≡◌, ℕ, suc, ◌+◌, ◌-◌, ◌<◌, ◌≤◌, min, Bool, true, false, cond, T, eqb, ltb, leb, ◌≢◌, List, refl, ap, ◌∙◌, ap₂, arith, lit<, lit≤, le→leb, ltb-false, eq-eqb, ne_eqb, eqb-true}
use Rattle.std.proofs.Math.Path.{fun_ext}
use Rattle.std.proofs.lemmas.Bool.{eqb-false}
use Rattle.line.proofs.Laws.{cond_ind}
use Rattle.state.specs.Layout.{size, lists, all_odts, all_entries, generator_at, wrong_keys_at, ctr_at, last_at, calibration_at, seed_at, mta_at, pointer_at, phase_at, mode_at, selected_at, running_at, entries_at, sample_at}
use Rattle.state.specs.Pool.{freed_of, list_count, odts_in, first_odt, odt_count, entries_in, first_entry, entry_count}
use Rattle.state.specs.State.{generator_of, unlocked_of, mta_of, seed_of, pointer_of}
use Rattle.state.specs.Lists.{mode_of}
use Rattle.state.proofs.Ranges.{by_lt, start_most, start_mono}
use Rattle.state.proofs.Allocated.{lists_most, first_most_lem, odt_most_lem, odt_next, entry_before}
use Rattle.fields.proofs.Stores.{out}
use Rattle.fields.proofs.Frames.{Only}
use Rattle.fields.proofs.Effects.{Effected}
use Rattle.fields.proofs.Readers.{Same, apart, same_part, same_within, same_then, flag_reads, generator_reads, wrong_keys_reads, open_reads, lock_reads, seed_reads, mta_reads, phase_reads, list_count_reads, first_odt_reads, odt_count_reads, entry_count_reads, round_reads, pointer_reads, place_reads, message_reads, answer_reads, entries_own, store_own}
use Rattle.model.specs.Model.{up_to, put, Odt, no_odt, DaqList, no_list}
use Rattle.model.specs.Step.{with_session, with_generator, with_seed, with_mta, with_pointer, with_lists}
use Rattle.model.specs.View.{odt_of, daq_of, lists_of, session_of, view_of}
use Rattle.model.proofs.Bounded.{either, up_to_same}

-- ---- bytes outside those that were written; `omega` proves the premise
abbrev pub Misses : ℕ → ℕ → ℕ → ℕ → Type 0
Misses lo hi a b = (i : ℕ) → a ≤ i → i < b → lo ≤ i → hi ≤ i

pub aside : (lo hi j : ℕ) → (lo ≤ j → hi ≤ j) → T (out lo hi j)
aside lo hi j f = go (ltb j lo) refl where
  go : (x : Bool) → ltb j lo ≡ x → T (cond x true (leb hi j))
  go true e = tt
  go false e = le→leb hi j (f (ltb-false j lo e))

pub spared : {lo hi a b : ℕ} {s t : List ℕ} → Only lo hi s t → Misses lo hi a b → Same a b s t
spared {lo} {hi} w m = record { long = w.long; byte = λ j p q. w.bytes j (aside lo hi j (m j p q)) }

-- by two writes
pub both : {lo hi lo' hi' a b : ℕ} {s t u : List ℕ} → Only lo hi s t → Only lo' hi' t u → Misses lo hi a b × Misses lo' hi' a b → Same a b s u
both w v m = same_then (spared w m.0) (spared v m.1)

-- ---- one place of a function changed
-- either it is that one, or another
pub this_or_other : {P : Type 0} (j l : ℕ) → (j ≡ l → P) → (j ≢ l → P) → P
this_or_other j l f g = either (eqb j l) (λ e. f (eqb-true j l e)) (λ e. g (eqb-false j l e))

pub put_by : {A : Type 0} (P : A → Type 0) (i : ℕ) (x : A) (f : ℕ → A) (j : ℕ) → (j ≡ i → P x) → (j ≢ i → P (f j)) → P (put i x f j)
unfolding put
put_by P i x f j p q = cond_ind P (eqb j i) (λ b. p (eqb-true j i b)) (λ b. q (eqb-false j i b))

pub put_here : {A : Type 0} (i : ℕ) (x : A) (f : ℕ → A) → put i x f i ≡ x
unfolding put
put_here i x f = rw (eq-eqb i i refl)

pub put_there : {A : Type 0} (i : ℕ) (x : A) (f : ℕ → A) (j : ℕ) → j ≢ i → put i x f j ≡ f j
unfolding put
put_there i x f j n = rw (ne_eqb j i n)

-- ---- records
pub odt_from : {a b : Odt} → a.entries ≡ b.entries → a.entry ≡ b.entry → a.store ≡ b.store → a ≡ b
odt_from n e w = λ i. record { entries = n i; entry = e i; store = w i }

pub list_from : {a b : DaqList} → a.mode ≡ b.mode → a.selected ≡ b.selected → a.started ≡ b.started → a.odts ≡ b.odts → a.odt ≡ b.odt → a ≡ b
list_from m n p k o = λ i. record { mode = m i; selected = n i; started = p i; odts = k i; odt = o i }

-- ---- what there is stays: the bytes of the allocation are as they were
abbrev pub Stays : List ℕ → List ℕ → Type 0
Stays s t = Same phase_at (mode_at 0) s t

-- ---- of each list, of each ODT, of each entry: its own bytes alone
module _ {s t : List ℕ} where
  pub mode_own : (l : ℕ) → Same (mode_at l) (selected_at l) s t → mode_of t l ≡ mode_of s l
  unfolding mode_of
  mode_own l w = rw (w.byte (mode_at l) (omega arith) (omega arith))

  module _ (a : Stays s t) where
    pub odt_own : (k : ℕ) → k < all_odts → Same (entries_at (first_entry s k)) (entries_at (first_entry s k + entry_count s k)) s t → Same (sample_at k) (sample_at (k + 1)) s t → odt_of t k ≡ odt_of s k
    odt_own k h w v = odt_from (entry_count_reads a k h) (entries_own a k h w) (store_own k v)

    -- a list's ODTs are where they were
    pub odts_as : (l : ℕ) → l < lists → (daq_of t l).odt ≡ up_to (odt_count s l) no_odt (λ o. odt_of t (first_odt s l + o))
    odts_as l h = ap₂ (λ (n k : ℕ). up_to n no_odt (λ o. odt_of t (k + o))) (odt_count_reads a l h) (first_odt_reads a l (omega arith))

-- ---- where a list's ODTs and entries lie
-- the numbers from a up to b and those from c up to d have none in common, as `omega` reads it
abbrev pub Apart : ℕ → ℕ → ℕ → ℕ → Type 0
Apart a b c d = min (b - c) (d - a) ≡ 0

module _ (s : List ℕ) where
  -- where the entries of list l begin
  abbrev pub entries_from : ℕ → ℕ
  entries_from l = first_entry s (first_odt s l)

  -- in the pool
  pub in_pool : (l : ℕ) → (first_odt s l ≤ first_odt s (suc l)) × (first_odt s (suc l) ≤ all_odts) × (entries_from l ≤ entries_from (suc l)) × (entries_from (suc l) ≤ all_entries)
  in_pool l =
      let o : first_odt s l ≤ first_odt s (suc l) = start_mono all_odts (odts_in s) l (suc l) (omega arith) in
      (o, first_most_lem s (suc l), start_mono all_entries (entries_in s) (first_odt s l) (first_odt s (suc l)) o, start_most all_entries (entries_in s) (first_odt s (suc l)))

  -- those of each of its ODTs among them
  pub in_list_lem : (l o : ℕ) → o < odt_count s l → (entries_from l ≤ first_entry s (first_odt s l + o)) × (first_entry s (first_odt s l + o) + entry_count s (first_odt s l + o) ≤ entries_from (suc l))
  in_list_lem l o h =
      (start_mono all_entries (entries_in s) (first_odt s l) (first_odt s l + o) (omega arith), entry_before s (first_odt s l + o) (first_odt s (suc l)) (omega (arith, odt_next s l)))

  -- two ODTs have no entry in common, and two lists no ODT and no entry
  pub odts_apart : (j k : ℕ) → j ≢ k → Apart (first_entry s j) (first_entry s j + entry_count s j) (first_entry s k) (first_entry s k + entry_count s k)
  odts_apart j k n = by_lt j k (λ h. omega (arith, entry_before s j k h)) (λ h. omega (arith, entry_before s k j (omega arith)))

  pub lists_apart : (j l : ℕ) → j ≢ l → Apart (first_odt s j) (first_odt s (suc j)) (first_odt s l) (first_odt s (suc l)) × Apart (entries_from j) (entries_from (suc j)) (entries_from l) (entries_from (suc l))
  lists_apart j l n =
      by_lt j l (λ h. let g = grows j l h in (omega arith, omega arith)) (λ h. let g = grows l j (omega arith) in (omega arith, omega arith)) where
        grows : (i m : ℕ) → i < m → (first_odt s (suc i) ≤ first_odt s m) × (entries_from (suc i) ≤ entries_from m)
        grows i m h =
            let o : first_odt s (suc i) ≤ first_odt s m = start_mono all_odts (odts_in s) (suc i) m h in
            (o, start_mono all_entries (entries_in s) (first_odt s (suc i)) (first_odt s m) o)

-- what there is, and list l's three runs of bytes
pub record Own (l : ℕ) (s t : List ℕ) : Type 0 where
  pub there : Stays s t
  pub head : Same (mode_at l) (mode_at (l + 1)) s t
  pub entered : Same (entries_at (entries_from s l)) (entries_at (entries_from s (suc l))) s t
  pub stores : Same (sample_at (first_odt s l)) (sample_at (first_odt s (suc l))) s t

pub record Spares (s : List ℕ) (l lo hi : ℕ) : Type 0 where
  pub there : Misses lo hi phase_at (mode_at 0)
  pub head : Misses lo hi (mode_at l) (mode_at (l + 1))
  pub entered : Misses lo hi (entries_at (entries_from s l)) (entries_at (entries_from s (suc l)))
  pub stores : Misses lo hi (sample_at (first_odt s l)) (sample_at (first_odt s (suc l)))

pub own_one : {lo hi l : ℕ} {s t : List ℕ} → Only lo hi s t → Spares s l lo hi → Own l s t
own_one w m = record { there = spared w m.there; head = spared w m.head; entered = spared w m.entered; stores = spared w m.stores }

pub own_both : {lo hi lo' hi' l : ℕ} {s t u : List ℕ} → Only lo hi s t → Only lo' hi' t u → Spares s l lo hi × Spares s l lo' hi' → Own l s u
own_both w v m = record {
  there = both w v (m.0.there, m.1.there);
  head = both w v (m.0.head, m.1.head);
  entered = both w v (m.0.entered, m.1.entered);
  stores = both w v (m.0.stores, m.1.stores);
}

module _ {s t : List ℕ} where
  pub odts_own : (l : ℕ) → l < lists → Stays s t → Same (entries_at (entries_from s l)) (entries_at (entries_from s (suc l))) s t → Same (sample_at (first_odt s l)) (sample_at (first_odt s (suc l))) s t → (daq_of t l).odt ≡ (daq_of s l).odt
  odts_own l h a w v =
      odts_as a l h ∙ up_to_same (odt_count s l) no_odt (λ o p. odt_own a (first_odt s l + o) (omega (arith, odt_most_lem s l))
      (same_part (omega (arith, in_list_lem s l o p)) (omega (arith, in_list_lem s l o p)) w) (same_part (omega arith) (omega (arith, odt_next s l)) v))

  pub list_own : (l : ℕ) → l < lists → Own l s t → daq_of t l ≡ daq_of s l
  list_own l h w =
      list_from (mode_own l (same_part (omega arith) (omega arith) w.head)) (flag_reads (selected_at l) (same_part (omega arith) (omega arith) w.head))
      (flag_reads (running_at l) (same_part (omega arith) (omega arith) w.head)) (odt_count_reads w.there l h) (odts_own l h w.there w.entered w.stores)

  pub lists_reads : Same phase_at size s t → lists_of t ≡ lists_of s
  unfolding lists_of
  lists_reads w =
      let a : Stays s t = same_within tt w in
      rw (list_count_reads a)
      (up_to_same (list_count s) no_list (λ l p. let few : l < lists = omega (arith, lists_most s) in
      list_own l few (record { there = a; head = same_part (omega arith) (omega arith) w; entered = same_part (omega arith) (omega (arith, in_pool s l)) w; stores = same_part (omega arith) (omega (arith, in_pool s l)) w })))

  -- whether the lists were freed
  pub freed_reads : Stays s t → freed_of t ≡ freed_of s
  freed_reads a = ap (ltb 0) (phase_reads a)

  pub locks_reads : Same calibration_at seed_at s t → unlocked_of t ≡ unlocked_of s
  locks_reads w = fun_ext (λ r. lock_reads r w)

  -- ---- a change of the session's bytes leaves the rest of the slave
  pub in_session : Effected s t → view_of t ≡ with_session (view_of s) (session_of t)
  unfolding view_of
  in_session w = λ i. record {
    session = session_of t;
    place = place_reads (same_within tt w.between) i;
    message = message_reads (same_within tt w.between) i;
    answer = answer_reads (same_within tt w.between) i;
    ctr = w.ctr.byte ctr_at (lit≤ tt) (lit< tt) i;
    last_answer = flag_reads last_at (same_within tt w.between) i;
  }

  -- a change of one field's bytes leaves the rest of the session
  pub in_generator : Only generator_at wrong_keys_at s t → session_of t ≡ with_generator (session_of s) (generator_of t)
  unfolding session_of
  in_generator w = λ i. record {
    generator = generator_of t;
    wrong_keys = wrong_keys_reads (apart tt w) i;
    opened = open_reads (apart tt w) i;
    unlocked = locks_reads (apart tt w) i;
    seed = seed_reads (apart tt w) (apart tt w) i;
    mta = mta_reads (apart tt w) i;
    pointer = pointer_reads (apart tt w) i;
    freed = freed_reads (apart tt w) i;
    lists = list_count_reads (apart tt w) i;
    round = round_reads (apart tt w) (apart tt w) i;
    list = lists_reads (apart tt w) i;
  }

  pub in_seed : Only seed_at mta_at s t → session_of t ≡ with_seed (session_of s) (seed_of t)
  unfolding session_of
  in_seed w = λ i. record {
    generator = generator_reads (apart tt w) i;
    wrong_keys = wrong_keys_reads (apart tt w) i;
    opened = open_reads (apart tt w) i;
    unlocked = locks_reads (apart tt w) i;
    seed = seed_of t;
    mta = mta_reads (apart tt w) i;
    pointer = pointer_reads (apart tt w) i;
    freed = freed_reads (apart tt w) i;
    lists = list_count_reads (apart tt w) i;
    round = round_reads (apart tt w) (apart tt w) i;
    list = lists_reads (apart tt w) i;
  }

  pub in_mta : Only mta_at pointer_at s t → session_of t ≡ with_mta (session_of s) (mta_of t)
  unfolding session_of
  in_mta w = λ i. record {
    generator = generator_reads (apart tt w) i;
    wrong_keys = wrong_keys_reads (apart tt w) i;
    opened = open_reads (apart tt w) i;
    unlocked = locks_reads (apart tt w) i;
    seed = seed_reads (apart tt w) (apart tt w) i;
    mta = mta_of t;
    pointer = pointer_reads (apart tt w) i;
    freed = freed_reads (apart tt w) i;
    lists = list_count_reads (apart tt w) i;
    round = round_reads (apart tt w) (apart tt w) i;
    list = lists_reads (apart tt w) i;
  }

  pub in_pointer : Only pointer_at phase_at s t → session_of t ≡ with_pointer (session_of s) (pointer_of t)
  unfolding session_of
  in_pointer w = λ i. record {
    generator = generator_reads (apart tt w) i;
    wrong_keys = wrong_keys_reads (apart tt w) i;
    opened = open_reads (apart tt w) i;
    unlocked = locks_reads (apart tt w) i;
    seed = seed_reads (apart tt w) (apart tt w) i;
    mta = mta_reads (apart tt w) i;
    pointer = pointer_of t;
    freed = freed_reads (apart tt w) i;
    lists = list_count_reads (apart tt w) i;
    round = round_reads (apart tt w) (apart tt w) i;
    list = lists_reads (apart tt w) i;
  }

  pub in_lists : Only (mode_at 0) size s t → session_of t ≡ with_lists (session_of s) (lists_of t)
  unfolding session_of
  in_lists w = λ i. record {
    generator = generator_reads (apart tt w) i;
    wrong_keys = wrong_keys_reads (apart tt w) i;
    opened = open_reads (apart tt w) i;
    unlocked = locks_reads (apart tt w) i;
    seed = seed_reads (apart tt w) (apart tt w) i;
    mta = mta_reads (apart tt w) i;
    pointer = pointer_reads (apart tt w) i;
    freed = freed_reads (apart tt w) i;
    lists = list_count_reads (apart tt w) i;
    round = round_reads (apart tt w) (apart tt w) i;
    list = lists_of t;
  }
