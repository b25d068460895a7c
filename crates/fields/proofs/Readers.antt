-- A reader reads its own bytes alone: a change elsewhere leaves what it reads. Assumes nothing.
use Rattle.std.proofs.Common.{◌≡◌, ℕ, ◌+◌, ◌<◌, ◌≤◌, Bool, true, false, cond, T, eqb, ltb, leb, ◌≢◌, List, length, get_or, drop, set, sym, refl, ◌∙◌, arith, lit<, lit≤, leb→le, length-drop, length-set, length-take, get_or-drop, get_or-set_other, get_or-take, get_or-set_same, ext_get_or, ltb-false, ltb-true, eqb-true, leb-true}
use Rattle.std.proofs.lemmas.Bool.{eqb-false}
use Rattle.std.proofs.Math.Seq.{set_out}
use Rattle.line.specs.Message.{longest}
use Rattle.state.specs.Layout.{generator_at, wrong_keys_at, ctr_at, place_at, count_at, message_at, answer_at, answer_bytes_at, session_at, open_at, calibration_at, lists_at, seed_at, mta_at, address_at, pointer_at, pointer_entry_at, phase_at, mode_at, round_at, last_at, lists, all_odts, entry_size, entries_at, sample_at}
use Rattle.state.specs.Bytes.{u32_at, block}
use Rattle.state.specs.State.{flag_of, generator_of, wrong_keys_of, open_of, unlocked_of, seed_of, mta_of, pointed_list, pointed_odt, pointer_of, place_of, message_of, answer_length, answer_kind, answer_of}
use Rattle.state.specs.Pool.{phase_of, list_count, round_of, first_odt, odt_count, first_entry, entry_count, entry_at}
use Rattle.state.specs.Lists.{size_of, extension_of, address_of, stored_length}
use Rattle.state.proofs.Ranges.{by_lt}
use Rattle.state.proofs.Allocated.{lists_most, odt_most_lem, phase_same, lists_same, round_same, first_odt_same, odt_count_same, first_entry_same, entry_count_same}
use Rattle.state.proofs.Pointers.{past_lists, past_odts, past_entries, at_entry}
use Rattle.model.specs.Model.{no_entry}
use Rattle.model.specs.View.{entry_of, odt_of}
use Rattle.model.proofs.Bounded.{either, up_to_same}
use Rattle.model.proofs.Shown.{stored_most_lem, answer_most}
use Rattle.words.specs.declared.Resource.{Resource}
use Rattle.words.specs.declared.Resource.TheVariants.{Calibration, Lists}
use Rattle.words.specs.declared.Pointer.TheVariants.{Unset as NoEntry}
use Rattle.fields.proofs.Frames.{Only, out_below, out_above, among, among_is}

-- ---- t is as long as s and has its bytes from a up to b
pub record Same (a b : ℕ) (s t : List ℕ) : Type 0 where
  pub long : length t ≡ length s
  pub byte : (j : ℕ) → a ≤ j → j < b → get_or t j 0 ≡ get_or s j 0

-- a change of the bytes from lo up to hi leaves those from a up to b; at numerals `tt` proves it
abbrev pub clear : ℕ → ℕ → ℕ → ℕ → Bool
clear lo hi a b = cond (leb b lo) true (leb hi a)

pub before : {lo hi a b : ℕ} {s t : List ℕ} → b ≤ lo → Only lo hi s t → Same a b s t
before {lo} {hi} h w = record { long = w.long; byte = λ j p q. w.bytes j (out_below lo hi j (omega arith)) }

pub behind : {lo hi a b : ℕ} {s t : List ℕ} → hi ≤ a → Only lo hi s t → Same a b s t
behind {lo} {hi} h w = record { long = w.long; byte = λ j p q. w.bytes j (out_above lo hi j (omega arith)) }

pub apart : {lo hi a b : ℕ} {s t : List ℕ} → T (clear lo hi a b) → Only lo hi s t → Same a b s t
apart {lo} {hi} {a} {b} {s} {t} c w = go (leb b lo) refl c where
  go : (x : Bool) → leb b lo ≡ x → T (cond x true (leb hi a)) → Same a b s t
  go true h o = before (leb-true b lo h) w
  go false h o = behind (leb→le hi a o) w

pub same_then : {a b : ℕ} {s t u : List ℕ} → Same a b s t → Same a b t u → Same a b s u
same_then p q = record { long = q.long ∙ p.long; byte = λ j h k. q.byte j h k ∙ p.byte j h k }

pub same_part : {a b lo hi : ℕ} {s t : List ℕ} → lo ≤ a → b ≤ hi → Same lo hi s t → Same a b s t
same_part p q w = record { long = w.long; byte = λ j h k. w.byte j (omega arith) (omega arith) }

pub same_within : {a b lo hi : ℕ} {s t : List ℕ} → T (among a b lo hi) → Same lo hi s t → Same a b s t
same_within {a} {b} {lo} {hi} i w = let m = among_is a b lo hi i in same_part m.0 m.1 w

-- a run of bytes
pub same_block : {a b : ℕ} {s t : List ℕ} (i n : ℕ) → a ≤ i → i + n ≤ b → Same a b s t → block t i n ≡ block s i n
same_block {a} {b} {s} {t} i n p q w =
    ext_get_or 0 (block t i n) (block s i n) (simp (length-take, length-drop, w.long))
    (λ j h. let k : j < n = early j h in
    get_or-take n (drop i t) j 0 k ∙ get_or-drop i t j 0 ∙ w.byte (i + j) (omega arith) (omega arith) ∙ sym (get_or-drop i s j 0) ∙ sym (get_or-take n (drop i s) j 0 k)) where
      early : (j : ℕ) → j < length (block t i n) → j < n
      early j h = let r = rw length-take at h in omega arith

-- the same store in both
pub same_set : {a b : ℕ} {s t : List ℕ} (i v : ℕ) → Same a b s t → Same a b (set s i v) (set t i v)
same_set {a} {b} {s} {t} i v w = record { long = simp (length-set, w.long); byte = λ j p q. go j p q (eqb j i) (ltb i (length s)) refl refl } where
  go : (j : ℕ) → a ≤ j → j < b → (x y : Bool) → eqb j i ≡ x → ltb i (length s) ≡ y → get_or (set t i v) j 0 ≡ get_or (set s i v) j 0
  go j p q x false e l =
      let h : length s ≤ i = ltb-false i (length s) l in
      let k : length t ≤ i = rw w.long h in
      rw (set_out t i v k, set_out s i v h) (w.byte j p q)
  go j p q true true e l =
      let h : i < length s = ltb-true i (length s) l in
      let k : i < length t = rw w.long h in
      rw (eqb-true j i e) (get_or-set_same t i v 0 k ∙ sym (get_or-set_same s i v 0 h))
  go j p q false true e l = get_or-set_other t i j v 0 (eqb-false j i e) ∙ w.byte j p q ∙ sym (get_or-set_other s i j v 0 (eqb-false j i e))

-- ---- the readers
pub pointer_unset_lem : (s : List ℕ) → get_or s pointer_at 0 ≡ 0 → pointer_of s ≡ NoEntry
unfolding pointer_of
pointer_unset_lem s e = simp e

-- an entry has two bytes
pub entry_by : (s t : List ℕ) (k e : ℕ) → get_or t (entry_at t k e) 0 ≡ get_or s (entry_at s k e) 0 → get_or t (entry_at t k e + 1) 0 ≡ get_or s (entry_at s k e + 1) 0 → entry_of t k e ≡ entry_of s k e
unfolding size_of extension_of address_of
entry_by s t k e p q = rw (p, q)

module _ {s t : List ℕ} where
  u32_reads : (i : ℕ) → Same i (i + 4) s t → u32_at t i ≡ u32_at s i
  unfolding u32_at
  u32_reads i w =
      rw (w.byte i (omega arith) (omega arith), w.byte (i + 1) (omega arith) (omega arith), w.byte (i + 2) (omega arith) (omega arith), w.byte (i + 3) (omega arith) (omega arith))

  pub flag_reads : (i : ℕ) → Same i (i + 1) s t → flag_of t i ≡ flag_of s i
  unfolding flag_of
  flag_reads i w = rw (w.byte i (omega arith) (omega arith))

  pub generator_reads : Same generator_at wrong_keys_at s t → generator_of t ≡ generator_of s
  unfolding generator_of
  generator_reads w = rw (u32_reads generator_at w)

  pub wrong_keys_reads : Same wrong_keys_at ctr_at s t → wrong_keys_of t ≡ wrong_keys_of s
  unfolding wrong_keys_of
  wrong_keys_reads w = rw (w.byte wrong_keys_at (lit≤ tt) (lit< tt))

  pub open_reads : Same open_at calibration_at s t → open_of t ≡ open_of s
  open_reads w = flag_reads open_at w

  pub lock_reads : (r : Resource) → Same calibration_at seed_at s t → unlocked_of t r ≡ unlocked_of s r
  lock_reads Calibration w = flag_reads calibration_at (same_within tt w)
  lock_reads Lists w = flag_reads lists_at (same_within tt w)

  pub seed_reads : Same wrong_keys_at ctr_at s t → Same seed_at mta_at s t → seed_of t ≡ seed_of s
  unfolding seed_of
  seed_reads v w = rw (wrong_keys_reads v, w.byte seed_at (lit≤ tt) (lit< tt))

  pub mta_reads : Same mta_at pointer_at s t → mta_of t ≡ mta_of s
  unfolding mta_of
  mta_reads w = rw (w.byte mta_at (lit≤ tt) (lit< tt), u32_reads address_at (same_within tt w))

  -- what there is of lists, ODTs and entries: by the bytes of the allocation alone
  module _ (w : Same phase_at (mode_at 0) s t) where
    pub phase_reads : phase_of t ≡ phase_of s
    phase_reads = phase_same t s (w.byte phase_at (lit≤ tt) (lit< tt))

    pub list_count_reads : list_count t ≡ list_count s
    list_count_reads = lists_same t s (w.byte phase_at (lit≤ tt) (lit< tt))

    pub first_odt_reads : (l : ℕ) → l ≤ lists → first_odt t l ≡ first_odt s l
    first_odt_reads = first_odt_same t s (λ j p q. w.byte j (omega arith) (omega arith))

    pub odt_count_reads : (l : ℕ) → l < lists → odt_count t l ≡ odt_count s l
    odt_count_reads = odt_count_same t s (λ j p q. w.byte j (omega arith) (omega arith))

    pub first_entry_reads : (k : ℕ) → k ≤ all_odts → first_entry t k ≡ first_entry s k
    first_entry_reads = first_entry_same t s (λ j p q. w.byte j (omega arith) q)

    pub entry_count_reads : (k : ℕ) → k < all_odts → entry_count t k ≡ entry_count s k
    entry_count_reads = entry_count_same t s (λ j p q. w.byte j (omega arith) q)

    pub round_reads : Same round_at last_at s t → round_of t ≡ round_of s
    round_reads v = round_same t s (w.byte phase_at (lit≤ tt) (lit< tt)) (v.byte round_at (lit≤ tt) (lit< tt))

  -- where the pointer is, and whether there is such an entry
  module _ (w : Same pointer_at (mode_at 0) s t) where
    pub pointer_reads : pointer_of t ≡ pointer_of s
    pointer_reads =
        let a : Same phase_at (mode_at 0) s t = same_within tt w in
        let b : ℕ = get_or s pointer_at 0 in
        let l : ℕ = pointed_list s in
        let o : ℕ = pointed_odt s in
        let k : ℕ = first_odt s l + o in
        let e : ℕ = get_or s pointer_entry_at 0 in
        let tag : get_or t pointer_at 0 ≡ b = w.byte pointer_at (lit≤ tt) (lit< tt) in
        let entry : get_or t pointer_entry_at 0 ≡ e = w.byte pointer_entry_at (lit≤ tt) (lit< tt) in
        either (eqb b 0)
        (λ z. pointer_unset_lem t (tag ∙ eqb-true b 0 z) ∙ sym (pointer_unset_lem s (eqb-true b 0 z)))
        (λ z. let some : b ≢ 0 = eqb-false b 0 z in
        by_lt l (list_count s)
        (λ one. let few : l < lists = omega (arith, lists_most s) in
        let one' : l < list_count t = rw (list_count_reads a) one in
        by_lt o (odt_count s l)
        (λ its. let its' : o < odt_count t l = rw (odt_count_reads a l few) its in
        let odt : k < all_odts = omega (arith, odt_most_lem s l) in
        let same : entry_count t (first_odt t l + o) ≡ entry_count s k = rw (first_odt_reads a l (omega arith)) (entry_count_reads a k odt) in
        by_lt e (entry_count s k)
        (λ h. at_entry t b l o e tag some refl refl entry one' its' (rw same h) ∙ sym (at_entry s b l o e refl some refl refl refl one its h))
        (λ h. past_entries t b l o e tag some refl refl entry one' its' (rw same h) ∙ sym (past_entries s b l o e refl some refl refl refl one its h)))
        (λ h. past_odts t b l o e tag some refl refl one' (rw (odt_count_reads a l few) h) ∙ sym (past_odts s b l o e refl some refl refl one h)))
        (λ h. past_lists t b l o e tag some refl refl (rw (list_count_reads a) h) ∙ sym (past_lists s b l o e refl some refl refl h)))

  pub place_reads : Same place_at message_at s t → place_of t ≡ place_of s
  unfolding place_of
  place_reads w = rw (w.byte place_at (lit≤ tt) (lit< tt), w.byte count_at (lit≤ tt) (lit< tt))

  pub message_reads : Same message_at answer_at s t → message_of t ≡ message_of s
  unfolding message_of
  message_reads w = same_block message_at longest (lit≤ tt) (lit≤ tt) w

  pub answer_length_reads : Same answer_at session_at s t → answer_length t ≡ answer_length s
  unfolding answer_length
  answer_length_reads w = rw (w.byte answer_at (lit≤ tt) (lit< tt))

  answer_kind_reads : Same answer_at session_at s t → answer_kind t ≡ answer_kind s
  unfolding answer_kind
  answer_kind_reads w = rw (w.byte answer_bytes_at (lit≤ tt) (lit< tt), answer_length_reads w)

  pub answer_reads : Same answer_at session_at s t → answer_of t ≡ answer_of s
  unfolding answer_of
  answer_reads w =
      rw (answer_kind_reads w, answer_length_reads w)
      (same_block answer_bytes_at (answer_length s) (lit≤ tt) (omega (arith, answer_most s)) (same_set answer_bytes_at (answer_kind s) w))

  -- an entry, an ODT's entries, its store: each by its own bytes alone, if what there is stays
  module _ (a : Same phase_at (mode_at 0) s t) where
    pub entry_own : (k e : ℕ) → k ≤ all_odts → Same (entry_at s k e) (entry_at s k e + entry_size) s t → entry_of t k e ≡ entry_of s k e
    entry_own k e h w =
        let same : first_entry t k ≡ first_entry s k = first_entry_reads a k h in
        entry_by s t k e (rw same (w.byte (entry_at s k e) (omega arith) (omega arith))) (rw same (w.byte (entry_at s k e + 1) (omega arith) (omega arith)))

    pub entries_own : (k : ℕ) → k < all_odts → Same (entries_at (first_entry s k)) (entries_at (first_entry s k + entry_count s k)) s t → (odt_of t k).entry ≡ (odt_of s k).entry
    entries_own k h w = rw (entry_count_reads a k h) (up_to_same (entry_count s k) no_entry (λ e q. entry_own k e (omega arith) (same_part (omega arith) (omega arith) w)))

  pub stored_reads : (k : ℕ) → Same (sample_at k) (sample_at k + 1) s t → stored_length t k ≡ stored_length s k
  unfolding stored_length
  stored_reads k w = rw (w.byte (sample_at k) (omega arith) (omega arith))

  pub store_own : (k : ℕ) → Same (sample_at k) (sample_at (k + 1)) s t → (odt_of t k).store ≡ (odt_of s k).store
  store_own k w =
      rw (stored_reads k (same_part (omega arith) (omega arith) w)) (same_block (sample_at k + 1) (stored_length s k) (omega arith) (omega (arith, stored_most_lem s k)) w)
