-- Which bytes a writer changes, and which a reader reads: what a change leaves as it was. Assumes nothing.
use Rattle.std.proofs.Common.{◌≡◌, ℕ, zero, suc, ◌+◌, ◌-◌, ◌*◌, ◌%◌, ◌<◌, ◌≤◌, Bool, true, false, cond, T, ltb, leb, List, ◌∷◌, ◌++◌, length, get_or, take, drop, set, Some, None, sym, refl, ap, ◌∙◌, append_assoc, arith, lit<, lit≤, le→leb, leb→le, length-append, length-drop, length-set, length-take, length-take-le, get_or-drop, get_or-take, take_at, ext_get_or, drop_at, ltb-true, lt-ltb, leb-true}
use Rattle.std.proofs.Math.Seq.{sets, length-sets}
use Rattle.line.specs.Message.{longest}
use Rattle.line.specs.Unstuffing.{Fed}
use Rattle.line.specs.declared.Place.{Place}
use Rattle.line.specs.declared.Place.TheVariants.{Outside, Inside, Escaped}
use Rattle.line.proofs.Laws.{cond_ind}
use Rattle.state.specs.Layout.{size, generator_at, wrong_keys_at, ctr_at, place_at, count_at, message_at, answer_at, session_at, session_size, open_at, calibration_at, lists_at, seed_at, mta_at, address_at, pointer_at, pointer_entry_at, phase_at, odts_at, sample_at, all_odts, packet_most}
use Rattle.state.specs.Bytes.{put32, cleared}
use Rattle.state.specs.State.{set_generator, counted_wrong, lock_at, bit_of, set_seed, mta_tag, set_mta, set_pointer, dropped, closed, fresh, set_place, set_message, answered}
use Rattle.session.specs.Receive.{read_on}
use Rattle.words.specs.declared.Resource.{Resource}
use Rattle.words.specs.declared.Resource.TheVariants.{Calibration, Lists}
use Rattle.words.specs.Values.{Seed}
use Rattle.words.specs.declared.Mta.{Mta}
use Rattle.words.specs.declared.Mta.TheVariants.{Unset, At}
use Rattle.words.specs.declared.Pointer.{Pointer}
use Rattle.words.specs.declared.Pointer.TheVariants.{Unset as NoEntry, At as Entry}
use Rattle.state.proofs.Sets.{put32_length, cleared_length}
use Rattle.fields.proofs.Stores.{both_tests, out, set_out, put32_out, sets_out, cleared_out}

-- ---- t differs from s in the bytes from lo up to hi alone
pub record Only (lo hi : ℕ) (s t : List ℕ) : Type 0 where
  pub long : length t ≡ length s
  pub bytes : (j : ℕ) → T (out lo hi j) → get_or t j 0 ≡ get_or s j 0

pub out_below : (lo hi j : ℕ) → j < lo → T (out lo hi j)
out_below lo hi j h = rw (lt-ltb j lo h) tt

pub out_above : (lo hi j : ℕ) → hi ≤ j → T (out lo hi j)
out_above lo hi j h = cond_ind T (ltb j lo) (λ _. tt) (λ _. le→leb hi j h)

pub only_none : {lo hi : ℕ} {s : List ℕ} → Only lo hi s s
only_none = record { long = refl; bytes = λ j o. refl }

pub only_then : {lo hi : ℕ} {s t u : List ℕ} → Only lo hi s t → Only lo hi t u → Only lo hi s u
only_then p q = record { long = q.long ∙ p.long; bytes = λ j o. q.bytes j o ∙ p.bytes j o }

-- outside more is outside less
out_wider : (a b lo hi j : ℕ) → a ≤ lo → hi ≤ b → T (out a b j) → T (out lo hi j)
out_wider a b lo hi j p q o = go (ltb j a) refl o where
  go : (t : Bool) → ltb j a ≡ t → T (cond t true (leb b j)) → T (out lo hi j)
  go true h o' = let k : j < a = ltb-true j a h in out_below lo hi j (omega arith)
  go false h o' = let k : b ≤ j = leb→le b j o' in out_above lo hi j (omega arith)

pub only_wider : {a b lo hi : ℕ} {s t : List ℕ} → a ≤ lo → hi ≤ b → Only lo hi s t → Only a b s t
only_wider {a} {b} {lo} {hi} p q w = record { long = w.long; bytes = λ j o. w.bytes j (out_wider a b lo hi j p q o) }

-- the bytes from lo up to hi are among those from a up to b; at numerals it computes, so that `tt` proves it
abbrev pub among : ℕ → ℕ → ℕ → ℕ → Bool
among lo hi a b = cond (leb a lo) (leb hi b) false

pub among_is : (lo hi a b : ℕ) → T (among lo hi a b) → (a ≤ lo) × (hi ≤ b)
among_is lo hi a b t = let m = both_tests (leb a lo) (leb hi b) t in (leb-true a lo m.0, leb→le hi b m.1)

pub only_within : {lo hi a b : ℕ} {s t : List ℕ} → T (among lo hi a b) → Only lo hi s t → Only a b s t
only_within {lo} {hi} {a} {b} i w = let m = among_is lo hi a b i in only_wider m.0 m.1 w

module _ {lo hi : ℕ} (s : List ℕ) where
  pub only_set : (i a : ℕ) → lo ≤ i → i < hi → Only lo hi s (set s i a)
  only_set i a p q = record { long = length-set s i a; bytes = λ j o. set_out s lo hi i a j p q o }

  pub only_put32 : (i x : ℕ) → lo ≤ i → i + 4 ≤ hi → Only lo hi s (put32 s i x)
  only_put32 i x p q = record { long = put32_length s i x; bytes = λ j o. put32_out s lo hi i x j p q o }

  pub only_sets : (i : ℕ) (xs : List ℕ) → lo ≤ i → i + length xs ≤ hi → Only lo hi s (sets s i xs)
  only_sets i xs p q = record { long = length-sets s i xs; bytes = λ j o. sets_out s lo hi i xs j p q o }

  pub only_cleared : (i n : ℕ) → lo ≤ i → i + n ≤ hi → Only lo hi s (cleared s i n)
  only_cleared i n p q = record { long = cleared_length s i n; bytes = λ j o. cleared_out s lo hi i n j p q o }

-- the bytes before, and the bytes after
pub only_take : {lo hi : ℕ} {s t : List ℕ} (n : ℕ) → n ≤ lo → Only lo hi s t → take n t ≡ take n s
only_take {lo} {hi} {s} {t} n h w =
    let e : length (take n t) ≡ length (take n s) = simp (length-take, w.long) in
    ext_get_or 0 (take n t) (take n s) e
    (λ i p. let k : i < n = before i p in get_or-take n t i 0 k ∙ w.bytes i (out_below lo hi i (omega arith)) ∙ sym (get_or-take n s i 0 k)) where
      before : (i : ℕ) → i < length (take n t) → i < n
      before i p = let q = rw length-take at p in omega arith

pub only_drop : {lo hi : ℕ} {s t : List ℕ} (n : ℕ) → hi ≤ n → Only lo hi s t → drop n t ≡ drop n s
only_drop {lo} {hi} {s} {t} n h w =
    let e : length (drop n t) ≡ length (drop n s) = simp (length-drop, w.long) in
    ext_get_or 0 (drop n t) (drop n s) e
    (λ i p. get_or-drop n t i 0 ∙ w.bytes (n + i) (out_above lo hi (n + i) (omega arith)) ∙ sym (get_or-drop n s i 0))

-- and back from them
pub only_between : {s t : List ℕ} (lo hi : ℕ) → length t ≡ length s → take lo t ≡ take lo s → drop hi t ≡ drop hi s → Only lo hi s t
only_between {s} {t} lo hi e p q = record { long = e; bytes = λ j o. go j (ltb j lo) refl o } where
  go : (j : ℕ) (x : Bool) → ltb j lo ≡ x → T (cond x true (leb hi j)) → get_or t j 0 ≡ get_or s j 0
  go j true h o =
      let k : j < lo = ltb-true j lo h in
      sym (get_or-take lo t j 0 k) ∙ ap (λ (l : List ℕ). get_or l j 0) p ∙ get_or-take lo s j 0 k
  go j false h o =
      let k : hi ≤ j = leb→le hi j o in
      let d : hi + (j - hi) ≡ j = omega arith in
      rw d at (sym (get_or-drop hi t (j - hi) 0) ∙ ap (λ (l : List ℕ). get_or l (j - hi) 0) q ∙ get_or-drop hi s (j - hi) 0)

-- ---- the writers
pub only_generator : (s : List ℕ) (x : ℕ) → Only generator_at wrong_keys_at s (set_generator s x)
unfolding set_generator
only_generator s x = only_put32 s generator_at x (lit≤ tt) (lit≤ tt)

pub only_counted : (s : List ℕ) → Only wrong_keys_at ctr_at s (counted_wrong s)
unfolding counted_wrong
only_counted s = only_set s wrong_keys_at _ (lit≤ tt) (lit< tt)

pub only_lock : (s : List ℕ) (r : Resource) (v : ℕ) → Only calibration_at seed_at s (set s (lock_at r) v)
only_lock s Calibration v = only_set s calibration_at v (lit≤ tt) (lit< tt)
only_lock s Lists v = only_set s lists_at v (lit≤ tt) (lit< tt)

pub only_seed : (s : List ℕ) (x : Seed) → Only seed_at mta_at s (set_seed s x)
unfolding set_seed
only_seed s None = only_set s seed_at 0 (lit≤ tt) (lit< tt)
only_seed s (Some r) = only_set s seed_at (bit_of r) (lit≤ tt) (lit< tt)

pub only_mta : (s : List ℕ) (m : Mta) → Only mta_at pointer_at s (set_mta s m)
unfolding set_mta
only_mta s Unset = only_set s mta_at 0 (lit≤ tt) (lit< tt)
only_mta s (At e a) = only_then (only_set s mta_at (mta_tag e) (lit≤ tt) (lit< tt)) (only_put32 (set s mta_at (mta_tag e)) address_at a (lit≤ tt) (lit≤ tt))

pub only_pointer : (s : List ℕ) (p : Pointer) → Only pointer_at phase_at s (set_pointer s p)
unfolding set_pointer
only_pointer s NoEntry = only_set s pointer_at 0 (lit≤ tt) (lit< tt)
only_pointer s (Entry l o e) =
    let at : ℕ = (all_odts * l + o + 1) % 256 in
    only_then (only_set s pointer_at at (lit≤ tt) (lit< tt)) (only_set (set s pointer_at at) pointer_entry_at e (lit≤ tt) (lit< tt))

pub only_dropped : (s : List ℕ) (k n : ℕ) → Only (sample_at k) (sample_at (k + n)) s (dropped s k n)
unfolding dropped
only_dropped s k zero = only_none
only_dropped s k (suc n) =
    only_then (only_wider (omega arith) (omega arith) (only_dropped s k n)) (only_set (dropped s k n) (sample_at (k + n)) 0 (omega arith) (omega arith))

-- what is behind the count of lists stays: without lists it is not read
pub only_closed : (s : List ℕ) → Only session_at odts_at s (closed s)
unfolding closed
only_closed s = only_cleared s session_at session_size (lit≤ tt) (lit≤ tt)

pub only_fresh : (s : List ℕ) → Only session_at odts_at s (fresh s)
unfolding fresh
only_fresh s = only_then (only_closed s) (only_set (closed s) open_at 1 (lit≤ tt) (lit< tt))

pub only_place : (s : List ℕ) (p : Place) → Only place_at message_at s (set_place s p)
unfolding set_place
only_place s Outside = only_set s place_at 0 (lit≤ tt) (lit< tt)
only_place s (Inside k) = only_then (only_set s place_at 1 (lit≤ tt) (lit< tt)) (only_set (set s place_at 1) count_at (k % 256) (lit≤ tt) (lit< tt))
only_place s (Escaped k) = only_then (only_set s place_at 2 (lit≤ tt) (lit< tt)) (only_set (set s place_at 2) count_at (k % 256) (lit≤ tt) (lit< tt))

pub only_message : (s m : List ℕ) → length s ≡ size → length m ≡ longest → Only message_at answer_at s (set_message s m)
unfolding set_message
only_message s m h k =
    let front : length (take message_at s) ≡ message_at = length-take-le message_at s (omega arith) in
    let both : length (take message_at s ++ m) ≡ answer_at = rw (length-append, front) (omega arith) in
    let rest : length (drop answer_at s) ≡ size - answer_at = rw length-drop (omega arith) in
    only_between message_at answer_at
    (rw (length-append, length-append, front, rest) (omega arith))
    (take_at (take message_at s) (m ++ drop answer_at s) message_at front)
    (ap (drop answer_at) (sym (append_assoc (take message_at s) m (drop answer_at s))) ∙ drop_at (take message_at s ++ m) (drop answer_at s) answer_at both)

pub only_read_on : (s : List ℕ) (f : Fed) → length s ≡ size → length f.message ≡ longest → Only place_at answer_at s (read_on s f)
unfolding read_on
only_read_on s f h k =
    only_then (only_within tt (only_message s f.message h k))
    (only_within tt (only_place (set_message s f.message) f.taken.place))

pub only_answered : (s bs : List ℕ) → length bs ≤ packet_most → Only answer_at session_at s (answered s bs)
unfolding answered
only_answered s bs h = only_sets s answer_at (length bs ∷ bs) (lit≤ tt) (omega arith)
