-- A field of the state reads as it was set; what a closed session and a fresh one hold. Assumes nothing.
use Rattle.std.proofs.Common.{◌≡◌, ℕ, zero, suc, ◌+◌, ◌*◌, ◌%◌, ◌^◌, ◌<◌, ◌≤◌, Bool, true, false, cond, T, eqb, ◌≢◌, List, ◌∷◌, length, get_or, set, Some, None, sym, refl, ap, ◌∙◌, subst, mod-eq_of_lt, arith, lit<, lit≤, length-set, get_or-set_other, get_or-set_same, le-ltb, lt-ltb, ne_eqb, eqb-true, leb-false, leb-true}
use Rattle.std.proofs.lemmas.Bool.{eqb-false}
use Rattle.std.proofs.lemmas.List.{set-get_or}
use Rattle.std.proofs.lemmas.Option.{none-some}
use Rattle.std.proofs.Math.Seq.{sets}
use Rattle.line.specs.declared.Place.{Place}
use Rattle.line.specs.declared.Place.TheVariants.{Outside, Inside, Escaped}
use Rattle.line.proofs.Laws.{cond_ind}
use Rattle.state.specs.Layout.{size, wrong_most, generator_at, wrong_keys_at, session_at, session_size, open_at, calibration_at, lists_at, seed_at, pointer_at, pointer_entry_at, mta_at, address_at, phase_at, odts_at, mode_at, round_at, sample_at, place_at, count_at, message_at, answer_at, answer_bytes_at, lists, all_odts, packet_most}
use Rattle.state.specs.Bytes.{u32_at, put32, block}
use Rattle.state.specs.Generator.{start_of, stays_shut, one_wrong_more}
use Rattle.state.specs.State.{bit_of, flag_of, generator_of, set_generator, wrong_keys_of, counted_wrong, open_of, lock_at, unlocked_of, seed_of, set_seed, mta_tag, mta_of, set_mta, pointer_of, set_pointer, Pointed, dropped, closed, fresh, place_of, set_place, answer_length, waits, answer_kind, answer_of, answered}
use Rattle.state.specs.Pool.{phase_of, freed_of, list_count, round_of, first_odt, odt_count}
use Rattle.state.specs.Lists.{stored_length}
use Rattle.words.specs.declared.Resource.{Resource}
use Rattle.words.specs.declared.Resource.TheVariants.{Calibration, Lists}
use Rattle.words.specs.declared.Extension.{Extension}
use Rattle.words.specs.declared.Extension.TheVariants.{Calibration as CalibrationMemory, Measured}
use Rattle.words.specs.Values.{Seed}
use Rattle.words.specs.declared.Mta.{Mta}
use Rattle.words.specs.declared.Mta.TheVariants.{Unset, At}
use Rattle.words.specs.declared.Pointer.{Pointer}
use Rattle.words.specs.declared.Pointer.TheVariants.{Unset as NoEntry, At as Entry}
use Rattle.state.proofs.Allocated.{lists_most, odt_most_lem}
use Rattle.state.proofs.Pointers.{at_entry}
use Rattle.model.proofs.Bounded.{either}
use Rattle.fields.proofs.Frames.{only_dropped, only_pointer, only_closed}
use Rattle.fields.proofs.Readers.{Same, apart, pointer_unset_lem, list_count_reads, first_odt_reads, odt_count_reads, entry_count_reads}
use Rattle.fields.proofs.Stores.{set_out, put32_out, put32_same, sets_in, block_sets, cleared_in}

-- ---- a field reads as it was set
-- an address that four bytes hold
abbrev pub Addressed : Mta → Type 0
Addressed Unset = Unit
Addressed (At e a) = a < 2 ^ 32

mta_tagged : (s : List ℕ) (e : Extension) (a : ℕ) → length s ≡ size → get_or (put32 (set s mta_at (mta_tag e)) address_at a) mta_at 0 ≡ mta_tag e
mta_tagged s e a h =
    put32_out (set s mta_at (mta_tag e)) address_at pointer_at address_at a mta_at (lit≤ tt) (lit≤ tt) tt ∙ get_or-set_same s mta_at (mta_tag e) 0 (omega arith)

mta_addressed : (s : List ℕ) (e : Extension) (a : ℕ) → length s ≡ size → a < 2 ^ 32 → u32_at (put32 (set s mta_at (mta_tag e)) address_at a) address_at ≡ a
mta_addressed s e a h l = put32_same (set s mta_at (mta_tag e)) address_at a (simp length-set (omega arith)) l

pub mta_same : (s : List ℕ) (m : Mta) → length s ≡ size → Addressed m → mta_of (set_mta s m) ≡ m
unfolding set_mta mta_of
mta_same s Unset h l = simp (get_or-set_same s mta_at 0 0 (omega arith))
mta_same s (At CalibrationMemory a) h l = simp (mta_tagged s CalibrationMemory a h, mta_addressed s CalibrationMemory a h l)
mta_same s (At Measured a) h l = simp (mta_tagged s Measured a h, mta_addressed s Measured a h l)

pub pointer_same : (s : List ℕ) (p : Pointer) → length s ≡ size → Pointed s p → pointer_of (set_pointer s p) ≡ p
unfolding set_pointer
pointer_same s NoEntry h there = pointer_unset_lem (set s pointer_at 0) (get_or-set_same s pointer_at 0 0 (omega arith))
pointer_same s (Entry l o e) h there =
    let one : l < list_count s = there.0 in
    let its : o < odt_count s l = there.1 in
    let few : l < lists = omega (arith, lists_most s) in
    let k : ℕ = first_odt s l + o in
    let odt : k < all_odts = omega (arith, odt_most_lem s l) in
    let b : ℕ = all_odts * l + o + 1 in
    let m : b % 256 ≡ b = mod-eq_of_lt (omega arith) in
    let t : List ℕ = set (set s pointer_at (b % 256)) pointer_entry_at e in
    let tag : get_or t pointer_at 0 ≡ b
    = get_or-set_other (set s pointer_at (b % 256)) pointer_entry_at pointer_at e 0 (omega arith) ∙ get_or-set_same s pointer_at (b % 256) 0 (omega arith) ∙ m in
    let entry : get_or t pointer_entry_at 0 ≡ e = get_or-set_same (set s pointer_at (b % 256)) pointer_entry_at e 0 (rw length-set (omega arith)) in
    let a : Same phase_at (mode_at 0) s t = apart tt (only_pointer s (Entry l o e)) in
    at_entry t b l o e tag (omega arith) (omega arith) (omega arith) entry (rw (list_count_reads a) one) (rw (odt_count_reads a l few) its)
    (rw (first_odt_reads a l (omega arith), entry_count_reads a k odt) there.2)

-- the count of wrong keys is never above 3, also with one more
capped : (n m : ℕ) → (n < wrong_most → m ≤ wrong_most) → cond (stays_shut n) wrong_most m ≤ wrong_most
capped n m f = cond_ind (λ (x : ℕ). x ≤ wrong_most) (stays_shut n) (λ _. lit≤ tt) (λ b. f (leb-false wrong_most n b))

pub wrong_keys_few : (s : List ℕ) → wrong_keys_of s ≤ wrong_most
unfolding wrong_keys_of
wrong_keys_few s = capped (get_or s wrong_keys_at 0) (get_or s wrong_keys_at 0) (λ few. omega arith)

pub more_few : (n : ℕ) → one_wrong_more n ≤ wrong_most
more_few n = capped n (n + 1) (λ few. omega arith)

-- such a count reads as it was set
count_reads : (s : List ℕ) (n : ℕ) → get_or s wrong_keys_at 0 ≡ n → n ≤ wrong_most → wrong_keys_of s ≡ n
unfolding wrong_keys_of
count_reads s n e l = rw e (cond_ind (λ (m : ℕ). m ≡ n) (stays_shut n) (λ b. let many : wrong_most ≤ n = leb-true wrong_most n b in omega arith) (λ _. refl))

pub wrong_keys_counted : (s : List ℕ) → length s ≡ size → wrong_keys_of (counted_wrong s) ≡ one_wrong_more (wrong_keys_of s)
unfolding counted_wrong
wrong_keys_counted s h = count_reads _ _ (get_or-set_same s wrong_keys_at (one_wrong_more (wrong_keys_of s)) 0 (omega arith)) (more_few (wrong_keys_of s))

-- a seed that can be out with n wrong keys
abbrev pub Given : Seed → ℕ → Type 0
Given None n = Unit
Given (Some r) n = stays_shut n ≡ false

-- a seed is out only then
pub seed_few : (s : List ℕ) (r : Resource) → seed_of s ≡ Some r → stays_shut (wrong_keys_of s) ≡ false
unfolding seed_of
seed_few s r = go (stays_shut (wrong_keys_of s)) _ where
  go : (shut : Bool) (x : Seed) → cond shut None x ≡ Some r → shut ≡ false
  go true x e = absurd (none-some r e)
  go false x e = refl

pub shut_seedless : (s : List ℕ) → stays_shut (wrong_keys_of s) ≡ true → seed_of s ≡ None
unfolding seed_of
shut_seedless s e = rw e

set_seed_count : (s : List ℕ) (v : ℕ) → wrong_keys_of (set s seed_at v) ≡ wrong_keys_of s
unfolding wrong_keys_of
set_seed_count s v = rw (set_out s seed_at mta_at seed_at v wrong_keys_at (lit≤ tt) (lit< tt) tt)

pub seed_same : (s : List ℕ) (x : Seed) → length s ≡ size → Given x (wrong_keys_of s) → seed_of (set_seed s x) ≡ x
unfolding set_seed seed_of
seed_same s None h g = cond_ind (λ (x : Seed). x ≡ None) (stays_shut (wrong_keys_of (set s seed_at 0))) (λ _. refl) (λ _. simp (get_or-set_same s seed_at 0 0 (omega arith)))
seed_same s (Some Calibration) h g = simp (set_seed_count s (bit_of Calibration), g, get_or-set_same s seed_at (bit_of Calibration) 0 (omega arith))
seed_same s (Some Lists) h g = simp (set_seed_count s (bit_of Lists), g, get_or-set_same s seed_at (bit_of Lists) 0 (omega arith))

-- a count that a byte holds
abbrev pub Counted : Place → Type 0
Counted Outside = Unit
Counted (Inside k) = k < 256
Counted (Escaped k) = k < 256

place_tagged : (s : List ℕ) (t k : ℕ) → length s ≡ size → get_or (set (set s place_at t) count_at k) place_at 0 ≡ t
place_tagged s t k h = set_out (set s place_at t) count_at message_at count_at k place_at (lit≤ tt) (lit< tt) tt ∙ get_or-set_same s place_at t 0 (omega arith)

place_counted : (s : List ℕ) (t k : ℕ) → length s ≡ size → k < 256 → get_or (set (set s place_at t) count_at (k % 256)) count_at 0 ≡ k
place_counted s t k h l = get_or-set_same (set s place_at t) count_at (k % 256) 0 (simp length-set (omega arith)) ∙ mod-eq_of_lt l

pub place_same : (s : List ℕ) (p : Place) → length s ≡ size → Counted p → place_of (set_place s p) ≡ p
unfolding set_place place_of
place_same s Outside h l = simp (get_or-set_same s place_at 0 0 (omega arith))
place_same s (Inside k) h l = simp (place_tagged s 1 (k % 256) h, place_counted s 1 k h l)
place_same s (Escaped k) h l = simp (place_tagged s 2 (k % 256) h, place_counted s 2 k h l)

pub generator_same : (s : List ℕ) (x : ℕ) → length s ≡ size → x < 2 ^ 32 → generator_of (set_generator s x) ≡ start_of x
unfolding set_generator generator_of
generator_same s x h l = ap start_of (put32_same s generator_at x (omega arith) l)

-- a lock, and the other one
abbrev pub other : Resource → Resource
other Calibration = Lists
other Lists = Calibration

pub lock_same : (s : List ℕ) (r : Resource) → length s ≡ size → unlocked_of (set s (lock_at r) 1) r ≡ true
unfolding flag_of
lock_same s Calibration h = simp (get_or-set_same s calibration_at 1 0 (omega arith))
lock_same s Lists h = simp (get_or-set_same s lists_at 1 0 (omega arith))

pub lock_other : (s : List ℕ) (r : Resource) (v : ℕ) → unlocked_of (set s (lock_at r) v) (other r) ≡ unlocked_of s (other r)
unfolding flag_of
lock_other s Calibration v = simp (set_out s calibration_at lists_at calibration_at v lists_at (lit≤ tt) (lit< tt) tt)
lock_other s Lists v = simp (set_out s lists_at seed_at lists_at v calibration_at (lit≤ tt) (lit< tt) tt)

-- ---- the answer
-- an answer of 1 to 64 bytes that begins with FF, or with FE if its length is 2 or 8
abbrev pub kindly : ℕ → ℕ → Bool
kindly n b = cond (eqb b 0xFF) true (cond (eqb b 0xFE) (cond (eqb n 2) true (eqb n 8)) false)

pub record Answering (bs : List ℕ) : Type 0 where
  pub some : 1 ≤ length bs
  pub few : length bs ≤ packet_most
  pub kind : T (kindly (length bs) (get_or bs 0 0))

pub length_answered : (s bs : List ℕ) → length s ≡ size → 1 ≤ length bs → length bs ≤ packet_most → answer_length (answered s bs) ≡ length bs
unfolding answered answer_length
length_answered s bs h p q =
    let n : get_or (sets s answer_at (length bs ∷ bs)) answer_at 0 ≡ length bs = sets_in s answer_at (length bs ∷ bs) 0 (omega arith) (omega arith) in
    simp (n, ne_eqb (length bs) 0 (omega arith), le-ltb packet_most (length bs) q)

pub waits_answered : (s bs : List ℕ) → length s ≡ size → 1 ≤ length bs → length bs ≤ packet_most → waits (answered s bs) ≡ true
waits_answered s bs h p q = rw (length_answered s bs h p q) (lt-ltb 0 (length bs) p)

-- the first byte reads as it is
kind_as_it_is : (n b : ℕ) → T (kindly n b) → cond (eqb b 0xFE) (cond (eqb n 2) 0xFE (cond (eqb n 8) 0xFE 0xFF)) 0xFF ≡ b
kind_as_it_is n b = go (eqb b 0xFF) (eqb b 0xFE) (eqb n 2) (eqb n 8) refl refl where
  go : (ff fe two eight : Bool) → eqb b 0xFF ≡ ff → eqb b 0xFE ≡ fe → T (cond ff true (cond fe (cond two true eight) false))
      → cond fe (cond two 0xFE (cond eight 0xFE 0xFF)) 0xFF ≡ b
  go true true two eight p q o = absurd (different b (eqb-true b 0xFF p) (eqb-true b 0xFE q)) where
    different : (x : ℕ) → x ≡ 0xFF → x ≡ 0xFE → ⊥
    different x p q = omega arith
  go true false two eight p q o = sym (eqb-true b 0xFF p)
  go false true true eight p q o = sym (eqb-true b 0xFE q)
  go false true false true p q o = sym (eqb-true b 0xFE q)
  go false true false false p q o = elim o [ ]
  go false false two eight p q o = elim o [ ]

first_answered : (s bs : List ℕ) → length s ≡ size → 1 ≤ length bs → length bs ≤ packet_most → get_or (answered s bs) answer_bytes_at 0 ≡ get_or bs 0 0
unfolding answered
first_answered s bs h p q = sets_in s answer_at (length bs ∷ bs) 1 (omega arith) (omega arith)

kind_answered : (s bs : List ℕ) → length s ≡ size → Answering bs → answer_kind (answered s bs) ≡ get_or (answered s bs) answer_bytes_at 0
unfolding answer_kind
kind_answered s bs h a =
    let n = length_answered s bs h a.some a.few in
    let b : get_or (answered s bs) answer_bytes_at 0 ≡ get_or bs 0 0 = first_answered s bs h a.some a.few in
    simp (n, b) (kind_as_it_is (length bs) (get_or bs 0 0) a.kind)

bytes_answered : (s bs : List ℕ) → length s ≡ size → length bs ≤ packet_most → block (answered s bs) answer_bytes_at (length bs) ≡ bs
unfolding answered
bytes_answered s bs h q = block_sets (set s answer_at (length bs)) answer_bytes_at bs (rw length-set (omega arith))

pub answer_same : (s bs : List ℕ) → length s ≡ size → Answering bs → answer_of (answered s bs) ≡ bs
unfolding answer_of
answer_same s bs h a =
    rw (kind_answered s bs h a, set-get_or, length_answered s bs h a.some a.few) (bytes_answered s bs h a.few)

-- ---- a session of which nothing is set: every byte of it up to the count of lists is 0, but perhaps the first, whether it is open. It has no lists
pub record Bare (s : List ℕ) : Type 0 where
  pub nought : (j : ℕ) → calibration_at ≤ j → j < odts_at → get_or s j 0 ≡ 0

pub bare_locked : (s : List ℕ) (r : Resource) → Bare s → unlocked_of s r ≡ false
unfolding flag_of
bare_locked s Calibration z = simp (z.nought calibration_at (lit≤ tt) (lit< tt))
bare_locked s Lists z = simp (z.nought lists_at (lit≤ tt) (lit< tt))

pub bare_seed : (s : List ℕ) → Bare s → seed_of s ≡ None
unfolding seed_of
bare_seed s z = cond_ind (λ (x : Seed). x ≡ None) (stays_shut (wrong_keys_of s)) (λ _. refl) (λ _. simp (z.nought seed_at (lit≤ tt) (lit< tt)))

pub bare_mta : (s : List ℕ) → Bare s → mta_of s ≡ Unset
unfolding mta_of
bare_mta s z = simp (z.nought mta_at (lit≤ tt) (lit< tt))

pub bare_pointer : (s : List ℕ) → Bare s → pointer_of s ≡ NoEntry
bare_pointer s z = pointer_unset_lem s (z.nought pointer_at (lit≤ tt) (lit< tt))

bare_phase : (s : List ℕ) → Bare s → phase_of s ≡ 0
unfolding phase_of
bare_phase s z = simp (z.nought phase_at (lit≤ tt) (lit< tt))

pub bare_freed : (s : List ℕ) → Bare s → freed_of s ≡ false
bare_freed s z = simp (bare_phase s z)

pub bare_lists : (s : List ℕ) → Bare s → list_count s ≡ 0
bare_lists s z = simp (bare_phase s z)

-- without lists the round begins with list 0, whatever its byte is
pub no_round : (s : List ℕ) → list_count s ≡ 0 → round_of s ≡ 0
unfolding round_of
no_round s e = simp (le-ltb (get_or s round_at 0) (list_count s) (omega arith))

-- an empty store
pub empty_stored : (s : List ℕ) (k : ℕ) → get_or s (sample_at k) 0 ≡ 0 → stored_length s k ≡ 0
unfolding stored_length
empty_stored s k e = simp e

-- packets dropped
pub dropped_empty : (s : List ℕ) (k n j : ℕ) → length s ≡ size → k + n ≤ all_odts → j < n → get_or (dropped s k n) (sample_at (k + j)) 0 ≡ 0
unfolding dropped
dropped_empty s k zero j h q p = absurd (omega arith)
dropped_empty s k (suc n) j h q p =
    let t : List ℕ = dropped s k n in
    let long : length t ≡ size = (only_dropped s k n).long ∙ h in
    either (eqb j n)
    (λ b. subst (λ (i : ℕ). get_or (set t (sample_at (k + n)) 0) (sample_at (k + i)) 0 ≡ 0) (sym (eqb-true j n b)) (get_or-set_same t (sample_at (k + n)) 0 0 (omega arith)))
    (λ b. let m : j ≢ n = eqb-false j n b in
    get_or-set_other t (sample_at (k + n)) (sample_at (k + j)) 0 0 (omega arith) ∙ dropped_empty s k n j h (omega arith) (omega arith))

-- ---- a closed session
pub closed_length : (s : List ℕ) → length (closed s) ≡ length s
closed_length s = (only_closed s).long

closed_zero : (s : List ℕ) (j : ℕ) → length s ≡ size → session_at ≤ j → j < odts_at → get_or (closed s) j 0 ≡ 0
unfolding closed
closed_zero s j h p q = cleared_in s session_at session_size j (omega arith) p (omega arith)

pub closed_open : (s : List ℕ) → length s ≡ size → open_of (closed s) ≡ false
unfolding flag_of
closed_open s h = simp (closed_zero s open_at h (lit≤ tt) (lit< tt))

pub closed_bare : (s : List ℕ) → length s ≡ size → Bare (closed s)
closed_bare s h = record { nought = λ j p q. closed_zero s j h (omega arith) q }

-- a byte before the locks leaves it bare
bare_set : (s : List ℕ) (i v : ℕ) → i < calibration_at → Bare s → Bare (set s i v)
bare_set s i v h z = record { nought = λ j p q. get_or-set_other s i j v 0 (omega arith) ∙ z.nought j p q }

pub counted_bare : (s : List ℕ) → Bare s → Bare (counted_wrong s)
unfolding counted_wrong
counted_bare s z = bare_set s wrong_keys_at _ (lit< tt) z

-- ---- a fresh session
pub fresh_open : (s : List ℕ) → length s ≡ size → open_of (fresh s) ≡ true
unfolding fresh flag_of
fresh_open s h = simp (get_or-set_same (closed s) open_at 1 0 (rw closed_length (omega arith)))

pub fresh_bare : (s : List ℕ) → length s ≡ size → Bare (fresh s)
unfolding fresh
fresh_bare s h = bare_set (closed s) open_at 1 (lit< tt) (closed_bare s h)
