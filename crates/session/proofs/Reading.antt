-- A byte of the reader, with its place in two bytes: what it leads to, case by case. Assumes nothing.
use Rattle.std.proofs.Common.{Option, Some, None, Err, ◌≡◌, refl, sym, ap, ap₂, subst, ◌∙◌, ◌≢◌, Bool, true, false, cond, List, ◌++◌, ℕ, zero, suc, ◌+◌, ◌-◌, ◌%◌, ◌≤◌, ◌<◌, arith, eq-eqb, ne_eqb, lt-ltb, ltb-true, ltb-false, eqb, ltb, length, get_or, set, take, drop, length-set, take-append-drop, get_or-set_same, get_or-set_other, set-set, drop-set-lt, get_or-take, get_or-drop, drop-drop}
use Rattle.std.proofs.lemmas.List.{set_comm, set-get_or, take-set-le, drop-set-add}
use Rattle.std.proofs.Math.Seq.{take-set-lt}
use Rattle.line.specs.Stuffing.{SYNC, ESC}
use Rattle.line.specs.Form.{number_at}
use Rattle.line.specs.Message.{byte_form, checksum_at, most, longest}
use Rattle.line.specs.Unstuffing.{Fed, on, over, take_by}
use Rattle.line.specs.Reader.{len_in, begun_of, judged_of, put_of, messages, take_of}
use Rattle.line.specs.declared.Place.{Place}
use Rattle.line.specs.declared.Place.TheVariants.{Outside, Inside, Escaped}
use Rattle.line.specs.Values.{Outcome}
use Rattle.line.proofs.Laws.{cond_ind}
use Rattle.line.proofs.Begun.{Begun, begun_known, begun_right, begun_ended}
use Rattle.line.proofs.Steps.{put_rest, put_len, put_within, take_long}
use Rattle.state.specs.Layout.{place_at, count_at, message_at, answer_at, size}
use Rattle.state.specs.State.{place_of, set_place, message_of, set_message}
use Rattle.state.proofs.Sets.{block_length}
use Rattle.session.specs.Receive.{fed_of, read_on}
use Rattle.session.specs.Quiet.{ReadsOn, ends, placed, len_of, Steps}
use Rattle.session.specs.declared.slice.At.{At}
use Rattle.line.specs.declared.Fault.TheVariants.{BadLength, BadEscape}

-- ---- the message buffer in the state
pub message_long : (s : List ℕ) → length s ≡ size → length (message_of s) ≡ longest
unfolding message_of
message_long s h = block_length s message_at longest (omega arith)

pub len_there : (s : List ℕ) → get_or (message_of s) 0 0 ≡ len_of s
unfolding message_of
len_there s = get_or-take longest (drop message_at s) 0 0 (omega arith) ∙ get_or-drop message_at s 0 0

message_back : (s : List ℕ) → set_message s (message_of s) ≡ s
unfolding message_of set_message
message_back s =
    ap (λ (r : List ℕ). take message_at s ++ (take longest (drop message_at s) ++ r)) (sym (drop-drop longest message_at s))
    ∙ ap (λ (r : List ℕ). take message_at s ++ r) (take-append-drop longest (drop message_at s))
    ∙ take-append-drop message_at s

message_set : (s : List ℕ) (k b : ℕ) → k < longest → set_message s (set (message_of s) k b) ≡ set s (message_at + k) b
unfolding message_of set_message
message_set s k b h =
    let t = set s (message_at + k) b in
    let m : message_of t ≡ set (message_of s) k b = ap (take longest) (drop-set-add message_at s k b) ∙ take-set-lt longest (drop message_at s) k b h in
    let front : take message_at t ≡ take message_at s = take-set-le message_at s (message_at + k) b (omega arith) in
    let behind : drop answer_at t ≡ drop answer_at s = drop-set-lt answer_at s (message_at + k) b (omega arith) in
    sym (ap (λ (r : List ℕ). r ++ (set (message_of s) k b ++ drop answer_at s)) front)
    ∙ sym (ap (λ (r : List ℕ). take message_at t ++ (set (message_of s) k b ++ r)) behind)
    ∙ sym (ap (λ (r : List ℕ). take message_at t ++ (r ++ drop answer_at t)) m)
    ∙ message_back t

-- ---- the place in two bytes
abbrev pub place_in : ℕ → ℕ → Place
place_in tag k = cond (eqb tag 1) (Inside k) (cond (eqb tag 2) (Escaped k) Outside)

module _ (s : List ℕ) (tag k : ℕ) where
  pub placed_length : length (placed s tag k) ≡ length s
  placed_length = length-set (set s place_at tag) count_at k ∙ length-set s place_at tag

  placed_place : length s ≡ size → place_of (placed s tag k) ≡ place_in tag k
  unfolding place_of
  placed_place h =
      let t : get_or (placed s tag k) place_at 0 ≡ tag = get_or-set_other (set s place_at tag) count_at place_at k 0 (λ (e : place_at ≡ count_at). omega arith) ∙ get_or-set_same s place_at tag 0 (omega arith) in
      let c : get_or (placed s tag k) count_at 0 ≡ k = get_or-set_same (set s place_at tag) count_at k 0 (rw (length-set s place_at tag) (omega arith)) in
      rw (t, c)

  placed_message : message_of (placed s tag k) ≡ message_of s
  unfolding message_of
  placed_message = ap (take longest) (drop-set-lt message_at (set s place_at tag) count_at k (omega arith) ∙ drop-set-lt message_at s place_at tag (omega arith))

  set_outside : set_place (placed s tag k) Outside ≡ placed s 0 k
  unfolding set_place
  set_outside = set_comm (set s place_at tag) count_at place_at k 0 (λ (e : count_at ≡ place_at). omega arith) ∙ ap (λ (x : List ℕ). set x count_at k) (set-set s place_at tag 0)

  both : (tag' k' : ℕ) → set (set (placed s tag k) place_at tag') count_at k' ≡ placed s tag' k'
  both tag' k' =
      ap (λ (x : List ℕ). set x count_at k') (set_comm (set s place_at tag) count_at place_at k tag' (λ (e : count_at ≡ place_at). omega arith))
      ∙ set-set (set (set s place_at tag) place_at tag') count_at k k'
      ∙ ap (λ (x : List ℕ). set x count_at k') (set-set s place_at tag tag')

  set_inside : (j : ℕ) → j < 256 → set_place (placed s tag k) (Inside j) ≡ placed s 1 j
  unfolding set_place
  set_inside j h = let e : j % 256 ≡ j = omega arith in both 1 (j % 256) ∙ ap (placed s 1) e

  set_escaped : (j : ℕ) → j < 256 → set_place (placed s tag k) (Escaped j) ≡ placed s 2 j
  unfolding set_place
  set_escaped j h = let e : j % 256 ≡ j = omega arith in both 2 (j % 256) ∙ ap (placed s 2) e

  set_within : (j b : ℕ) → set (placed s tag k) (message_at + j) b ≡ placed (set s (message_at + j) b) tag k
  set_within j b =
      set_comm (set s place_at tag) count_at (message_at + j) k b (λ (e : count_at ≡ message_at + j). omega arith)
      ∙ ap (λ (x : List ℕ). set x count_at k) (set_comm s place_at (message_at + j) tag b (λ (e : place_at ≡ message_at + j). omega arith))

  -- the line, lent both
  pub fed : length s ≡ size → (b : ℕ) → fed_of (placed s tag k) b ≡ take_by messages (place_in tag k) (message_of s) b
  fed h b =
      ap₂ (λ (p : Place) (m : List ℕ). take_of p m b) (placed_place h) placed_message
      ∙ take_long (place_in tag k) (message_of s) b (omega (arith, message_long s h))

-- a place as the two bytes have it
pub own_place : (s : List ℕ) → placed s (get_or s place_at 0) (get_or s count_at 0) ≡ s
own_place s = simp set-get_or

-- ---- a byte that ends nothing: the reader reads on
reads_on : (s t : List ℕ) (b : ℕ) (p : Place) (m : List ℕ) → fed_of s b ≡ on p m → t ≡ set_place (set_message s m) p → ReadsOn s b t
unfolding read_on
reads_on s t b p m e st = record { nothing = ap (λ (f : Fed). f.taken.outcome) e; state = st ∙ sym (ap (read_on s) e) }

module _ (s : List ℕ) (tag k b : ℕ) (h : length s ≡ size) where
  -- it leaves the message as it is
  stays : (p : Place) → take_by messages (place_in tag k) (message_of s) b ≡ on p (message_of s) → (t : List ℕ) → set_place (placed s tag k) p ≡ t → ReadsOn (placed s tag k) b t
  stays p e t st =
      reads_on (placed s tag k) t b p (message_of s) (fed s tag k h b ∙ e)
      (sym st ∙ ap (λ (x : List ℕ). set_place x p) (sym (ap (set_message (placed s tag k)) (sym (placed_message s tag k)) ∙ message_back (placed s tag k))))

  -- it goes in as byte j of the message
  goes_in : (j x : ℕ) → j < longest → take_by messages (place_in tag k) (message_of s) b ≡ on (Inside (j + 1)) (set (message_of s) j x)
      → ReadsOn (placed s tag k) b (placed (set s (message_at + j) x) 1 (j + 1))
  goes_in j x few e =
      let m : set_message (placed s tag k) (set (message_of s) j x) ≡ placed (set s (message_at + j) x) tag k
      = ap (λ (y : List ℕ). set_message (placed s tag k) (set y j x)) (sym (placed_message s tag k)) ∙ message_set (placed s tag k) j x few ∙ set_within s tag k j x in
      reads_on (placed s tag k) _ b (Inside (j + 1)) (set (message_of s) j x) (fed s tag k h b ∙ e)
      (sym (ap (λ (y : List ℕ). set_place y (Inside (j + 1))) m ∙ set_inside (set s (message_at + j) x) tag k (j + 1) (omega arith)))

module _ (s : List ℕ) (k b : ℕ) (h : length s ≡ size) where
  pub outside_sync : b ≡ SYNC → ReadsOn (placed s 0 k) b (placed s 1 0)
  outside_sync e = rw e (stays s 0 k SYNC h (Inside 0) refl _ (set_inside s 0 k 0 (omega arith)))

  pub outside_other : b ≢ SYNC → ReadsOn (placed s 0 k) b (placed s 0 k)
  outside_other e = stays s 0 k b h Outside (simp (ne_eqb b SYNC e)) _ (set_outside s 0 k)

module _ (s : List ℕ) (b : ℕ) (h : length s ≡ size) where
  pub sync_again : b ≡ SYNC → ReadsOn (placed s 1 0) b (placed s 1 0)
  sync_again e = rw e (stays s 1 0 SYNC h (Inside 0) refl _ (set_inside s 1 0 0 (omega arith)))

  pub len_comes : 1 ≤ b → b ≤ most → ReadsOn (placed s 1 0) b (placed (set s message_at b) 1 1)
  len_comes some few =
      goes_in s 1 0 b h 0 b (omega arith)
      (simp (ne_eqb b SYNC (λ (e : b ≡ SYNC). omega arith), ne_eqb b ESC (λ (e : b ≡ ESC). omega arith))
      (put_len 0 (message_of s) b (omega arith) (omega (arith, message_long s h)) ∙ simp (begun_right byte_form 1 b some few (omega arith))))

-- a message that goes on behind its byte k has begun
pub went_on : (k n : ℕ) → 1 ≤ k → begun_of (k + 1) n ≡ true → begun_of k n ≡ true
went_on k n some g = let b : Begun byte_form (k + 1) n = begun_known byte_form (k + 1) n g (omega arith) in begun_right byte_form k n b.some b.few (omega (arith, b.short))

-- byte x behind LEN
module _ (s : List ℕ) (k x : ℕ) (h : length s ≡ size) (some : 1 ≤ k) where
  put_on : begun_of (k + 1) (len_of s) ≡ true → put_of k (message_of s) x ≡ on (Inside (k + 1)) (set (message_of s) k x)
  put_on g =
      let l : get_or (message_of s) 0 0 ≡ len_of s = len_there s in
      put_rest byte_form k (message_of s) x some ∙ simp (l, g)

  put_last : begun_of (k + 1) (len_of s) ≡ false → put_of k (message_of s) x ≡ over (judged_of (set (message_of s) k x)) (set (message_of s) k x)
  put_last g =
      let l : get_or (message_of s) 0 0 ≡ len_of s = len_there s in
      put_rest byte_form k (message_of s) x some ∙ simp (l, g)

pub judged_ends : (m : List ℕ) → ends (judged_of m) ≡ true
judged_ends m =
    cond_ind (λ (o : Outcome). ends o ≡ true)
    (eqb (number_at byte_form.sum_width (checksum_at byte_form (len_in byte_form m)) m) (byte_form.checksum (take (checksum_at byte_form (len_in byte_form m)) m)))
    (λ _. refl) (λ _. refl)

-- a byte other than SYNC, at a place that a message can have
module _ (s : List ℕ) (k b : ℕ) (h : length s ≡ size) (g : begun_of k (len_of s) ≡ true) (e : b ≢ SYNC) where
  in_message : take_by messages (place_in 1 k) (message_of s) b ≡ cond (eqb b ESC) (on (Escaped k) (message_of s)) (put_of k (message_of s) b)
  in_message = let l : get_or (message_of s) 0 0 ≡ len_of s = len_there s in simp (ne_eqb b SYNC e, l, g)

  behind_escape : take_by messages (place_in 2 k) (message_of s) b
      ≡ cond (eqb b 0) (put_of k (message_of s) ESC) (cond (eqb b 1) (put_of k (message_of s) SYNC) (over (Err BadEscape) (message_of s)))
  behind_escape = let l : get_or (message_of s) 0 0 ≡ len_of s = len_there s in simp (ne_eqb b SYNC e, l, g)

escaped_value : (b : ℕ) {A : Type 0} (f : ℕ → A) (x : A) → b ≤ 1 → cond (eqb b 0) (f ESC) (cond (eqb b 1) (f SYNC) x) ≡ f (ESC - b)
escaped_value zero f x h = refl
escaped_value (suc zero) f x h = refl
escaped_value (suc (suc b)) f x h = absurd (omega arith)

module _ (s : List ℕ) (k b : ℕ) (h : length s ≡ size) (some : 1 ≤ k) (g : begun_of (k + 1) (len_of s) ≡ true) where
  within : k < longest
  within = put_within k (len_of s) (went_on k (len_of s) some g)

  pub plain_goes : b ≢ SYNC → b ≢ ESC → ReadsOn (placed s 1 k) b (placed (set s (message_at + k) b) 1 (k + 1))
  plain_goes n e = goes_in s 1 k b h k b within (in_message s k b h (went_on k (len_of s) some g) n ∙ simp (ne_eqb b ESC e) (put_on s k b h some g))

  pub escaped_goes : b ≤ 1 → ReadsOn (placed s 2 k) b (placed (set s (message_at + k) (ESC - b)) 1 (k + 1))
  escaped_goes few =
      goes_in s 2 k b h k (ESC - b) within
      (behind_escape s k b h (went_on k (len_of s) some g) (λ (e : b ≡ SYNC). omega arith)
      ∙ escaped_value b (put_of k (message_of s)) (over (Err BadEscape) (message_of s)) few
      ∙ put_on s k (ESC - b) h some g)

pub escape_comes : (s : List ℕ) (k b : ℕ) → length s ≡ size → begun_of k (len_of s) ≡ true → b ≡ ESC → ReadsOn (placed s 1 k) b (placed s 2 k)
escape_comes s k b h g e =
    stays s 1 k b h (Escaped k) (in_message s k b h g (λ (n : b ≡ SYNC). omega arith) ∙ simp (eq-eqb b ESC e)) _
    (set_escaped s 1 k k (omega (arith, put_within k (len_of s) g)))

-- ---- a byte that ends something
pub len_none : begun_of 1 0 ≡ false
len_none = refl

pub len_long : (n : ℕ) → most < n → begun_of 1 n ≡ false
len_long n long = simp (ne_eqb n 0 (λ (z : n ≡ 0). omega arith), lt-ltb most n long)

ends_so : (s : List ℕ) (tag k b : ℕ) (h : length s ≡ size) (f : Fed) → take_by messages (place_in tag k) (message_of s) b ≡ f → ends f.taken.outcome ≡ true
    → ends (fed_of (placed s tag k) b).taken.outcome ≡ true
ends_so s tag k b h f e x = ap (λ (y : Fed). ends y.taken.outcome) (fed s tag k h b ∙ e) ∙ x

module _ (s : List ℕ) (b : ℕ) (h : length s ≡ size) where
  pub len_wrong : begun_of 1 b ≡ false → b ≢ SYNC → b ≢ ESC → ends (fed_of (placed s 1 0) b).taken.outcome ≡ true
  len_wrong g n e =
      ends_so s 1 0 b h (over (Err BadLength) (message_of s))
      (in_message s 0 b h refl n ∙ simp (ne_eqb b ESC e) (put_len 0 (message_of s) b (omega arith) (omega (arith, message_long s h)) ∙ simp g)) refl

  len_escaped_at : b ≤ 1 → ends (fed_of (placed s 2 0) b).taken.outcome ≡ true
  len_escaped_at few =
      ends_so s 2 0 b h (over (Err BadLength) (message_of s))
      (behind_escape s 0 b h refl (λ (e : b ≡ SYNC). omega arith)
      ∙ escaped_value b (put_of 0 (message_of s)) (over (Err BadEscape) (message_of s)) few
      ∙ put_len 0 (message_of s) (ESC - b) (omega arith) (omega (arith, message_long s h))
      ∙ simp (len_long (ESC - b) (omega arith))) refl

  pub len_escaped : (k : ℕ) → k ≡ 0 → b ≤ 1 → ends (fed_of (placed s 2 k) b).taken.outcome ≡ true
  len_escaped k z few = subst (λ (j : ℕ). ends (fed_of (placed s 2 j) b).taken.outcome ≡ true) (sym z) (len_escaped_at few)

module _ (s : List ℕ) (k b : ℕ) (h : length s ≡ size) (g : begun_of k (len_of s) ≡ true) where
  pub cut_inside : b ≡ SYNC → 1 ≤ k → ends (fed_of (placed s 1 k) b).taken.outcome ≡ true
  cut_inside e some =
      let l : get_or (message_of s) 0 0 ≡ len_of s = len_there s in
      ends_so s 1 k b h (take_by messages (place_in 1 k) (message_of s) b) refl (simp (eq-eqb b SYNC e, l, g, ne_eqb k 0 (λ (z : k ≡ 0). omega arith)))

  pub cut_escaped : b ≡ SYNC → ends (fed_of (placed s 2 k) b).taken.outcome ≡ true
  cut_escaped e =
      let l : get_or (message_of s) 0 0 ≡ len_of s = len_there s in
      ends_so s 2 k b h (take_by messages (place_in 2 k) (message_of s) b) refl (simp (eq-eqb b SYNC e, l, g))

  pub bad_escape : b ≢ SYNC → 1 < b → ends (fed_of (placed s 2 k) b).taken.outcome ≡ true
  bad_escape n e =
      ends_so s 2 k b h (over (Err BadEscape) (message_of s))
      (behind_escape s k b h g n ∙ simp (ne_eqb b 0 (λ (z : b ≡ 0). omega arith), ne_eqb b 1 (λ (z : b ≡ 1). omega arith))) refl

  module _ (some : 1 ≤ k) (last : len_of s + 2 ≤ k) where
    over_now : begun_of (k + 1) (len_of s) ≡ false
    over_now = begun_ended byte_form (k + 1) (len_of s) (omega arith) (omega arith)

    pub last_inside : b ≢ SYNC → b ≢ ESC → ends (fed_of (placed s 1 k) b).taken.outcome ≡ true
    last_inside n e =
        ends_so s 1 k b h (over (judged_of (set (message_of s) k b)) (set (message_of s) k b))
        (in_message s k b h g n ∙ simp (ne_eqb b ESC e) (put_last s k b h some over_now)) (judged_ends (set (message_of s) k b))

    pub last_escaped : b ≤ 1 → ends (fed_of (placed s 2 k) b).taken.outcome ≡ true
    last_escaped few =
        ends_so s 2 k b h (over (judged_of (set (message_of s) k (ESC - b))) (set (message_of s) k (ESC - b)))
        (behind_escape s k b h g (λ (e : b ≡ SYNC). omega arith)
        ∙ escaped_value b (put_of k (message_of s)) (over (Err BadEscape) (message_of s)) few
        ∙ put_last s k (ESC - b) h some over_now) (judged_ends (set (message_of s) k (ESC - b)))

-- ---- one byte with the place beside the state
pub not_zero : (n : ℕ) → 1 ≤ n → n ≢ 0
not_zero n h = λ (z : n ≡ 0). omega arith

pub leaves : (s : List ℕ) (tag k b : ℕ) → ends (fed_of (placed s tag k) b).taken.outcome ≡ true → Steps s tag k b None s
leaves s tag k b e = (refl, e)

abbrev at : ℕ → ℕ → Option At
at tag k = Some (record { tag = tag; k = k })

pub goes : (s t : List ℕ) (tag k b tag' k' : ℕ) → tag' ≤ 2 → (tag' ≢ 0 → begun_of k' (len_of t) ≡ true) → ReadsOn (placed s tag k) b (placed t tag' k') → Steps s tag k b (at tag' k') t
goes s t tag k b tag' k' few g r = (r, record { few = few; begun = g })

-- of a message that has begun
module _ (k n : ℕ) (some : 1 ≤ k) (g : begun_of k n ≡ true) where
  pub known : Begun byte_form k n
  known = begun_known byte_form k n g some

  pub more : k < n + 2 → begun_of (k + 1) n ≡ true
  more short = begun_right byte_form (k + 1) n known.some known.few (omega arith)

pub len_stays : (s : List ℕ) (k x : ℕ) → 1 ≤ k → len_of (set s (message_at + k) x) ≡ len_of s
len_stays s k x some = get_or-set_other s (message_at + k) message_at x 0 (λ (e : message_at ≡ message_at + k). omega arith)

module _ (s : List ℕ) (k b : ℕ) (h : length s ≡ size) (some : 1 ≤ k) (g : begun_of k (len_of s) ≡ true) (short : k < len_of s + 2) where
  stands_on : (x : ℕ) → begun_of (k + 1) (len_of (set s (message_at + k) x)) ≡ true
  stands_on x = ap (begun_of (k + 1)) (len_stays s k x some) ∙ more k (len_of s) some g short

  pub step_plain : b ≢ SYNC → b ≢ ESC → Steps s 1 k b (at 1 (k + 1)) (set s (message_at + k) b)
  step_plain n e = goes s (set s (message_at + k) b) 1 k b 1 (k + 1) (omega arith) (λ _. stands_on b) (plain_goes s k b h some (more k (len_of s) some g short) n e)

  pub step_escaped : b ≤ 1 → Steps s 2 k b (at 1 (k + 1)) (set s (message_at + k) (ESC - b))
  step_escaped few =
      goes s (set s (message_at + k) (ESC - b)) 2 k b 1 (k + 1) (omega arith) (λ _. stands_on (ESC - b)) (escaped_goes s k b h some (more k (len_of s) some g short) few)

pub step_len : (s : List ℕ) (b : ℕ) → length s ≡ size → 1 ≤ b → b ≤ most → Steps s 1 0 b (at 1 1) (set s message_at b)
step_len s b h some few =
    goes s (set s message_at b) 1 0 b 1 1 (omega arith)
    (λ _. ap (begun_of 1) (get_or-set_same s message_at b 0 (omega arith)) ∙ begun_right byte_form 1 b some few (omega arith)) (len_comes s b h some few)

-- ---- one byte with the place in the state
module _ (s t : List ℕ) (tag k b : ℕ) (e : get_or s place_at 0 ≡ tag) (f : get_or s count_at 0 ≡ k) where
  pub placed_there : placed s tag k ≡ s
  placed_there = rw (← e, ← f) (own_place s)

  pub quiet_so : {u : List ℕ} → ReadsOn (placed s tag k) b u → t ≡ u → ReadsOn s b t
  quiet_so {u = u} r x = subst (λ (y : List ℕ). ReadsOn s b y) (sym x) (subst (λ (y : List ℕ). ReadsOn y b u) placed_there r)

-- a byte that is there already
pub set_there : (s : List ℕ) (i a : ℕ) → get_or s i 0 ≡ a → set s i a ≡ s
set_there s i a e = rw (← e) (set-get_or s i 0)

pub tag_stays : (s : List ℕ) (k x : ℕ) → get_or (set s (message_at + k) x) place_at 0 ≡ get_or s place_at 0
tag_stays s k x = get_or-set_other s (message_at + k) place_at x 0 (λ (e : place_at ≡ message_at + k). omega arith)

pub known_on : (k n : ℕ) → 1 ≤ k → begun_of (k + 1) n ≡ true → Begun byte_form (k + 1) n
known_on k n some g = begun_known byte_form (k + 1) n g (omega arith)

pub goes_on_so : (k n : ℕ) → 1 ≤ n → n ≤ most → ltb k (n + 2) ≡ begun_of (k + 1) n
goes_on_so k n some few = go (ltb k (n + 2)) refl
  where
    go : (t : Bool) → ltb k (n + 2) ≡ t → t ≡ begun_of (k + 1) n
    go true e = sym (begun_right byte_form (k + 1) n some few (omega (arith, ltb-true k (n + 2) e)))
    go false e = sym (begun_ended byte_form (k + 1) n (omega arith) (omega (arith, ltb-false k (n + 2) e)))
