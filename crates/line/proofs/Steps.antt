-- A byte of a message by cases: what it can be, and what it then leads to. Assumes nothing.
use Rattle.std.proofs.Common.{◌≡◌, ℕ, ◌+◌, ◌<◌, ◌≤◌, Bool, true, false, cond, eqb, ltb, List, length, take, set, sym, refl, ◌∙◌, arith, get_or-set_same, ltb-false, ltb-true, le-ltb, eqb-true, Err}
use Rattle.line.specs.Form.{Form, number_at}
use Rattle.line.specs.Message.{packet_begins, checksum_at, size_in, longest_in, Serial, byte_form, longest}
use Rattle.line.specs.Unstuffing.{Fed, Does, on, over, take_by}
use Rattle.line.specs.Reader.{len_in, begun_in, judged_at, judged_in, put_in, messages_in, take_in, begun_of, put_of, messages, take_of}
use Rattle.line.specs.declared.Place.{Place}
use Rattle.line.specs.declared.Place.TheVariants.{Inside}
use Rattle.line.specs.declared.Taken.{Taken}
use Rattle.line.specs.Values.{Outcome, good_message}
use Rattle.line.proofs.Laws.{false_true, cond_ind}
use Rattle.line.proofs.Numbers.{number_set, byte_serial}
use Rattle.line.proofs.Begun.{Begun, begun_known, begun_right}
use Rattle.line.specs.declared.Fault.TheVariants.{BadLength, BadChecksum, ShortBuffer}

-- a message that has begun has not yet as many bytes as the longest
pub put_within_in : (f : Form) → Serial f → (k n : ℕ) → begun_in f k n ≡ true → k < longest_in f
put_within_in f s k n g = go (ltb k f.width) refl
  where
    go : (t : Bool) → ltb k f.width ≡ t → k < longest_in f
    go true e = omega (arith, ltb-true k f.width e, s.summed)
    go false e = let b : Begun f k n = begun_known f k n g (ltb-false k f.width e) in omega (arith, s.within n b.few, b.short)

-- a byte x after the k bytes at the front of the buffer m
pub data PutsIn (f : Form) (k : ℕ) (m : List ℕ) (x : ℕ) : Fed → Type 0 where
  -- LEN, and no right one
  refuses : PutsIn f k m x (over (Err BadLength) m)
  -- a byte, and not the last
  goes : begun_in f (k + 1) (len_in f (set m k x)) ≡ true → PutsIn f k m x (on (Inside (k + 1)) (set m k x))
  -- the last, and the checksum is right
  fills : (n : ℕ) → 1 ≤ n → n ≤ f.most → k + 1 ≡ size_in f n → len_in f (set m k x) ≡ n
      → number_at f.sum_width (checksum_at f n) (set m k x) ≡ f.checksum (take (checksum_at f n) (set m k x))
      → PutsIn f k m x (over (good_message (number_at f.width f.width (set m k x)) (packet_begins f) n) (set m k x))
  -- the last, and the checksum is wrong
  spoils : PutsIn f k m x (over (Err BadChecksum) (set m k x))

-- once LEN has come, it stays, and the message goes on or ends
module _ (f : Form) (k : ℕ) (m : List ℕ) (x : ℕ) (whole : f.width ≤ k) where
  len_kept : len_in f (set m k x) ≡ len_in f m
  len_kept = number_set f.width 0 k x m (omega arith)

  pub put_rest : put_in f k m x ≡ cond (begun_in f (k + 1) (len_in f m)) (on (Inside (k + 1)) (set m k x)) (over (judged_in f (set m k x)) (set m k x))
  put_rest = rw (len_kept, le-ltb k f.width whole)

module _ (f : Form) (k : ℕ) (m : List ℕ) (x : ℕ) where
  last : (n : ℕ) → 1 ≤ n → n ≤ f.most → k + 1 ≡ size_in f n → len_in f (set m k x) ≡ n → PutsIn f k m x (over (judged_at f n (set m k x)) (set m k x))
  last n some few e l =
      cond_ind (λ (o : Outcome). PutsIn f k m x (over o (set m k x)))
      (eqb (number_at f.sum_width (checksum_at f n) (set m k x)) (f.checksum (take (checksum_at f n) (set m k x))))
      (λ t. fills n some few e l (eqb-true _ _ t)) (λ _. spoils)

  pub puts_in : begun_in f k (len_in f m) ≡ true → PutsIn f k m x (put_in f k m x)
  puts_in g =
      cond_ind (PutsIn f k m x) (begun_in f (k + 1) (len_in f (set m k x))) goes
      (λ e. cond_ind (PutsIn f k m x) (ltb k f.width) (λ _. refuses)
      (λ t.
      let whole : f.width ≤ k = ltb-false k f.width t in
      let b : Begun f k (len_in f (set m k x)) = rw (len_kept f k m x whole) (begun_known f k (len_in f m) g whole) in
      last (len_in f (set m k x)) b.some b.few (ended (len_in f (set m k x)) b e) refl))
    where
      ended : (n : ℕ) → Begun f k n → begun_in f (k + 1) n ≡ false → k + 1 ≡ size_in f n
      ended n b e = go (ltb (k + 1) (size_in f n)) refl
        where
          go : (t : Bool) → ltb (k + 1) (size_in f n) ≡ t → k + 1 ≡ size_in f n
          go true t = absurd (false_true (sym e ∙ begun_right f (k + 1) n b.some b.few (ltb-true (k + 1) (size_in f n) t)))
          go false t = omega (arith, ltb-false (k + 1) (size_in f n) t, b.short)

-- what holds with too short a buffer, and with one long enough, holds
pub take_cases : (f : Form) (P : Fed → Type 0) (p : Place) (m : List ℕ) (b : ℕ) → P (record { taken = record { place = p; outcome = Err ShortBuffer }; message = m })
    → (longest_in f ≤ length m → P (take_by (messages_in f) p m b)) → P (take_in f p m b)
unfolding take_in
take_cases f P p m b short long = cond_ind P (ltb (length m) (longest_in f)) (λ _. short) (λ t. long (ltb-false (length m) (longest_in f) t))

-- with one long enough a byte is one of the stuffing over messages
pub take_long_in : (f : Form) (p : Place) (m : List ℕ) (b : ℕ) → longest_in f ≤ length m → take_in f p m b ≡ take_by (messages_in f) p m b
unfolding take_in
take_long_in f p m b h = simp (le-ltb _ _ h)

-- ---- the byte form
pub put_within : (k n : ℕ) → begun_of k n ≡ true → k < longest
put_within = put_within_in byte_form byte_serial

abbrev pub Puts : ℕ → List ℕ → ℕ → Fed → Type 0
Puts = PutsIn byte_form

pub puts : (k : ℕ) (m : List ℕ) (x : ℕ) → longest ≤ length m → messages.begun k m ≡ true → Puts k m x (put_of k m x)
puts k m x fits = puts_in byte_form k m x

-- LEN is judged as it comes
pub put_len : (k : ℕ) (m : List ℕ) (x : ℕ) → k < byte_form.width → longest ≤ length m
    → put_of k m x ≡ cond (begun_of byte_form.width x) (on (Inside byte_form.width) (set m 0 x)) (over (Err BadLength) m)
put_len k m x lead fits = let z : k ≡ 0 = omega arith in rw (z, get_or-set_same m 0 x 0 (omega arith))

pub take_long : (p : Place) (m : List ℕ) (b : ℕ) → longest ≤ length m → take_of p m b ≡ take_by messages p m b
unfolding take_of
take_long = take_long_in byte_form
