-- What a received byte is on the line, told from the bytes since SYNC, is what the line's reader does with it. Assumes nothing.
use Rattle.std.proofs.Common.{◌≡◌, ℕ, ◌+◌, ◌%◌, ◌<◌, ◌≤◌, Bool, true, false, cond, not, ◌&&◌, ◌||◌, eqb, ltb, leb, List, length, take, drop, set, None, Ok, Err, sym, refl, ap, ◌∙◌, subst, ap₂, arith, get_or-set_same, le-ltb, lt-ltb, eqb-true}
use Rattle.std.proofs.lemmas.Bool.{eqb-false}
use Rattle.std.proofs.lemmas.List.{take-set-le, drop-set-add}
use Rattle.line.specs.Message.{byte_form, checksum_at, size_in, sum}
use Rattle.line.specs.Unstuffing.{Fed, on, over, cut_of, take_by, inside_by}
use Rattle.line.specs.Reader.{judged_at, begun_of, judged_of, put_of, messages, take_of}
use Rattle.line.specs.declared.Place.{Place}
use Rattle.line.specs.declared.Place.TheVariants.{Outside, Inside, Escaped}
use Rattle.line.specs.Values.{Outcome, good_message}
use Rattle.line.specs.declared.Fault.TheVariants.{BadLength, BadEscape, BadChecksum, CutOff}
use Rattle.line.proofs.Laws.{cond_ind}
use Rattle.line.proofs.Begun.{Begun, begun_known, begun_right, begun_ended}
use Rattle.line.proofs.Numbers.{number_set}
use Rattle.line.proofs.Steps.{put_len, put_rest, take_long}
use Rattle.state.specs.Bytes.{block}
use Rattle.model.specs.Model.{byte}
use Rattle.model.proofs.Bounded.{either}
use Rattle.views.specs.Commands.{sum_from}
use Rattle.views.specs.OnTheLine.{Comes, Quiet, Whole, Lost, under_way, len_is, checksum_is, next_byte, inside_one, behind_esc, comes_to}
use Rattle.views.proofs.FaultWords.{at_most_lem}
use Rattle.views.proofs.MemoryLaws.{sum_from_lem}

abbrev pub fed : Place → Outcome → List ℕ → Fed
fed p o m = record { taken = record { place = p; outcome = o }; message = m }

-- what a byte comes to, and what the line makes of it
pub data Agrees : Comes → Fed → Type 0 where
  quiet : {p : Place} {m : List ℕ} → Agrees Quiet (fed p (Ok None) m)
  whole : {p : Place} {m packet : List ℕ} (ctr at n : ℕ) → block m at n ≡ packet → Agrees (Whole packet) (fed p (good_message ctr at n) m)
  bad_length : {p : Place} {m : List ℕ} → Agrees (Lost 3) (fed p (Err BadLength) m)
  bad_escape : {p : Place} {m : List ℕ} → Agrees (Lost 4) (fed p (Err BadEscape) m)
  bad_checksum : {p : Place} {m : List ℕ} → Agrees (Lost 5) (fed p (Err BadChecksum) m)
  cut_off : {p : Place} {m : List ℕ} → Agrees (Lost 7) (fed p (Err CutOff) m)

-- what holds of both of two choices by one test holds of the choices
both : (t : Bool) {c d : Comes} {f g : Fed} → (t ≡ true → Agrees c f) → (t ≡ false → Agrees d g) → Agrees (cond t c d) (cond t f g)
both true x y = x refl
both false x y = y refl

-- ---- a message is under way where the line says that it has begun
none_yet : (k : ℕ) → eqb k 0 ≡ ltb k 1
none_yet k = either (eqb k 0) (λ t. t ∙ sym (lt-ltb k 1 (omega (arith, eqb-true k 0 t)))) (λ t. t ∙ sym (le-ltb k 1 (omega (arith, eqb-false k 0 t))))

under_way_lem : (k : ℕ) (m : List ℕ) → under_way k m ≡ begun_of k (byte m 0)
under_way_lem k m =
    let n : ℕ = byte m 0 in
    let some : leb 1 n ≡ not (eqb n 0) = at_most_lem 1 n ∙ ap not (sym (none_yet n)) in
    let few : leb n 64 ≡ not (ltb 64 n) = at_most_lem n 64 in
    let out : n + 3 ≡ size_in byte_form n = omega arith in
    (λ i. none_yet k i || (some i && (few i && ltb k (out i)))) ∙ go (ltb k 1) (eqb n 0) (ltb 64 n) (ltb k (size_in byte_form n)) where
      go : (a b c d : Bool) → (a || (not b && (not c && d))) ≡ cond a true (cond b false (cond c false d))
      go true b c d = refl
      go false true c d = refl
      go false false true d = refl
      go false false false d = refl

-- ---- a byte of the message
module _ (m : List ℕ) (x : ℕ) (fits : 67 ≤ length m) where
  -- LEN
  len_agrees : Agrees (len_is x) (put_of 0 m x)
  len_agrees = rw (put_len 0 m x (omega arith) fits) (go (eqb x 0) (ltb 64 x)) where
    go : (a b : Bool) → Agrees (cond (a || b) (Lost 3) Quiet) (cond (cond a false (cond b false (ltb 1 (size_in byte_form x)))) (on (Inside 1) (set m 0 x)) (over (Err BadLength) m))
    go true b = bad_length
    go false true = bad_length
    go false false = rw (lt-ltb 1 (size_in byte_form x) (omega arith)) quiet

  -- the checksum, behind k bytes: it is compared with their sum, and the packet lies before it
  checksum_agrees : (k : ℕ) → k ≡ byte m 0 + 2 → k < length m → Agrees (checksum_is k m x) (over (judged_of (set m k x)) (set m k x))
  checksum_agrees k e there =
      subst (λ (j : ℕ). Agrees (checksum_is k m x) (over (judged_at byte_form j l) l)) (sym (number_set 1 0 k x m (omega arith)))
      (subst (λ (t : Bool). Agrees (cond t (Whole (take n (drop 2 m))) (Lost 5)) (over (judged_at byte_form n l) l)) same
      (go (eqb (byte l (checksum_at byte_form n)) (sum (take (checksum_at byte_form n) l) % 256)))) where
        n : ℕ
        n = byte m 0

        l : List ℕ
        l = set m k x

        packet : block l 2 n ≡ take n (drop 2 m)
        packet = let at : k ≡ 2 + n = omega arith in rw (at, drop-set-add 2 m n x) (take-set-le n (drop 2 m) n x (omega arith))

        same : eqb (byte l (checksum_at byte_form n)) (sum (take (checksum_at byte_form n) l) % 256) ≡ eqb x (sum_from m 0 k % 256)
        same =
            let at : checksum_at byte_form n ≡ k = omega arith in
            let sums : sum (take k l) ≡ sum_from m 0 k = ap sum (take-set-le k m k x (omega arith)) ∙ sum_from_lem m 0 k (omega arith) in
            ap (λ (j : ℕ). eqb (byte l j) (sum (take j l) % 256)) at ∙ ap₂ (λ (a b : ℕ). eqb a (b % 256)) (get_or-set_same m k x 0 there) sums

        go : (t : Bool) → Agrees (cond t (Whole (take n (drop 2 m))) (Lost 5)) (over (cond t (good_message (byte l 1) 2 n) (Err BadChecksum)) l)
        go true = whole (byte l 1) 2 n packet
        go false = bad_checksum

  -- behind LEN: the checksum, or a byte between
  rest_agrees : (k : ℕ) → 1 ≤ k → begun_of k (byte m 0) ≡ true → Agrees (cond (eqb k (byte m 0 + 2)) (checksum_is k m x) Quiet) (put_of k m x)
  rest_agrees k some g =
      let n : ℕ = byte m 0 in
      let b : Begun byte_form k n = begun_known byte_form k n g some in
      rw (put_rest byte_form k m x some)
      (cond_ind (λ (c : Comes). Agrees c (cond (begun_of (k + 1) n) (on (Inside (k + 1)) (set m k x)) (over (judged_of (set m k x)) (set m k x)))) (eqb k (n + 2))
      (λ t. let e : k ≡ n + 2 = eqb-true k (n + 2) t in
      rw (begun_ended byte_form (k + 1) n (omega arith) (omega arith)) (checksum_agrees k e (omega (arith, b.few))))
      (λ t. rw (begun_right byte_form (k + 1) n b.some b.few (omega (arith, b.short, eqb-false k (n + 2) t))) quiet))

  byte_agrees : (k : ℕ) → begun_of k (byte m 0) ≡ true → Agrees (next_byte k m x) (put_of k m x)
  byte_agrees k g =
      cond_ind (λ (c : Comes). Agrees c (put_of k m x)) (eqb k 0) (λ t. rw (eqb-true k 0 t) len_agrees) (λ t. rest_agrees k (omega (arith, eqb-false k 0 t)) g)

-- ---- a received byte
pub agrees : (p : Place) (m : List ℕ) (b : ℕ) → 67 ≤ length m → Agrees (comes_to p m b) (take_of p m b)
unfolding comes_to
agrees p m b fits = rw (take_long p m b fits) (go p) where
  outside : Agrees Quiet (take_by messages Outside m b)
  outside = cond_ind (Agrees Quiet) (eqb b 0x9A) (λ _. quiet) (λ _. quiet)

  -- by whether a message is under way
  begun : (k : ℕ) (q : Place) (c : Comes) → (begun_of k (byte m 0) ≡ true → Agrees c (cond (eqb b 0x9A) (fed (Inside 0) (cut_of q) m) (inside_by messages q m b)))
      → (t : Bool) → begun_of k (byte m 0) ≡ t
      → Agrees (cond t c Quiet) (cond (eqb b 0x9A) (fed (Inside 0) (cut_of (cond t q Outside)) m) (inside_by messages (cond t q Outside) m b))
  begun k q c h true e = h e
  begun k q c h false e = outside

  cut : (t : Bool) → Agrees (cond t Quiet (Lost 7)) (fed (Inside 0) (cond t (Ok None) (Err CutOff)) m)
  cut true = quiet
  cut false = cut_off

  go : (q : Place) → Agrees (comes_to q m b) (take_by messages q m b)
  go Outside = outside
  go (Inside k) = rw (under_way_lem k m) (begun k (Inside k) (inside_one k m b) (λ g.
      both (eqb b 0x9A) (λ _. cut (eqb k 0))
      (λ _. both (eqb b 0x9B) (λ _. quiet) (λ _. byte_agrees m b fits k g))) (begun_of k (byte m 0)) refl)
  go (Escaped k) = rw (under_way_lem k m) (begun k (Escaped k) (behind_esc k m b) (λ g.
      both (eqb b 0x9A) (λ _. cut_off)
      (λ _. both (eqb b 0x00) (λ _. byte_agrees m 0x9B fits k g)
      (λ _. both (eqb b 0x01) (λ _. byte_agrees m 0x9A fits k g) (λ _. bad_escape)))) (begun_of k (byte m 0)) refl)
