-- Bytes stay bytes: stored, cut out, and read from the line. Assumes nothing.
use Rattle.std.proofs.Common.{ℕ, zero, suc, ◌+◌, ◌/◌, ◌%◌, ◌<◌, eqb, ltb, List, [], ◌∷◌, length, get_or, take, drop, set, sym, subst, mod-lt, lit<, get_or-drop, get_or-set_other, get_or-set_same, ltb-false, ltb-true, eqb-true}
use Rattle.std.proofs.lemmas.Bool.{eqb-false}
use Rattle.std.proofs.Math.Seq.{set_out}
use Rattle.line.specs.Message.{byte_form, longest}
use Rattle.line.specs.Stuffing.{SYNC, ESC}
use Rattle.line.specs.Unstuffing.{Fed, place_by, inside_by}
use Rattle.line.specs.Reader.{len_in, begun_in, put_of, messages, take_of}
use Rattle.line.specs.declared.Place.{Place}
use Rattle.line.specs.declared.Place.TheVariants.{Outside, Inside, Escaped}
use Rattle.line.proofs.Laws.{cond_ind}
use Rattle.line.proofs.Steps.{take_cases}
use Rattle.state.specs.Layout.{message_at}
use Rattle.state.specs.Bytes.{block, bytes32}
use Rattle.state.specs.State.{place_of, message_of}
use Rattle.session.specs.Receive.{fed_of}
use Rattle.model.specs.Model.{Bytes}
use Rattle.model.proofs.Bounded.{either}

pub bytes_cons : (x : ℕ) (bs : List ℕ) → x < 256 → Bytes bs → Bytes (x ∷ bs)
bytes_cons x bs h w zero = h
bytes_cons x bs h w (suc i) = w i

pub bytes_four : (x : ℕ) → Bytes (bytes32 x)
bytes_four x =
    let d : List ℕ = x / 16777216 % 256 ∷ [] in
    let c : List ℕ = x / 65536 % 256 ∷ d in
    let b : List ℕ = x / 256 % 256 ∷ c in
    bytes_cons (x % 256) b (mod-lt x (lit< tt))
    (bytes_cons (x / 256 % 256) c (mod-lt (x / 256) (lit< tt))
    (bytes_cons (x / 65536 % 256) d (mod-lt (x / 65536) (lit< tt))
    (bytes_cons (x / 16777216 % 256) [] (mod-lt (x / 16777216) (lit< tt)) (λ i. lit< tt))))

pub bytes_set : (s : List ℕ) (i x : ℕ) → Bytes s → x < 256 → Bytes (set s i x)
bytes_set s i x w h j =
    either (ltb i (length s))
    (λ t. either (eqb j i)
    (λ e. subst (λ (k : ℕ). get_or (set s i x) k 0 < 256) (sym (eqb-true j i e)) (rw (get_or-set_same s i x 0 (ltb-true i (length s) t)) h))
    (λ e. rw (get_or-set_other s i j x 0 (eqb-false j i e)) (w j)))
    (λ t. rw (set_out s i x (ltb-false i (length s) t)) (w j))

pub bytes_take : (n : ℕ) (s : List ℕ) → Bytes s → Bytes (take n s)
bytes_take zero s w = λ i. lit< tt
bytes_take (suc n) [] w = λ i. lit< tt
bytes_take (suc n) (x ∷ s) w = bytes_cons x (take n s) (w 0) (bytes_take n s (λ i. w (suc i)))

pub bytes_drop : (n : ℕ) (s : List ℕ) → Bytes s → Bytes (drop n s)
bytes_drop n s w i = rw (get_or-drop n s i 0) (w (n + i))

pub bytes_block : (s : List ℕ) (i n : ℕ) → Bytes s → Bytes (block s i n)
bytes_block s i n w = bytes_take n (drop i s) (bytes_drop i s w)

-- ---- a byte from the line
abbrev Gathered : Fed → Type 0
Gathered f = Bytes f.message

put_bytes : (k : ℕ) (m : List ℕ) (x : ℕ) → Bytes m → x < 256 → Gathered (put_of k m x)
put_bytes k m x w h =
    cond_ind Gathered (begun_in byte_form (k + 1) (len_in byte_form (set m k x))) (λ _. bytes_set m k x w h)
    (λ _. cond_ind Gathered (ltb k byte_form.width) (λ _. w) (λ _. bytes_set m k x w h))

inside_bytes : (q : Place) (m : List ℕ) (b : ℕ) → Bytes m → b < 256 → Gathered (inside_by messages q m b)
inside_bytes Outside m b w h = w
inside_bytes (Inside k) m b w h = cond_ind Gathered (eqb b ESC) (λ _. w) (λ _. put_bytes k m b w h)
inside_bytes (Escaped k) m b w h =
    cond_ind Gathered (eqb b 0) (λ _. put_bytes k m ESC w (lit< tt)) (λ _. cond_ind Gathered (eqb b 1) (λ _. put_bytes k m SYNC w (lit< tt)) (λ _. w))

take_bytes : (q : Place) (m : List ℕ) (b : ℕ) → Bytes m → b < 256 → Gathered (take_of q m b)
unfolding take_of
take_bytes q m b w h =
    take_cases byte_form Gathered q m b w (λ _. cond_ind Gathered (eqb b SYNC) (λ _. w) (λ _. inside_bytes (place_by messages q m) m b w h))

pub fed_bytes : (s : List ℕ) (b : ℕ) → Bytes s → b < 256 → Bytes (fed_of s b).message
unfolding message_of
fed_bytes s b w h = take_bytes (place_of s) (block s message_at longest) b (bytes_block s message_at longest w) h
