-- Words of an entry's bytes: four bytes make one, and it has them. Assumes nothing.
use Rattle.std.proofs.Common.{◌≡◌, ℕ, zero, suc, ◌+◌, ◌*◌, ◌/◌, ◌%◌, ◌<◌, ◌≤◌, List, [], ◌∷◌, length, get_or, set, refl, ap, ◌∙◌, ap₂, add-one, arith, le-ltb, lt-ltb}
use Rattle.std.proofs.lemmas.List.Edits.{sets}
use Rattle.state.specs.Memory.{reach, byte_of, bytes_of}
use Rattle.lists.specs.Word.{word_bytes, Holds}

-- a byte below others
word_step : (a x n : ℕ) → a < 256 → word_bytes (a + 256 * x) (suc n) ≡ a ∷ word_bytes x n
unfolding word_bytes
word_step a x n h =
    let low : (a + 256 * x) % 256 ≡ a = omega arith in
    let high : (a + 256 * x) / 256 ≡ x = omega arith in
    rw (low, high)

-- a byte of a memory before those that a word has
held : (mem : List ℕ) (at a x n : ℕ) → a < 256 → a ≡ byte_of mem at → ((m : ℕ) → m ≤ n → word_bytes x m ≡ bytes_of mem (suc at) m) → (m : ℕ) → m ≤ suc n → word_bytes (a + 256 * x) m ≡ bytes_of mem at m
unfolding word_bytes bytes_of
held mem at a x n h e k zero le = refl
held mem at a x n h e k (suc m) le = word_step a x m h ∙ ap₂ (λ (y : ℕ) (ys : List ℕ). y ∷ ys) e (k m (omega arith))

no_more : (mem : List ℕ) (at x m : ℕ) → m ≤ 0 → word_bytes x m ≡ bytes_of mem at m
unfolding word_bytes bytes_of
no_more mem at x zero le = refl
no_more mem at x (suc m) le = absurd (none le) where
  none : suc m ≤ 0 → ⊥
  none p = omega arith

-- four bytes of a memory
pub four_held : (mem : List ℕ) (at a b c d w : ℕ) → w ≡ a + 256 * b + 65536 * c + 16777216 * d → a < 256 → b < 256 → c < 256 → d < 256
    → a ≡ byte_of mem at → b ≡ byte_of mem (at + 1) → c ≡ byte_of mem (at + 2) → d ≡ byte_of mem (at + 3) → Holds w mem at
four_held mem at a b c d w e p q r t i j k l n few =
    let horner : w ≡ a + 256 * (b + 256 * (c + 256 * (d + 256 * 0))) = omega arith in
    let two : at + 2 ≡ suc (suc at) = omega arith in
    let three : at + 3 ≡ suc (suc (suc at)) = omega arith in
    ap (λ (x : ℕ). word_bytes x n) horner
    ∙ held mem at a (b + 256 * (c + 256 * (d + 256 * 0))) 3 p i
    (held mem (suc at) b (c + 256 * (d + 256 * 0)) 2 q (j ∙ ap (byte_of mem) (add-one at))
    (held mem (suc (suc at)) c (d + 256 * 0) 1 r (k ∙ ap (byte_of mem) two)
    (held mem (suc (suc (suc at))) d 0 0 t (l ∙ ap (byte_of mem) three) (no_more mem (suc (suc (suc (suc at)))) 0)))) n few

-- a byte inside is the memory's
pub byte_inside : (mem : List ℕ) (a : ℕ) → a < reach (length mem) → get_or mem a 0 ≡ byte_of mem a
unfolding byte_of
byte_inside mem a h = simp (lt-ltb a (reach (length mem)) h)

-- one that is not reads as if there were no memory
pub byte_outside : (mem : List ℕ) (a : ℕ) → reach (length mem) ≤ a → byte_of mem a ≡ byte_of [] 0
unfolding byte_of
byte_outside mem a h = simp (le-ltb a (reach (length mem)) h)

-- ---- a word stored, byte by byte
module _ (s : List ℕ) (to w a : ℕ) (e : a ≡ w % 256) where
  pub put_one : set s to a ≡ sets s to (word_bytes w 1)
  unfolding word_bytes
  put_one = rw e

  module _ (b : ℕ) (f : b ≡ w / 256 % 256) where
    pub put_two : set (set s to a) (to + 1) b ≡ sets s to (word_bytes w 2)
    unfolding word_bytes
    put_two = rw (e, f, add-one to)

    pub put_three : (c : ℕ) → c ≡ w / 256 / 256 % 256 → set (set (set s to a) (to + 1) b) (to + 2) c ≡ sets s to (word_bytes w 3)
    unfolding word_bytes
    put_three c g =
        let two : to + 2 ≡ suc (suc to) = omega arith in
        rw (e, f, g, add-one to, two)

pub put_four : (s : List ℕ) (to w a b c d : ℕ) → a ≡ w % 256 → b ≡ w / 256 % 256 → c ≡ w / 256 / 256 % 256 → d ≡ w / 256 / 256 / 256 % 256
    → set (set (set (set s to a) (to + 1) b) (to + 2) c) (to + 3) d ≡ sets s to (word_bytes w 4)
unfolding word_bytes
put_four s to w a b c d e f g h =
    let one : to + 1 ≡ suc to = omega arith in
    let two : to + 2 ≡ suc (suc to) = omega arith in
    let three : to + 3 ≡ suc (suc (suc to)) = omega arith in
    rw (e, f, g, h, one, two, three)
