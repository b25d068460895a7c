-- Laws of words in lanes. Assumes nothing.
use Rattle.std.proofs.Common.{◌≡◌, ℕ, zero, suc, ◌+◌, ◌-◌, ◌*◌, ◌/◌, ◌%◌, ◌^◌, ◌<◌, ◌≤◌, List, length, get_or, take, refl, ap, subst, add-one, arith}
use Rattle.line.specs.Message.{sum}
use Rattle.line.proofs.Laws.{sum_next}
use Rattle.sums.specs.Run.{run_words}

-- ---- many words
-- the sum of the k-th bytes of n words
abbrev pub lane : List ℕ → ℕ → ℕ → ℕ
lane s k zero = 0
lane s k (suc n) = lane s k n + get_or s (4 * n + k) 0

-- what the two sums hold after n words
pub record Lanes (s : List ℕ) (n evens uppers : ℕ) : Type 0 where
  pub even : evens ≡ lane s 0 n + 65536 * lane s 2 n
  pub upper : uppers ≡ lane s 1 n + 256 * lane s 2 n + 65536 * lane s 3 n

module _ (s : List ℕ) (n : ℕ) where
  lane_next : (k : ℕ) → lane s k (n + 1) ≡ lane s k n + get_or s (4 * n + k) 0
  lane_next k = rw add-one refl

  first : get_or s (4 * n + 0) 0 ≡ get_or s (4 * n) 0
  first = ap (λ (i : ℕ). get_or s i 0) (omega arith)

  pub lanes_next : {evens uppers x y : ℕ} → Lanes s n evens uppers
      → x ≡ get_or s (4 * n) 0 + 65536 * get_or s (4 * n + 2) 0
      → y ≡ get_or s (4 * n + 1) 0 + 256 * get_or s (4 * n + 2) 0 + 65536 * get_or s (4 * n + 3) 0
      → Lanes s (n + 1) (evens + x) (uppers + y)
  lanes_next l even upper = record {
    even = omega (arith, l.even, first, lane_next 0, lane_next 2);
    upper = omega (arith, l.upper, lane_next 1, lane_next 2, lane_next 3);
  }

  -- the bytes of one word more
  word_byte : (k : ℕ) → 4 * n + k < length s → sum (take (4 * n + (k + 1)) s) ≡ sum (take (4 * n + k) s) + get_or s (4 * n + k) 0
  word_byte k h = let e : 4 * n + (k + 1) ≡ 4 * n + k + 1 = omega arith in rw e (sum_next s (4 * n + k) h)

  sum_word : 4 * (n + 1) ≤ length s → sum (take (4 * (n + 1)) s) ≡ sum (take (4 * n) s) + get_or s (4 * n + 0) 0 + get_or s (4 * n + 1) 0 + get_or s (4 * n + 2) 0 + get_or s (4 * n + 3) 0
  sum_word h =
      let none : 4 * n + 0 ≡ 4 * n = omega arith in
      let so_far : sum (take (4 * n + 0) s) ≡ sum (take (4 * n) s) = ap (λ (i : ℕ). sum (take i s)) none in
      let one : sum (take (4 * n + 1) s) ≡ sum (take (4 * n + 0) s) + get_or s (4 * n + 0) 0 = word_byte 0 (omega arith) in
      let two : sum (take (4 * n + 2) s) ≡ sum (take (4 * n + 1) s) + get_or s (4 * n + 1) 0 = word_byte 1 (omega arith) in
      let three : sum (take (4 * n + 3) s) ≡ sum (take (4 * n + 2) s) + get_or s (4 * n + 2) 0 = word_byte 2 (omega arith) in
      let four : sum (take (4 * n + 4) s) ≡ sum (take (4 * n + 3) s) + get_or s (4 * n + 3) 0 = word_byte 3 (omega arith) in
      let e : 4 * (n + 1) ≡ 4 * n + 4 = omega arith in
      rw e (omega arith)

four_lanes : (s : List ℕ) (n : ℕ) → 4 * n ≤ length s → sum (take (4 * n) s) ≡ lane s 0 n + lane s 1 n + lane s 2 n + lane s 3 n
four_lanes s zero h = refl
four_lanes s (suc n) h =
    let next : sum (take (4 * (n + 1)) s) ≡ lane s 0 (n + 1) + lane s 1 (n + 1) + lane s 2 (n + 1) + lane s 3 (n + 1)
    = omega (arith, four_lanes s n (omega arith), sum_word s n (omega arith), lane_next s n 0, lane_next s n 1, lane_next s n 2, lane_next s n 3) in
    subst (λ (m : ℕ). sum (take (4 * m) s) ≡ lane s 0 m + lane s 1 m + lane s 2 m + lane s 3 m) (add-one n) next

-- ---- of bytes: a run fits its lanes
module _ (s : List ℕ) (bytes : (j : ℕ) → get_or s j 0 < 256) where
  lane_most : (k n : ℕ) → lane s k n ≤ 255 * n
  lane_most k zero = omega arith
  lane_most k (suc n) = omega (arith, lane_most k n, bytes (4 * n + k))

  module _ (n : ℕ) {evens uppers : ℕ} (l : Lanes s n evens uppers) (few : n ≤ run_words) where
    pub evens_fit : evens < 2 ^ 32
    evens_fit = omega (arith, l.even, lane_most 0 n, lane_most 2 n)

    pub uppers_fit : uppers < 2 ^ 32
    uppers_fit = omega (arith, l.upper, lane_most 1 n, lane_most 2 n, lane_most 3 n)

    thirds : evens / 65536 ≡ lane s 2 n
    thirds = omega (arith, l.even, lane_most 0 n)

    pub thirds_in : 256 * (evens / 65536) ≤ uppers
    thirds_in = rw thirds (omega (arith, l.upper))

    -- what `folded` gives is the sum of the words
    pub lanes_sum : 4 * n ≤ length s
        → evens % 65536 + evens / 65536 + (uppers - 256 * (evens / 65536)) % 65536 + (uppers - 256 * (evens / 65536)) / 65536 ≡ sum (take (4 * n) s)
    lanes_sum there =
        let odds : uppers - 256 * (evens / 65536) ≡ lane s 1 n + 65536 * lane s 3 n = rw thirds (omega (arith, l.upper)) in
        let firsts : evens % 65536 ≡ lane s 0 n = omega (arith, l.even, lane_most 0 n) in
        let seconds : (lane s 1 n + 65536 * lane s 3 n) % 65536 ≡ lane s 1 n = omega (arith, lane_most 1 n) in
        let fourths : (lane s 1 n + 65536 * lane s 3 n) / 65536 ≡ lane s 3 n = omega (arith, lane_most 1 n) in
        rw (odds, firsts, thirds, seconds, fourths) (omega (arith, four_lanes s n there))
