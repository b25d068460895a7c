-- A store leaves every byte outside it, and what is stored is read. Assumes nothing.
use Rattle.std.proofs.Common.{◌≡◌, ℕ, suc, ◌+◌, ◌-◌, ◌*◌, ◌/◌, ◌%◌, ◌^◌, ◌<◌, ◌≤◌, Bool, true, false, cond, T, ltb, leb, ◌≢◌, List, [], ◌∷◌, ◌++◌, length, get_or, take, drop, set, replicate, refl, ◌∙◌, append_assoc, mod-eq_of_lt, div-add-mod', arith, leb→le, length-set, length-take-le, get_or-set_other, get_or-set_same, take_at, get_or-append-add, drop_at, shr-shr, shr_lt, ltb-true}
use Rattle.std.proofs.lemmas.List.{length-replicate, get_or-replicate, take-set-le}
use Rattle.std.proofs.Math.ListN.{get_or-append}
use Rattle.std.proofs.Math.Seq.{sets, sets-eq}
use Rattle.state.specs.Bytes.{u32_at, put32, block, cleared}

-- both of two tests
pub both_tests : (a b : Bool) → T (cond a b false) → (a ≡ true) × T b
both_tests true b t = (refl, t)
both_tests false b t = absurd t

-- ---- what a store leaves
-- j lies outside the bytes from lo up to hi; at numerals it computes, so that `tt` proves it
abbrev pub out : ℕ → ℕ → ℕ → Bool
out lo hi j = cond (ltb j lo) true (leb hi j)

pub out_ne : (lo hi j k : ℕ) → T (out lo hi j) → lo ≤ k → k < hi → j ≢ k
out_ne lo hi j k o p q = go (ltb j lo) refl o where
  go : (t : Bool) → ltb j lo ≡ t → T (cond t true (leb hi j)) → j ≢ k
  go true h o' = let b : j < lo = ltb-true j lo h in omega arith
  go false h o' = let b : hi ≤ j = leb→le hi j o' in omega arith

pub set_out : (s : List ℕ) (lo hi i a j : ℕ) → lo ≤ i → i < hi → T (out lo hi j) → get_or (set s i a) j 0 ≡ get_or s j 0
set_out s lo hi i a j p q o = get_or-set_other s i j a 0 (out_ne lo hi j i o p q)

pub put32_out : (s : List ℕ) (lo hi i x j : ℕ) → lo ≤ i → i + 4 ≤ hi → T (out lo hi j) → get_or (put32 s i x) j 0 ≡ get_or s j 0
unfolding put32
put32_out s lo hi i x j p q o =
    let h0 : j ≢ i = out_ne lo hi j i o p (omega arith) in
    let h1 : j ≢ i + 1 = out_ne lo hi j (i + 1) o (omega arith) (omega arith) in
    let h2 : j ≢ i + 2 = out_ne lo hi j (i + 2) o (omega arith) (omega arith) in
    let h3 : j ≢ i + 3 = out_ne lo hi j (i + 3) o (omega arith) (omega arith) in
    simp get_or-set_other

pub sets_out : (s : List ℕ) (lo hi i : ℕ) (xs : List ℕ) (j : ℕ) → lo ≤ i → i + length xs ≤ hi → T (out lo hi j) → get_or (sets s i xs) j 0 ≡ get_or s j 0
sets_out s lo hi i [] j p q o = refl
sets_out s lo hi i (x ∷ xs) j p q o =
    sets_out (set s i x) lo hi (suc i) xs j (omega arith) (omega arith) o ∙ set_out s lo hi i x j p (omega arith) o

pub cleared_out : (s : List ℕ) (lo hi i n j : ℕ) → lo ≤ i → i + n ≤ hi → T (out lo hi j) → get_or (cleared s i n) j 0 ≡ get_or s j 0
unfolding cleared
cleared_out s lo hi i n j p q o = sets_out s lo hi i (replicate n 0) j p (rw length-replicate q) o

-- the bytes before a run of stores
pub take_sets : (n : ℕ) (s : List ℕ) (i : ℕ) (xs : List ℕ) → n ≤ i → take n (sets s i xs) ≡ take n s
take_sets n s i [] h = refl
take_sets n s i (x ∷ xs) h = take_sets n (set s i x) (suc i) xs (omega arith) ∙ take-set-le n s i x h

-- ---- what is stored is read
pub sets_in : (s : List ℕ) (i : ℕ) (xs : List ℕ) (k : ℕ) → i + length xs ≤ length s → k < length xs → get_or (sets s i xs) (i + k) 0 ≡ get_or xs k 0
sets_in s i xs k h q =
    let front : length (take i s) ≡ i = length-take-le i s (omega arith) in
    rw (sets-eq xs s i h, append_assoc)
    ((rw front at (get_or-append-add (take i s) (xs ++ drop (i + length xs) s) k 0)) ∙ get_or-append xs (drop (i + length xs) s) 0 k q)

pub block_sets : (s : List ℕ) (i : ℕ) (xs : List ℕ) → i + length xs ≤ length s → block (sets s i xs) i (length xs) ≡ xs
block_sets s i xs h =
    let front : length (take i s) ≡ i = length-take-le i s (omega arith) in
    rw (sets-eq xs s i h, append_assoc, drop_at (take i s) (xs ++ drop (i + length xs) s) i front) (take_at xs (drop (i + length xs) s) (length xs) refl)

pub cleared_in : (s : List ℕ) (i n j : ℕ) → i + n ≤ length s → i ≤ j → j < i + n → get_or (cleared s i n) j 0 ≡ 0
unfolding cleared
cleared_in s i n j h p q =
    let e : i + (j - i) ≡ j = omega arith in
    let zs : List ℕ = replicate n 0 in
    let k : j - i < length zs = rw length-replicate (omega arith) in
    (rw e at (sets_in s i (replicate n 0) (j - i) (rw length-replicate h) k)) ∙ get_or-replicate n (j - i) 0 0 (omega arith)

-- the bytes of a number
digits : (x a b d r s t : ℕ) → a * 256 + r ≡ x → b * 256 + s ≡ a → d * 256 + t ≡ b → r + 256 * s + 65536 * t + 16777216 * d ≡ x
digits x a b d r s t p q o = omega arith

pub four : (x : ℕ) → x < 2 ^ 32 → x % 256 + 256 * (x / 256 % 256) + 65536 * (x / 65536 % 256) + 16777216 * (x / 16777216 % 256) ≡ x
four x h =
    rw (mod-eq_of_lt (shr_lt {n = x} 8 24 h))
    (digits x (x / 256) (x / 65536) (x / 16777216) (x % 256) (x / 256 % 256) (x / 65536 % 256)
    (div-add-mod' x 256)
    (rw (shr-shr x 8 8) at (div-add-mod' (x / 256) 256))
    (rw (shr-shr x 16 8) at (div-add-mod' (x / 65536) 256)))

pub put32_same : (s : List ℕ) (i x : ℕ) → i + 4 ≤ length s → x < 2 ^ 32 → u32_at (put32 s i x) i ≡ x
unfolding put32 u32_at
put32_same s i x h k =
    let l0 : i < length s = omega arith in
    let l1 : i + 1 < length (set s i (x % 256)) = simp length-set (omega arith) in
    let l2 : i + 2 < length (set (set s i (x % 256)) (i + 1) (x / 256 % 256)) = simp length-set (omega arith) in
    let l3 : i + 3 < length (set (set (set s i (x % 256)) (i + 1) (x / 256 % 256)) (i + 2) (x / 65536 % 256)) = simp length-set (omega arith) in
    let n01 : i ≢ i + 1 = omega arith in
    let n02 : i ≢ i + 2 = omega arith in
    let n03 : i ≢ i + 3 = omega arith in
    let n12 : i + 1 ≢ i + 2 = omega arith in
    let n13 : i + 1 ≢ i + 3 = omega arith in
    let n23 : i + 2 ≢ i + 3 = omega arith in
    simp (get_or-set_same, get_or-set_other) (four x k)
