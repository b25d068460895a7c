-- Laws of runs of stores. Assumes nothing.
use Rattle.std.proofs.Common.{◌≡◌, ℕ, zero, suc, ◌+◌, ◌-◌, ◌<◌, ◌≤◌, min, List, [], ◌∷◌, ◌++◌, length, get_or, take, drop, drop-drop, set, replicate, sym, refl, ap, ◌∙◌, append_assoc, append-nil, add-one, arith, length-drop, length-set, drop_of_length-le, length-take-le, get_or-drop, take-suc, take_all}
use Rattle.std.proofs.Math.ListN.{get_or-eq_default}
use Rattle.std.proofs.lemmas.List.{length-replicate, replicate-append-replicate}
use Rattle.std.proofs.Math.Seq.{set_out, length-sets}
use Rattle.std.proofs.lemmas.List.Edits.{sets-eq, sets}
use Rattle.line.proofs.Laws.{sets_append, sum_append}
use Rattle.state.specs.Bytes.{block, copied, cleared, put32}
use Rattle.state.proofs.Ranges.{by_lt, sum_to}
use Rattle.line.specs.Message.{sum}

-- one byte more
pub sets_next : (l : List ℕ) (i : ℕ) (xs : List ℕ) (n a : ℕ) → length xs ≡ n → set (sets l i xs) (i + n) a ≡ sets l i (xs ++ a ∷ [])
sets_next l i xs n a e = rw (← e) (sets_append xs (a ∷ []) l i)

pub cleared_length : (s : List ℕ) (i n : ℕ) → length (cleared s i n) ≡ length s
unfolding cleared
cleared_length s i n = length-sets s i (replicate n 0)

pub block_length : (s : List ℕ) (i n : ℕ) → i + n ≤ length s → length (block s i n) ≡ n
block_length s i n h = length-take-le n (drop i s) (simp length-drop (omega arith))

pub block_next : (s : List ℕ) (i n : ℕ) → i + n < length s → block s i (n + 1) ≡ block s i n ++ get_or s (i + n) 0 ∷ []
block_next s i n h =
    let k : n < length (drop i s) = simp length-drop (omega arith) in
    rw (add-one, take-suc (drop i s) n 0 k, get_or-drop i s n 0)

pub put32_length : (s : List ℕ) (i x : ℕ) → length (put32 s i x) ≡ length s
unfolding put32
put32_length s i x = simp length-set

pub copied_length : (d : List ℕ) (at : ℕ) (s : List ℕ) (from n : ℕ) → length (copied d at s from n) ≡ length d
unfolding copied
copied_length d at s from n = length-sets d at (block s from n)

-- zeros over a whole list
pub cleared_all : (s : List ℕ) (n : ℕ) → length s ≡ n → cleared s 0 n ≡ replicate n 0
unfolding cleared
cleared_all s n e =
    let zs : List ℕ = replicate n 0 in
    let k : length zs ≡ n = length-replicate n 0 in
    sets-eq zs s 0 (omega arith)
    ∙ ap (λ (t : List ℕ). zs ++ t) (drop_of_length-le s {i = 0 + length zs} (omega arith))
    ∙ append-nil zs

-- past the end nothing is written
pub sets_out : (xs l : List ℕ) (i : ℕ) → length l ≤ i → sets l i xs ≡ l
sets_out [] l i h = refl
sets_out (x ∷ xs) l i h = sets_out xs (set l i x) (suc i) (rw length-set (omega arith)) ∙ set_out l i x h

-- zeros up to the end are as many as there are bytes
pub cleared_past : (s : List ℕ) (i m n : ℕ) → m ≤ n → length s ≤ i + m → cleared s i m ≡ cleared s i n
unfolding cleared
cleared_past s i m n few past =
    let zeros : List ℕ = replicate m 0 in
    let rest : List ℕ = replicate (n - m) 0 in
    let whole : m + (n - m) ≡ n = omega arith in
    let end : length (sets s i zeros) ≤ i + length zeros = (let n : length zeros ≡ m = length-replicate m 0 in omega (arith, length-sets s i zeros, n)) in
    sym (sets_out rest (sets s i zeros) (i + length zeros) end)
    ∙ sets_append zeros rest s i
    ∙ ap (sets s i) (replicate-append-replicate m (n - m) 0 ∙ ap (λ (k : ℕ). replicate k 0) whole)

pub cleared_cut : (s : List ℕ) (i n : ℕ) → cleared s i (min n (length s - i)) ≡ cleared s i n
cleared_cut s i n =
    by_lt (length s - i) n
    (λ many. let m : min n (length s - i) ≡ length s - i = omega arith in rw m (cleared_past s i (length s - i) n (omega arith) (omega arith)))
    (λ few. let m : min n (length s - i) ≡ n = omega arith in rw m refl)

-- zeros in the part that there is
pub cleared_part : (s ys : List ℕ) (i n from k : ℕ) → from ≡ min i (length s) → k ≡ min n (length s - from) → ys ≡ replicate (length (take k (drop from s))) 0 → take from s ++ (ys ++ drop k (drop from s)) ≡ cleared s i n
unfolding cleared
cleared_part s ys i n from k e f g =
    let zs : List ℕ = replicate k 0 in
    let zeros : length zs ≡ k = length-replicate k 0 in
    let there : length (take k (drop from s)) ≡ k = length-take-le k (drop from s) (simp length-drop (omega arith)) in
    let inside : from + length zs ≤ length s = omega (arith, zeros) in
    ap (λ (t : List ℕ). take from s ++ (t ++ drop k (drop from s))) (g ∙ ap (λ (m : ℕ). replicate m 0) there)
    ∙ ap (λ (t : List ℕ). take from s ++ (zs ++ t)) (drop-drop k from s ∙ ap (λ (m : ℕ). drop (from + m) s) (sym zeros))
    ∙ sym (append_assoc (take from s) zs (drop (from + length zs) s))
    ∙ sym (sets-eq zs s from inside)
    ∙ by_lt (length s) i
    (λ past. let none : k ≡ 0 = omega arith in rw none (sym (sets_out (replicate n 0) s i (omega arith))))
    (λ near. let at : from ≡ i = omega arith in ap (λ (m : ℕ). cleared s m k) at ∙ ap (cleared s i) (f ∙ ap (λ (m : ℕ). min n (length s - m)) at) ∙ cleared_cut s i n)

-- a block's sum, byte by byte
pub sum_block : (s : List ℕ) (i n : ℕ) → sum (block s i n) ≡ sum_to (λ (k : ℕ). get_or s (i + k) 0) n
sum_block s i zero = refl
sum_block s i (suc n) = by_lt (i + n) (length s)
    (λ there. ap (λ (m : ℕ). sum (block s i m)) (sym (add-one n)) ∙ ap sum (block_next s i n there) ∙ omega (arith, sum_append (block s i n) (get_or s (i + n) 0 ∷ []), sum_block s i n))
    (λ past.
    let few : length (drop i s) ≤ n = simp length-drop (omega arith) in
    let same : sum (take (suc n) (drop i s)) ≡ sum (take n (drop i s)) = ap sum (take_all (suc n) (drop i s) (omega arith) ∙ sym (take_all n (drop i s) few)) in
    omega (arith, same, sum_block s i n, get_or-eq_default s 0 {n = i + n} past))
