-- Copies made from the back: first what lies behind, then what lies before it. Assumes nothing.
use Rattle.std.proofs.Common.{◌≡◌, ℕ, suc, ◌+◌, ◌-◌, ◌<◌, ◌≤◌, List, [], ◌∷◌, ◌++◌, length, get_or, take, drop, set, sym, refl, ap, ◌∙◌, add-zero, add-suc, suc-add, arith, drop-cons, drop-drop, take-add}
use Rattle.std.proofs.lemmas.List.Edits.{sets}
use Rattle.std.proofs.lemmas.List.{set_comm, take-set-le, drop-set-add}
use Rattle.state.specs.Bytes.{block, copied}
use Rattle.state.proofs.Sets.{block_length}

-- a byte stored before others
pub under : (xs l : List ℕ) (i j a : ℕ) → j < i → set (sets l i xs) j a ≡ sets (set l j a) i xs
under [] l i j a h = refl
under (x ∷ xs) l i j a h = under xs (set l i x) (suc i) j a (omega arith) ∙ ap (λ (m : List ℕ). sets m (suc i) xs) (set_comm l i j x a (λ e. omega arith))

-- bytes stored before others
sets_behind : (xs ys l : List ℕ) (i : ℕ) → sets (sets l (i + length xs) ys) i xs ≡ sets l i (xs ++ ys)
sets_behind [] ys l i = rw add-zero
sets_behind (x ∷ xs) ys l i =
    ap (λ (m : List ℕ). sets m (suc i) xs) (under ys l (i + suc (length xs)) i x (omega arith))
    ∙ rw (add-suc, ← suc-add) (sets_behind xs ys (set l i x) (suc i))

block_split : (s : List ℕ) (f m n : ℕ) → block s f (m + n) ≡ block s f m ++ block s (f + m) n
block_split s f m n = take-add m n (drop f s) ∙ ap (λ (l : List ℕ). block s f m ++ take n l) (drop-drop m f s)

-- the n bytes behind m others, and then these
pub copied_behind : (d s : List ℕ) (i f m n : ℕ) → f + m ≤ length s → copied (copied d (i + m) s (f + m) n) i s f m ≡ copied d i s f (m + n)
unfolding copied
copied_behind d s i f m n h =
    let xs : List ℕ = block s f m in
    let ys : List ℕ = block s (f + m) n in
    ap (λ (k : ℕ). sets (sets d (i + k) ys) i xs) (sym (block_length s f m h)) ∙ sets_behind xs ys d i ∙ ap (sets d i) (sym (block_split s f m n))

-- one byte, and four
pub copied_one : (d s : List ℕ) (i f : ℕ) → f < length s → copied d i s f 1 ≡ set d i (get_or s f 0)
unfolding copied
copied_one d s i f h = rw (drop-cons s f 0 h)

pub copied_four : (d s : List ℕ) (i f : ℕ) → f + 3 < length s
    → copied d i s f 4 ≡ set (set (set (set d i (get_or s f 0)) (i + 1) (get_or s (f + 1) 0)) (i + 2) (get_or s (f + 2) 0)) (i + 3) (get_or s (f + 3) 0)
unfolding copied
copied_four d s i f h =
    let one : (k : ℕ) → k + 1 ≡ suc k = λ (k : ℕ). omega arith in
    let two : (k : ℕ) → k + 2 ≡ suc (suc k) = λ (k : ℕ). omega arith in
    let three : (k : ℕ) → k + 3 ≡ suc (suc (suc k)) = λ (k : ℕ). omega arith in
    rw (drop-cons s f 0 (omega arith), drop-cons s (suc f) 0 (omega arith), drop-cons s (suc (suc f)) 0 (omega arith), drop-cons s (suc (suc (suc f))) 0 (omega arith)) (simp (one, two, three))

-- bytes before those that were stored are as they were
block_set : (s : List ℕ) (i k m a : ℕ) → k + m ≤ i → block (set s i a) k m ≡ block s k m
block_set s i k m a h =
    let e : i ≡ k + (i - k) = omega arith in
    ap (λ (j : ℕ). take m (drop k (set s j a))) e ∙ ap (take m) (drop-set-add k s (i - k) a) ∙ take-set-le m (drop k s) (i - k) a (omega arith)

block_before : (xs s : List ℕ) (i k m : ℕ) → k + m ≤ i → block (sets s i xs) k m ≡ block s k m
block_before [] s i k m h = refl
block_before (x ∷ xs) s i k m h = block_before xs (set s i x) (suc i) k m (omega arith) ∙ block_set s i k m x h

-- the same within one list, to a place further on: what is still to be copied is as it was
pub moved_behind : (s : List ℕ) (i f m n : ℕ) → f ≤ i → f + m ≤ length s → let t : List ℕ = copied s (i + m) s (f + m) n in copied t i t f m ≡ copied s i s f (m + n)
unfolding copied
moved_behind s i f m n up h =
    ap (sets (copied s (i + m) s (f + m) n) i) (block_before (block s (f + m) n) s (i + m) f m (omega arith)) ∙ copied_behind s s i f m n h
