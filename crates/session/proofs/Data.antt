-- The data of a packet, read from the packet and from the state; the memory that an extension stands for. Assumes nothing.
use Rattle.std.proofs.Common.{take-suc, ◌≡◌, refl, sym, ap, ◌∙◌, List, [], ◌∷◌, ◌++◌, ℕ, zero, suc, ◌+◌, ◌≤◌, ◌<◌, arith, add-one, length, get_or, set, take, drop, length-drop, take-take, drop-drop, get_or-drop}
use Rattle.std.proofs.lemmas.List.Edits.{sets}
use Rattle.state.specs.Bytes.{block, copied}
use Rattle.state.proofs.Sets.{sets_next, block_length}
use Rattle.state.specs.Memory.{pick}
use Rattle.words.specs.declared.Extension.{Extension}
use Rattle.words.specs.declared.Extension.TheVariants.{Calibration, Measured}

-- a block of the first k reaches no further
block_of_take : (i n k : ℕ) (l : List ℕ) → i + n ≤ k → block (take k l) i n ≡ block l i n
block_of_take zero n k l h = take-take n k l (omega arith)
block_of_take (suc i) n zero l h = absurd (omega arith)
block_of_take (suc i) n (suc k) [] h = refl
block_of_take (suc i) n (suc k) (a ∷ l) h = block_of_take i n k l (omega arith)

-- a block of a block
pub block_block : (s : List ℕ) (at len i n : ℕ) → i + n ≤ len → block (block s at len) i n ≡ block s (at + i) n
block_block s at len i n h = block_of_take i n len (drop at s) h ∙ ap (take n) (drop-drop i at s)

-- the length of the memory that an extension stands for
pub pick_length : (e : Extension) (cal meas : List ℕ) → length (pick e cal meas) ≡ pick e (length cal) (length meas)
pick_length Calibration cal meas = refl
pick_length Measured cal meas = refl

-- one byte more, of a block and of a copy
block_next : (s : List ℕ) (i n : ℕ) → i + n < length s → block s i (n + 1) ≡ block s i n ++ get_or s (i + n) 0 ∷ []
block_next s i n h =
    let k : n < length (drop i s) = simp length-drop (omega arith) in
    rw (add-one, take-suc (drop i s) n 0 k, get_or-drop i s n 0)

pub copied_next : (d : List ℕ) (at : ℕ) (s : List ℕ) (from n : ℕ) → from + n < length s → set (copied d at s from n) (at + n) (get_or s (from + n) 0) ≡ copied d at s from (n + 1)
unfolding copied
copied_next d at s from n h = sets_next d at (block s from n) n (get_or s (from + n) 0) (block_length s from n (omega arith)) ∙ ap (sets d at) (sym (block_next s from n h))
