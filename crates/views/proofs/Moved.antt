-- Room made among the entries: those behind move up, and the new ones are zeros. Assumes nothing.
use Rattle.std.proofs.Common.{◌≡◌, ℕ, ◌+◌, ◌-◌, ◌*◌, ◌<◌, ◌≤◌, List, length, get_or, drop, ◌∙◌, arith, get_or-drop, get_or-take}
use Rattle.state.specs.Layout.{size, all_entries, entry_size, entries_at}
use Rattle.state.specs.Bytes.{block, copied}
use Rattle.state.proofs.Sets.{block_length, copied_length}
use Rattle.lists.specs.Alloc.{room_made}
use Rattle.fields.proofs.Stores.{sets_in, cleared_in, cleared_out}
use Rattle.fields.proofs.Frames.{out_above}

-- bytes of s copied into d
copied_in : (d : List ℕ) (i : ℕ) (s : List ℕ) (from n j : ℕ) → i + n ≤ length d → from + n ≤ length s → j < n → get_or (copied d i s from n) (i + j) 0 ≡ get_or s (from + j) 0
unfolding copied
copied_in d i s from n j h g q =
    let long : length (block s from n) ≡ n = block_length s from n g in
    sets_in d i (block s from n) j (omega arith) (omega arith) ∙ get_or-take n (drop from s) j 0 q ∙ get_or-drop from s j 0

-- room for n entries before entry i of m
module _ (s : List ℕ) (i m n : ℕ) (h : length s ≡ size) (before : i ≤ m) (fits : m + n ≤ all_entries) where
  abbrev up : List ℕ
  up = copied s (entries_at (i + n)) s (entries_at i) (entry_size * (m - i))

  pub room_new : (j : ℕ) → entries_at i ≤ j → j < entries_at (i + n) → get_or (room_made s i m n) j 0 ≡ 0
  unfolding room_made
  room_new j p q = cleared_in up (entries_at i) (entry_size * n) j (omega (arith, copied_length s (entries_at (i + n)) s (entries_at i) (entry_size * (m - i)))) p (omega arith)

  pub room_moved : (j : ℕ) → entries_at i ≤ j → j < entries_at m → get_or (room_made s i m n) (j + entry_size * n) 0 ≡ get_or s j 0
  unfolding room_made
  room_moved j p q =
      let from : entries_at i + (j - entries_at i) ≡ j = omega arith in
      let to : entries_at (i + n) + (j - entries_at i) ≡ j + entry_size * n = omega arith in
      cleared_out up (entries_at i) (entries_at (i + n)) (entries_at i) (entry_size * n) (j + entry_size * n) (omega arith) (omega arith)
      (out_above (entries_at i) (entries_at (i + n)) (j + entry_size * n) (omega arith))
      ∙ (rw (from, to) at (copied_in s (entries_at (i + n)) s (entries_at i) (entry_size * (m - i)) (j - entries_at i) (omega arith) (omega arith) (omega arith)))
