-- An entry's bytes as a word: how an event takes them, not what it takes. Cited by functions private to this crate.
use Rattle.std.specs.Prelude.{◌≡◌, ℕ, zero, suc, ◌/◌, ◌%◌, ◌≤◌, List, [], ◌∷◌}
use Rattle.state.specs.Memory.{bytes_of}

-- the lowest n bytes of a word, lowest first
unfoldable pub word_bytes : ℕ → ℕ → List ℕ
word_bytes w zero = []
word_bytes w (suc n) = w % 256 ∷ word_bytes (w / 256) n

-- a word has a memory's four bytes from a on
abbrev pub Holds : ℕ → List ℕ → ℕ → Type 0
Holds w mem a = (n : ℕ) → n ≤ 4 → word_bytes w n ≡ bytes_of mem a n
