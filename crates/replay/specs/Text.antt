-- The line that a slot prints.
use Rattle.std.specs.Prelude.{◌≡◌, ℕ, ◌+◌, ◌*◌, List, [], ◌∷◌, ◌++◌, length}
use Rattle.std.proofs.lemmas.List.Edits.{sets}
use Rattle.digits.specs.Digits.{pair_of}
use Rattle.line.specs.Message.{room}

-- a space and two digits for each byte, then LF
unfoldable pub rest_of : List ℕ → List ℕ
rest_of [] = 10 ∷ []
rest_of (b ∷ bs) = 32 ∷ (pair_of b ++ rest_of bs)

-- capital hex with single spaces, or - for no frame
unfoldable pub line_of : List ℕ → List ℕ
line_of [] = 45 ∷ 10 ∷ []
line_of (b ∷ bs) = pair_of b ++ rest_of bs

-- what a line is given: three characters for each byte of a frame, and two for none
abbrev pub line_room : ℕ
line_room = 3 * room + 2

-- xs stored in l from `at` on gives l', and r is the place after them
pub record Stored (l : List ℕ) (at : ℕ) (xs : List ℕ) (l' : List ℕ) (r : ℕ) : Type 0 where
  pub next : r ≡ at + length xs
  pub bytes : l' ≡ sets l at xs
