-- What a verdict says of what came.
use Rattle.std.specs.Prelude.{◌≡◌, ℕ, Bool, true, List, [], ◌∷◌}

-- it is good where this holds, and nowhere else
abbrev pub Says : Bool → Type 0 → Type 0
Says good this = (good ≡ true → this) × (this → good ≡ true)

-- what came is the expected, where anything is
unfoldable pub AsExpected : List ℕ → List ℕ → Type 0
AsExpected came [] = Unit {0}
AsExpected came (b ∷ bs) = came ≡ b ∷ bs
