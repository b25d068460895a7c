-- Every code but the twenty-four known ones is unknown. Assumes nothing.
use Rattle.std.proofs.Common.{◌≡◌, List, [], ◌∷◌, ℕ, ne_eqb}
use Rattle.words.specs.Command.{command_of}
use Rattle.words.specs.declared.Command.TheVariants.{Unknown}

-- a number is none of these, the first of them last
abbrev pub NoneOf : List ℕ → ℕ → Type 0
NoneOf [] n = Unit
NoneOf (k ∷ ks) n = NoneOf ks n × (n ≡ k → ⊥)

abbrev pub known : List ℕ
known =
    0xD3 ∷ 0xD4 ∷ 0xD5 ∷ 0xD6 ∷ 0xD9 ∷ 0xDA ∷ 0xDD ∷ 0xDE ∷ 0xE0 ∷ 0xE1 ∷ 0xE2 ∷ 0xE3 ∷ 0xED ∷ 0xF0 ∷ 0xF3 ∷ 0xF4 ∷ 0xF5 ∷ 0xF6 ∷ 0xF7 ∷ 0xF8 ∷ 0xFC ∷ 0xFD ∷ 0xFE ∷ 0xFF ∷ []

pub every_other : (code : ℕ) → NoneOf known code → command_of code ≡ Unknown
unfolding command_of
every_other code h = simp (
  ne_eqb _ _ h.1,
  ne_eqb _ _ h.0.1,
  ne_eqb _ _ h.0.0.1,
  ne_eqb _ _ h.0.0.0.1,
  ne_eqb _ _ h.0.0.0.0.1,
  ne_eqb _ _ h.0.0.0.0.0.1,
  ne_eqb _ _ h.0.0.0.0.0.0.1,
  ne_eqb _ _ h.0.0.0.0.0.0.0.1,
  ne_eqb _ _ h.0.0.0.0.0.0.0.0.1,
  ne_eqb _ _ h.0.0.0.0.0.0.0.0.0.1,
  ne_eqb _ _ h.0.0.0.0.0.0.0.0.0.0.1,
  ne_eqb _ _ h.0.0.0.0.0.0.0.0.0.0.0.1,
  ne_eqb _ _ h.0.0.0.0.0.0.0.0.0.0.0.0.1,
  ne_eqb _ _ h.0.0.0.0.0.0.0.0.0.0.0.0.0.1,
  ne_eqb _ _ h.0.0.0.0.0.0.0.0.0.0.0.0.0.0.1,
  ne_eqb _ _ h.0.0.0.0.0.0.0.0.0.0.0.0.0.0.0.1,
  ne_eqb _ _ h.0.0.0.0.0.0.0.0.0.0.0.0.0.0.0.0.1,
  ne_eqb _ _ h.0.0.0.0.0.0.0.0.0.0.0.0.0.0.0.0.0.1,
  ne_eqb _ _ h.0.0.0.0.0.0.0.0.0.0.0.0.0.0.0.0.0.0.1,
  ne_eqb _ _ h.0.0.0.0.0.0.0.0.0.0.0.0.0.0.0.0.0.0.0.1,
  ne_eqb _ _ h.0.0.0.0.0.0.0.0.0.0.0.0.0.0.0.0.0.0.0.0.1,
  ne_eqb _ _ h.0.0.0.0.0.0.0.0.0.0.0.0.0.0.0.0.0.0.0.0.0.1,
  ne_eqb _ _ h.0.0.0.0.0.0.0.0.0.0.0.0.0.0.0.0.0.0.0.0.0.0.1,
  ne_eqb _ _ h.0.0.0.0.0.0.0.0.0.0.0.0.0.0.0.0.0.0.0.0.0.0.0.1,
)
