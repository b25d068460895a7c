-- Bytes in capital hex, two digits each and one space between. A place past a text's end reads as 0, which is no digit.
use Rattle.std.specs.Prelude.{ℕ, zero, suc, ◌+◌, ◌-◌, ◌*◌, Bool, true, false, cond, List, [], ◌∷◌, ◌++◌, Option, Some, None, eqb, leb, ltb, get_or}
use Rattle.digits.specs.Digits.{pair_of}

abbrev pub space : ℕ
space = 32

-- 0 to 9, A to F; nothing else is a digit
unfoldable pub hex_of : ℕ → Option ℕ
hex_of c =
    cond (ltb c 48) None
    (cond (leb c 57) (Some (c - 48))
    (cond (ltb c 65) None
    (cond (leb c 70) (Some (c - 65 + 10)) None)))

abbrev pub both : Option ℕ → Option ℕ → Option ℕ
both (Some high) (Some low) = Some (high * 16 + low)
both (Some high) None = None
both None low = None

-- the byte whose two digits stand at k
unfoldable pub byte_at : List ℕ → ℕ → Option ℕ
byte_at s k = both (hex_of (get_or s k 0)) (hex_of (get_or s (k + 1) 0))

abbrev pub or_zero : Option ℕ → ℕ
or_zero (Some b) = b
or_zero None = 0

-- the byte at k; 0 where two digits do not stand there
unfoldable pub value_at : List ℕ → ℕ → ℕ
value_at s k = or_zero (byte_at s k)

-- a byte, and if a space stands behind it those that follow
abbrev pub counted : Option ℕ → Bool → ℕ → ℕ
counted None spaced more = 0
counted (Some b) true more = suc more
counted (Some b) false more = 1

-- how many bytes stand from k on, n of them at most
unfoldable pub pairs_from : ℕ → List ℕ → ℕ → ℕ
pairs_from zero s k = 0
pairs_from (suc n) s k = counted (byte_at s k) (eqb (get_or s (k + 2) 0) space) (pairs_from n s (k + 3))

-- the n bytes from k on
unfoldable pub values_from : ℕ → List ℕ → ℕ → List ℕ
values_from zero s k = []
values_from (suc n) s k = value_at s k ∷ values_from n s (k + 3)

-- a space and two digits for each byte
unfoldable pub behind : List ℕ → List ℕ
behind [] = []
behind (b ∷ bs) = space ∷ (pair_of b ++ behind bs)

-- bytes as a sheet has them: two digits each and one space between
unfoldable pub spelled : List ℕ → List ℕ
spelled [] = []
spelled (b ∷ bs) = pair_of b ++ behind bs
