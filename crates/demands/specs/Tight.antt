-- How tight a promise is.
use Rattle.std.specs.Prelude.{◌≡◌}

-- any two outcomes that meet the promise P are the same
abbrev pub Tight : {O : Type 0} → (O → Type 0) → Type 0
Tight {O} P = (o o' : O) → P o → P o' → o ≡ o'

-- any two outcomes that meet a function's promise P are the same in all that is seen of them. P is said of the lifetimes, what was lent, the result, and
-- what is left of what was lent, as the function's own contract says it
abbrev pub TightCall : {L : Type 0} {A R E : L → Type 0} {O : Type 0} → ((l : L) → A l → R l → E l → Type 0) → ((l : L) → R l → E l → O) → Type 0
TightCall {L} {A} {R} {E} P seen = (l : L) (a : A l) (r r' : R l) (e e' : E l) → P l a r e → P l a r' e' → seen l r e ≡ seen l r' e'
