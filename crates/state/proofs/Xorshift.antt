-- The generator never comes to 0: each of its three shifts can be undone, so it leaves no number but 0 as 0. Assumes nothing.
use Rattle.std.proofs.Common.{◌≡◌, ℕ, zero, suc, ◌+◌, ◌-◌, ◌*◌, ◌/◌, ◌%◌, ◌^◌, ◌<◌, eqb, ◌≢◌, List, sym, ap, ◌∙◌, mod-lt, pow-suc, div-add-mod', arith, lit<, ne_eqb}
use Rattle.std.proofs.lemmas.Bool.{eqb-false}
use Rattle.std.proofs.lemmas.Nat.{and_le_l, and_le_r, xor_lt, shr_le}
use lib.Bits.{bit_xor, xor_add_and}
use Rattle.line.proofs.Laws.{cond_ind}
use Rattle.state.specs.Layout.{generator_at}
use Rattle.state.specs.Bytes.{u32_at}
use Rattle.state.specs.Generator.{left, right, xor_left, xor_right, next_of, start_of}
use Rattle.state.specs.State.{generator_of}

-- numbers that differ in no digit are the same
same_digits : (a b : ℕ) → bit_xor a b ≡ 0 → a ≡ b
same_digits a b e = omega (arith, xor_add_and a b, and_le_l a b, and_le_r a b, e)

-- what is its own even multiple, but for its digits from the n-th on, is even, and so is its half, and so on
own_multiple : (n x q c : ℕ) → x < 2 ^ n → x + q * 2 ^ n ≡ x * c * 2 → x ≡ 0
own_multiple zero x q c h e = omega arith
own_multiple (suc n) x q c h e =
    let y : ℕ = x * c - q * 2 ^ n in
    let e' : x + q * (2 ^ n * 2) ≡ x * c * 2 = ap (λ (w : ℕ). x + q * w) (sym (pow-suc 2 n)) ∙ e in
    let half : y + q * 2 ^ n ≡ x * c = omega arith in
    let twice : x ≡ y * 2 = omega arith in
    let again : x * c ≡ y * c * 2 = ap (λ (v : ℕ). v * c) twice ∙ (omega arith) in
    let few : y < 2 ^ n = omega arith in
    let none : y ≡ 0 = own_multiple n y q c few (half ∙ again) in
    omega arith

left_some : (x c : ℕ) → x < 2 ^ 32 → x ≢ 0 → bit_xor x ((x * (c * 2)) % 2 ^ 32) ≢ 0
left_some x c h n e =
    let w : ℕ = x * (c * 2) in
    let same : x ≡ w % 2 ^ 32 = same_digits x (w % 2 ^ 32) e in
    let whole : w / 2 ^ 32 * 2 ^ 32 + w % 2 ^ 32 ≡ w = div-add-mod' w (2 ^ 32) in
    let parts : x + w / 2 ^ 32 * 2 ^ 32 ≡ x * c * 2 = omega arith in
    n (own_multiple 32 x (w / 2 ^ 32) c h parts)

right_some : (x : ℕ) → x ≢ 0 → xor_right x 17 ≢ 0
right_some x n e =
    let same : x ≡ x / 2 ^ 17 = same_digits x (right x 17) e in
    omega (arith, div-add-mod' x (2 ^ 17))

left_fits : (x k : ℕ) → x < 2 ^ 32 → xor_left x k < 2 ^ 32
left_fits x k h = xor_lt 32 x (left x k) h (mod-lt (x * 2 ^ k) (lit< tt))

right_fits : (x : ℕ) → x < 2 ^ 32 → xor_right x 17 < 2 ^ 32
right_fits x h = xor_lt 32 x (right x 17) h (omega (arith, shr_le x 17))

-- the next of a number of 32 bits that is not 0 is such a number
pub next_fits : (x : ℕ) → x < 2 ^ 32 → next_of x < 2 ^ 32
unfolding next_of
next_fits x h = left_fits (xor_right (xor_left x 13) 17) 5 (right_fits (xor_left x 13) (left_fits x 13 h))

pub next_some : (x : ℕ) → x < 2 ^ 32 → x ≢ 0 → next_of x ≢ 0
unfolding next_of
next_some x h n =
    let y : ℕ = xor_left x 13 in
    let few : y < 2 ^ 32 = left_fits x 13 h in
    let some : y ≢ 0 = left_some x 4096 h n in
    left_some (xor_right y 17) 16 (right_fits y few) (right_some y some)

-- a start is never 0, and one that is not 0 is kept
pub start_some : (x : ℕ) → start_of x ≢ 0
unfolding start_of
start_some x = cond_ind (λ (n : ℕ). n ≢ 0) (eqb x 0) (λ _. omega arith) (λ e. eqb-false x 0 e)

pub start_same : (x : ℕ) → x ≢ 0 → start_of x ≡ x
unfolding start_of
start_same x n = simp (ne_eqb x 0 n)

-- a state's generator is never 0
pub generator_some : (s : List ℕ) → generator_of s ≢ 0
unfolding generator_of
generator_some s = start_some (u32_at s generator_at)
