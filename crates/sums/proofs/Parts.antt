-- Laws of sums over the parts of a list. Assumes nothing.
use Rattle.std.proofs.Common.{◌≡◌, ℕ, ◌+◌, ◌-◌, ◌%◌, ◌^◌, List, length, take, drop, sym, ap, ◌∙◌, arith, length-drop, length-take, take-append-drop, take_all}
use Rattle.line.specs.Message.{sum}
use Rattle.line.proofs.Laws.{sum_append}

-- a sum that wraps at 32 bits keeps its last 16
pub wraps_on : (x y z t : ℕ) → (x + (y + z)) % 65536 ≡ t → ((x + y) % 2 ^ 32 + z) % 65536 ≡ t
wraps_on x y z t e = omega arith

sum_parts : (n : ℕ) (l : List ℕ) → sum (take n l) + sum (drop n l) ≡ sum l
sum_parts n l = sym (sum_append (take n l) (drop n l)) ∙ ap sum (take-append-drop n l)

-- what is summed of the first n bytes, and of those behind
pub front_sum : (n y : ℕ) (l run behind : List ℕ) → run ≡ take n l → behind ≡ drop n l → y ≡ sum (take n run) → y + sum behind ≡ sum l
front_sum n y l run behind e f g =
    let whole : take n (take n l) ≡ take n l = take_all n (take n l) (omega (arith, length-take n l)) in
    rw (g, e, f, whole) (sum_parts n l)

pub words_sum : (n y : ℕ) (l : List ℕ) → y ≡ sum (take n l) → y + sum (take (length l - n) (drop n l)) ≡ sum l
words_sum n y l g =
    let all : take (length l - n) (drop n l) ≡ drop n l = take_all (length l - n) (drop n l) (simp length-drop (omega arith)) in
    rw (g, all) (sum_parts n l)
