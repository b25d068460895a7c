use Rattle.std.proofs.Common.{◌≡◌, ◌+◌, ◌-◌, ◌++◌, List, ℕ, length, take, drop, min, append_assoc, arith, length-take-le, drop-drop}
use Rattle.std.proofs.lemmas.List.Edits.{sets, sets-eq}
use Rattle.state.specs.Layout.{addressable}
use Rattle.bench.specs.Stored.{stored_in}
use Rattle.bench.proofs.Gun.measure.Goals as goal

stored_back : (m xs : List ℕ) (at from count : ℕ) → from ≡ min at addressable → count ≡ min (length xs) (addressable - from) → length m ≡ addressable → take from m ++ (take count xs ++ drop count (drop from m)) ≡ stored_in m at xs
stored_back m xs at from count p q h =
    let n : length (take count xs) ≡ count = length-take-le count xs (omega arith) in
    let e : sets m from (take count xs) ≡ take from m ++ take count xs ++ drop (from + length (take count xs)) m = sets-eq (take count xs) m from (omega arith) in
    rw (← p, ← q, e, n, drop-drop count from m, append_assoc)

pub returns-clause-meas : goal.returns-clause-meas
returns-clause-meas c =
    let m = c.args.self.now.meas in
    let n : c.min-from.result + c.min-count.result - c.min-from.result ≡ c.min-count.result = omega arith in
    rw (c.copy_from_slice.ensures.after, n) (stored_back m c.args.bytes.now c.args.at c.min-from.result c.min-count.result c.min-from.ensures c.min-count.ensures (omega arith))
