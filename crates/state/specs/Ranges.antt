-- Things that lie one behind the other in a pool, so many of each number. Whatever the counts are, what does not fit into the pool is cut off.
use Rattle.std.specs.Prelude.{ℕ, zero, suc, ◌+◌, ◌-◌, min}

-- where the things of number n begin, and how many they are
unfoldable pub start_in : ℕ → (ℕ → ℕ) → ℕ → ℕ
start_in pool f zero = 0
start_in pool f (suc n) = min pool (start_in pool f n + f n)

abbrev pub count_in : ℕ → (ℕ → ℕ) → ℕ → ℕ
count_in pool f n = start_in pool f (suc n) - start_in pool f n
