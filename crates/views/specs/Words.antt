-- The words of the laws. What they name the definitions name too, and it is said here once more on purpose, with the paper's numbers and without those
-- definitions, so that one that is wrong is refused: `key_for` beside `key_of`, `next_seed` beside `next_of`, `outside` beside `inside_of`, `running` and `unfit`
-- beside `runs` and `fits`, `odts_in_all` and `entries_in_all` beside `odts_taken` and `entries_taken`; `two` and `four` (Commands.antt) beside `u16_at` and `u32_at`, and
-- the key as bytes, `key_to` of the demands, beside both. That each pair is one is proved: proofs/FaultWords.antt, proofs/Taken.antt.
use Rattle.std.specs.Prelude.{ℕ, zero, suc, ◌+◌, ◌*◌, ◌%◌, ◌/◌, Bool, false, cond, not, ◌&&◌, ◌||◌, eqb, ltb}
use Rattle.std.specs.Int.Bits.{bit_xor}
use Rattle.words.specs.declared.Resource.{Resource}
use Rattle.words.specs.declared.Resource.TheVariants.{Calibration, Lists}
use Rattle.model.specs.Model.{Odt, DaqList, Session}

-- ---- of the first n: whether some passes a test, and what they are together
abbrev pub any : ℕ → (ℕ → Bool) → Bool
any zero test = false
any (suc n) test = any n test || test n

abbrev pub total : ℕ → (ℕ → ℕ) → ℕ
total zero f = 0
total (suc n) f = total n f + f n

-- ---- memory: a block is inside when its address plus size is at most the lent length, of which the first 4,096 bytes at most can be addressed
abbrev pub outside : ℕ → ℕ → ℕ → Bool
outside a n lent = ltb lent (a + n) || ltb 4096 (a + n)

-- the bytes lent of the memory that an extension byte names
abbrev pub lent_to : ℕ → ℕ → ℕ → ℕ
lent_to extension nc nm = cond (eqb extension 0) nc nm

-- ---- seeds: Marsaglia's 32-bit xorshift, left 13, right 17, left 5
abbrev pub left13 : ℕ → ℕ
left13 x = bit_xor x (x * 8192 % 4294967296)

abbrev pub right17 : ℕ → ℕ
right17 x = bit_xor x (x / 131072)

abbrev pub left5 : ℕ → ℕ
left5 x = bit_xor x (x * 32 % 4294967296)

abbrev pub next_seed : ℕ → ℕ
next_seed x = left5 (right17 (left13 x))

-- ---- keys: to the seed the resource's number is added, modulo 2 ^ 32, and the sum is rotated left 8, so that its highest byte becomes its lowest
abbrev pub key_number : Resource → ℕ
key_number Calibration = 0x0000D05E
key_number Lists = 0x0000DA00

abbrev pub rotated : ℕ → ℕ
rotated x = 256 * (x % 16777216) + x / 16777216

abbrev pub key_for : Resource → ℕ → ℕ
key_for r seed = rotated ((seed + key_number r) % 4294967296)

-- ---- lists
-- the bytes of an ODT: at most 61 in a list's first one, behind number and clock, and 63 in a later one, behind its number
abbrev pub bytes_of_odt : Odt → ℕ
bytes_of_odt y = total y.entries (λ e. (y.entry e).size)

abbrev pub too_long : DaqList → ℕ → Bool
too_long x zero = ltb 61 (bytes_of_odt (x.odt zero))
too_long x (suc o) = ltb 63 (bytes_of_odt (x.odt (suc o)))

-- it cannot be started: mode never set, no entry above size 0, or too many bytes in an ODT
abbrev pub unfit : DaqList → Bool
unfit x = eqb x.mode 0 || (not (any x.odts (λ o. any (x.odt o).entries (λ e. ltb 0 ((x.odt o).entry e).size))) || any x.odts (too_long x))

-- it runs: a session is open, it was started, and it has an ODT
abbrev pub running : Session → ℕ → Bool
running c l = c.opened && ((c.list l).started && ltb 0 (c.list l).odts)

-- ---- what of the pool is taken
abbrev pub odts_in_all : Session → ℕ
odts_in_all c = total c.lists (λ l. (c.list l).odts)

abbrev pub entries_in_all : Session → ℕ
entries_in_all c = total c.lists (λ l. total (c.list l).odts (λ o. ((c.list l).odt o).entries))
