-- What an event captures of a list that it samples, in document 01's words: of each of its ODTs every byte of the packet, and the place that it comes
-- from. The packet's first byte, the ODT's number, goes before them when it is sent.
use Rattle.std.specs.Prelude.{ℕ, zero, suc, ◌+◌, ◌%◌, ◌/◌, ◌≤◌, ◌<◌, ◌≡◌, List, length}
use Rattle.model.specs.Model.{byte, Odt, DaqList}
use Rattle.views.specs.Commands.{memory_of}

-- how many bytes stand before those of the entries of a list's ODT o: the clock's two in its first one
abbrev pub lead_size : ℕ → ℕ
lead_size zero = 2
lead_size (suc o) = 0

-- the sizes of the entries before entry e
abbrev pub sizes_before : Odt → ℕ → ℕ
sizes_before y zero = 0
sizes_before y (suc e) = sizes_before y e + (y.entry e).size

-- byte b is what address a of a memory reads as: its first 4,096 bytes at most can be addressed, and a byte that is no longer inside reads 0
pub record ReadAs (mem : List ℕ) (a b : ℕ) : Type 0 where
  pub inside : a < length mem → a < 4096 → b ≡ byte mem a
  pub behind : length mem ≤ a → b ≡ 0
  pub beyond : 4096 ≤ a → b ≡ 0

-- ODT o of a list, which is y, captured in bytes bs: the clock, lowest byte first, before those of the first ODT; then entry by entry, and in each
-- from its address on. Of the entries all are taken, where they are no more than 63 bytes with the clock, else those before the first for which there is
-- no room
pub record Captured (o clock : ℕ) (cal meas : List ℕ) (y : Odt) (bs : List ℕ) : Type 0 where
  pub taken : ℕ
  pub some : taken ≤ y.entries
  pub all : lead_size o + sizes_before y y.entries ≤ 63 → taken ≡ y.entries
  pub next : taken < y.entries → 63 < lead_size o + sizes_before y (suc taken)
  pub most : length bs ≤ 63
  pub long : length bs ≡ lead_size o + sizes_before y taken
  pub low : o ≡ 0 → byte bs 0 ≡ clock % 256
  pub high : o ≡ 0 → byte bs 1 ≡ clock / 256 % 256
  pub bytes : (e j : ℕ) → e < taken → j < (y.entry e).size
      → ReadAs (memory_of (y.entry e).extension cal meas) ((y.entry e).address + j) (byte bs (lead_size o + sizes_before y e + j))

-- a list, which is x, sampled: z then has in store what was captured of each ODT, whose entries are x's
abbrev pub CapturedList : ℕ → List ℕ → List ℕ → DaqList → DaqList → Type 0
CapturedList clock cal meas x z = (o : ℕ) → o < x.odts → Captured o clock cal meas (x.odt o) (z.odt o).store
