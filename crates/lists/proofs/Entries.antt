-- An entry reads the same while samples are stored past all entries. Assumes nothing.
use Rattle.std.proofs.Common.{◌≡◌, ℕ, zero, suc, ◌+◌, ◌<◌, ◌≤◌, List, [], ◌∷◌, ◌++◌, get_or, set, refl, ap, ◌∙◌, ap₂, arith, lit<, get_or-set_other}
use Rattle.std.proofs.lemmas.List.Edits.{sets}
use Rattle.state.specs.Layout.{lists, all_odts, odt_most, phase_at, entry_size, sample_at}
use Rattle.state.specs.Pool.{list_count, first_odt, odt_count, first_entry, entry_count, entry_at}
use Rattle.state.proofs.Allocated.{entry_most_lem, lists_same, first_odt_same, odt_count_same, first_entry_same, entry_count_same}
use Rattle.state.specs.Lists.{size_of, extension_of, address_of}
use Rattle.model.specs.Model.{Entry, no_entry, Odt, sizes_of}
use Rattle.model.specs.Calls.{block_in, blocks_in, lead_of, taken, contents_in}
use Rattle.model.specs.View.{entry_of, odt_of}
use Rattle.model.proofs.Bounded.{up_to_same}
use Rattle.model.proofs.Fits.{sizes_same}
use Rattle.model.proofs.Room.{taken_same}
use Rattle.lists.specs.Event.{contents_of}

-- every byte below the samples is the same
abbrev pub Alike : List ℕ → List ℕ → Type 0
Alike t s = (j : ℕ) → j < sample_at 0 → get_or t j 0 ≡ get_or s j 0

pub sets_alike : (xs s : List ℕ) (i : ℕ) → sample_at 0 ≤ i → Alike (sets s i xs) s
sets_alike [] s i h j b = refl
sets_alike (x ∷ xs) s i h j b = sets_alike xs (set s i x) (suc i) (omega arith) j b ∙ get_or-set_other s i j x 0 (λ e. omega arith)

-- an ODT's bytes are those of its entries
blocks_same : (cal meas : List ℕ) (y z : Odt) → y.entry ≡ z.entry → (n : ℕ) → blocks_in y cal meas n ≡ blocks_in z cal meas n
unfolding blocks_in
blocks_same cal meas y z e zero = refl
blocks_same cal meas y z e (suc n) = ap₂ ◌++◌ (blocks_same cal meas y z e n) (ap (λ (f : ℕ → Entry). block_in (f n) cal meas) e)

-- so are the lists that there are
module _ (t s : List ℕ) (same : Alike t s) where
  pub lists_alike : list_count t ≡ list_count s
  lists_alike = lists_same t s (same phase_at (lit< tt))

  pub first_alike : (l : ℕ) → l ≤ lists → first_odt t l ≡ first_odt s l
  first_alike = first_odt_same t s (λ j p q. same j (omega arith))

  pub odts_alike : (l : ℕ) → l < lists → odt_count t l ≡ odt_count s l
  odts_alike = odt_count_same t s (λ j p q. same j (omega arith))

  pub start_alike : (k : ℕ) → k ≤ all_odts → first_entry t k ≡ first_entry s k
  start_alike = first_entry_same t s (λ j p q. same j (omega arith))

  pub counts_alike : (k : ℕ) → k < all_odts → entry_count t k ≡ entry_count s k
  counts_alike = entry_count_same t s (λ j p q. same j (omega arith))

module _ (t s : List ℕ) (same : Alike t s) (k : ℕ) (odt : k < all_odts) where
  entry_byte : (e b : ℕ) → e < entry_count s k → b < entry_size → get_or t (entry_at t k e + b) 0 ≡ get_or s (entry_at s k e + b) 0
  entry_byte e b h q = rw (start_alike t s same k (omega arith)) (same (entry_at s k e + b) (omega (arith, entry_most_lem s k)))

  head_byte : (e : ℕ) → e < entry_count s k → get_or t (entry_at t k e) 0 ≡ get_or s (entry_at s k e) 0
  head_byte e h = rw (start_alike t s same k (omega arith)) (same (entry_at s k e) (omega (arith, entry_most_lem s k)))

  entry_alike : (e : ℕ) → e < entry_count s k → entry_of t k e ≡ entry_of s k e
  unfolding size_of extension_of address_of
  entry_alike e h = rw (head_byte e h, entry_byte e 1 h (lit< tt))

  pub block_alike : (cal meas : List ℕ) (e : ℕ) → e < entry_count s k → block_in (entry_of t k e) cal meas ≡ block_in (entry_of s k e) cal meas
  block_alike cal meas e h = ap (λ (x : Entry). block_in x cal meas) (entry_alike e h)

  entries_alike : (odt_of t k).entry ≡ (odt_of s k).entry
  entries_alike = rw (counts_alike t s same k odt) (up_to_same (entry_count s k) no_entry (λ e h. entry_alike e h))

  pub blocks_alike : (cal meas : List ℕ) (n : ℕ) → blocks_in (odt_of t k) cal meas n ≡ blocks_in (odt_of s k) cal meas n
  blocks_alike cal meas n = blocks_same cal meas (odt_of t k) (odt_of s k) entries_alike n

  pub sizes_alike : (n : ℕ) → sizes_of (odt_of t k) n ≡ sizes_of (odt_of s k) n
  sizes_alike = sizes_same (odt_of t k) (odt_of s k) entries_alike

  -- so many of its entries go into so many bytes
  pub taken_alike : (room : ℕ) → taken room (odt_of t k) (entry_count t k) ≡ taken room (odt_of s k) (entry_count s k)
  taken_alike room = ap (taken room (odt_of t k)) (counts_alike t s same k odt) ∙ taken_same room (odt_of t k) (odt_of s k) entries_alike (entry_count s k)

pub contents_alike : (t s : List ℕ) → Alike t s → (k o clock : ℕ) (cal meas : List ℕ) → k + o < all_odts → contents_of t k o clock cal meas ≡ contents_of s k o clock cal meas
unfolding contents_in
contents_alike t s same k o clock cal meas odt =
    ap (λ (n : ℕ). lead_of o clock ++ blocks_in (odt_of t (k + o)) cal meas n) (taken_alike t s same (k + o) odt (odt_most o))
    ∙ ap (λ (bs : List ℕ). lead_of o clock ++ bs) (blocks_alike t s same (k + o) odt cal meas (taken (odt_most o) (odt_of s (k + o)) (entry_count s (k + o))))
