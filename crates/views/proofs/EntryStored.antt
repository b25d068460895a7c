-- An entry is stored: it reads as it was meant, and no other of its ODT differently. Assumes nothing.
use Rattle.std.proofs.Common.{◌≡◌, ℕ, ◌+◌, ◌*◌, ◌/◌, ◌%◌, ◌<◌, ◌≤◌, cond, eqb, ◌≢◌, List, get_or, refl, mod-lt, mod-eq_of_lt, div-add-mod', arith, lit<, le-ltb}
use Rattle.state.specs.Layout.{all_odts, entry_most, addressable, entry_size, entries_at}
use Rattle.state.specs.Pool.{first_entry, entry_count, entry_at}
use Rattle.state.specs.Lists.{size_of, extension_of, address_of}
use Rattle.lists.specs.Lists.{tag_of, head_of}
use Rattle.words.specs.declared.Extension.{Extension}
use Rattle.words.specs.declared.Extension.TheVariants.{Calibration as CalibrationMemory, Measured}
use Rattle.model.specs.Model.{put, no_entry}
use Rattle.model.specs.View.{entry_of, odt_of}
use Rattle.model.proofs.Bounded.{up_to_is, up_to_put}
use Rattle.fields.proofs.Readers.{Same, first_entry_reads, entry_count_reads, entry_own}
use Rattle.views.proofs.Parts.{Stays}

-- ---- an entry's two bytes
-- what is put into the first is read out of it
head_read : (n t h x : ℕ) → x ≡ 32 * n + 16 * t + h → t ≤ 1 → h < 16 → (x / 32 ≡ n) × (x / 16 % 2 ≡ t) × (x % 16 ≡ h)
head_read n t h x e t1 h4 =
    let y : ℕ = x / 16 in
    let y0 : y ≡ 2 * n + t = omega (arith, e, h4, div-add-mod' x 16, mod-lt x {m = 16} (lit< tt)) in (
      omega (arith, e, t1, h4, div-add-mod' x 32, mod-lt x {m = 32} (lit< tt)),
      omega (arith, y0, t1, div-add-mod' y 2, mod-lt y {m = 2} (lit< tt)),
      omega (arith, e, h4, div-add-mod' x 16, mod-lt x {m = 16} (lit< tt)),
    )

tag_few : (x : Extension) → tag_of x ≤ 1
tag_few CalibrationMemory = omega arith
tag_few Measured = omega arith

extension_by : (x : Extension) → cond (eqb (tag_of x) 1) Measured CalibrationMemory ≡ x
extension_by CalibrationMemory = refl
extension_by Measured = refl

module _ (s : List ℕ) (k e n a : ℕ) (x : Extension) (n4 : n ≤ entry_most) (low : a < addressable) (first : get_or s (entry_at s k e) 0 ≡ head_of n x a) (second : get_or s (entry_at s k e + 1) 0 ≡ a % 256) where
  entry_read : entry_of s k e ≡ record { size = n; extension = x; address = a }
  unfolding size_of extension_of address_of
  entry_read =
      let h : ℕ = a / 256 in
      let h4 : h < 16 = omega (arith, low, div-add-mod' a 256) in
      let e : head_of n x a ≡ 32 * n + 16 * tag_of x + h = mod-eq_of_lt (omega (arith, n4, tag_few x, h4)) in
      let r = head_read n (tag_of x) h (head_of n x a) e (tag_few x) h4 in
      let whole : a % 256 + 256 * h ≡ a = omega (arith, div-add-mod' a 256) in
      rw (first, second, r.0, r.1, r.2, le-ltb entry_most n n4, extension_by x, whole)

pub entry_zero : (s : List ℕ) (k e : ℕ) → get_or s (entry_at s k e) 0 ≡ 0 → get_or s (entry_at s k e + 1) 0 ≡ 0 → entry_of s k e ≡ no_entry
unfolding size_of extension_of address_of
entry_zero s k e p q = simp (p, q)

-- ---- entry e of ODT k is stored: its own bytes, and those of the others
module _ {s t : List ℕ} (k e n a : ℕ) (x : Extension) (stays : Stays s t) (odt : k < all_odts) (there : e < entry_count s k) (n4 : n ≤ entry_most) (low : a < addressable)
    (first : get_or t (entry_at s k e) 0 ≡ head_of n x a) (second : get_or t (entry_at s k e + 1) 0 ≡ a % 256)
    (rest : (j : ℕ) → j < entry_count s k → j ≢ e → Same (entry_at s k j) (entry_at s k j + entry_size) s t) where
  pub entry_put : (odt_of t k).entry ≡ put e (record { size = n; extension = x; address = a }) (odt_of s k).entry
  entry_put =
      let same : first_entry t k ≡ first_entry s k = first_entry_reads stays k (omega arith) in
      rw (entry_count_reads stays k odt)
      (up_to_put (entry_count s k) no_entry there (entry_read t k e n a x n4 low (rw same first) (rw same second)) (λ j p m. entry_own stays k j (omega arith) (rest j p m)))

-- ODT k's entries are zeros
pub entries_zero : (s : List ℕ) (k : ℕ) → ((i : ℕ) → entries_at (first_entry s k) ≤ i → i < entries_at (first_entry s k + entry_count s k) → get_or s i 0 ≡ 0) → (odt_of s k).entry ≡ λ e. no_entry
entries_zero s k z =
    up_to_is (entry_count s k) no_entry (λ e p. entry_zero s k e (z (entry_at s k e) (omega arith) (omega arith)) (z (entry_at s k e + 1) (omega arith) (omega arith))) (λ e p. refl)
