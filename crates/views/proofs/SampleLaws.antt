-- Each byte of a sample comes from its own place. Assumes nothing.
use Rattle.std.proofs.Common.{◌≡◌, ℕ, zero, suc, ◌+◌, ◌/◌, ◌%◌, ◌<◌, ◌≤◌, Bool, cond, eqb, ◌≢◌, List, [], ◌∷◌, ◌++◌, length, sym, refl, ap, ◌∙◌, subst, add-zero, arith, length-append, get_or-append-add, le-ltb, lt-ltb, eq-eqb, ne_eqb, eqb-true}
use Rattle.std.proofs.Math.Nat.{min-le_left, min-le_right}
use Rattle.std.proofs.lemmas.Bool.{eqb-false}
use Rattle.std.proofs.Math.ListN.{get_or-append}
use Rattle.state.specs.Layout.{addressable, odt_most}
use Rattle.state.specs.Memory.{pick, reach, byte_of, bytes_of}
use Rattle.lists.proofs.Gathered.{bytes_length}
use Rattle.model.specs.Model.{byte, Entry, Odt, DaqList, sizes_of}
use Rattle.model.specs.Calls.{block_in, blocks_in, lead_of, taken_in, contents_in, sampled}
use Rattle.model.proofs.Bounded.{either}
use Rattle.model.proofs.Room.{taken_most_lem, taken_fits, taken_all, taken_next}
use Rattle.views.specs.Commands.{memory_of}
use Rattle.views.specs.Samples.{lead_size, sizes_before, ReadAs, Captured, CapturedList}
use Rattle.views.proofs.MemoryLaws.{memory_is}

-- ---- one address, and the block from it
read_as_lem : (mem : List ℕ) (a : ℕ) → ReadAs mem a (byte_of mem a)
unfolding byte_of
read_as_lem mem a =
    let most : reach (length mem) ≤ length mem = min-le_left (length mem) addressable in
    let entry_reached : reach (length mem) ≤ addressable = min-le_right (length mem) addressable in
    record {
      inside = λ h k. rw (lt-ltb a (reach (length mem)) (omega arith));
      behind = λ h. rw (le-ltb a (reach (length mem)) (omega arith));
      beyond = λ h. rw (le-ltb a (reach (length mem)) (omega arith));
    }

byte_at : (mem : List ℕ) (a n j : ℕ) → j < n → byte (bytes_of mem a n) j ≡ byte_of mem (a + j)
unfolding bytes_of
byte_at mem a zero j h = absurd (omega arith)
byte_at mem a (suc n) zero h = rw add-zero
byte_at mem a (suc n) (suc j) h = let e : suc a + j ≡ a + suc j = omega arith in byte_at mem (suc a) n j (omega arith) ∙ ap (byte_of mem) e

-- ---- entry by entry
module _ (y : Odt) (cal meas : List ℕ) where
  abbrev block : ℕ → List ℕ
  block n = block_in (y.entry n) cal meas

  abbrev blocks : ℕ → List ℕ
  blocks n = blocks_in y cal meas n

  blocks_long : (n : ℕ) → length (blocks n) ≡ sizes_before y n
  unfolding blocks_in
  blocks_long zero = refl
  blocks_long (suc n) =
      omega (arith, length-append (blocks n) (block n), blocks_long n, bytes_length (pick (y.entry n).extension cal meas) (y.entry n).address (y.entry n).size)

  -- a byte of an entry stands before all later ones
  before_later : (n e j : ℕ) → e < n → j < (y.entry e).size → sizes_before y e + j < sizes_before y n
  before_later zero e j h k = absurd (omega arith)
  before_later (suc n) e j h k =
      either (eqb e n)
      (λ b. let own : j < (y.entry n).size = subst (λ (i : ℕ). j < (y.entry i).size) (eqb-true e n b) k in
      subst (λ (i : ℕ). sizes_before y i + j < sizes_before y n + (y.entry n).size) (sym (eqb-true e n b)) (omega arith))
      (λ b. let other : e ≢ n = eqb-false e n b in omega (arith, before_later n e j (omega arith) k))

  block_byte : (n j : ℕ) → j < (y.entry n).size → ReadAs (memory_of (y.entry n).extension cal meas) ((y.entry n).address + j) (byte (block n) j)
  block_byte n j k =
      let x : Entry = y.entry n in
      let mem : List ℕ = pick x.extension cal meas in
      let a : ℕ = x.address + j in
      subst (ReadAs (memory_of x.extension cal meas) a) (sym (byte_at mem x.address x.size j k))
      (subst (λ (m : List ℕ). ReadAs m a (byte_of mem a)) (memory_is x.extension cal meas) (read_as_lem mem a))

  blocks_byte : (n e j : ℕ) → e < n → j < (y.entry e).size → ReadAs (memory_of (y.entry e).extension cal meas) ((y.entry e).address + j) (byte (blocks n) (sizes_before y e + j))
  unfolding blocks_in
  blocks_byte zero e j h k = absurd (omega arith)
  blocks_byte (suc n) e j h k =
      let R : ℕ → ℕ → Type 0 = λ (i b : ℕ). ReadAs (memory_of (y.entry i).extension cal meas) ((y.entry i).address + j) b in
      either (eqb e n)
      (λ b. let same : e ≡ n = eqb-true e n b in
      let place : sizes_before y e + j ≡ length (blocks n) + j = ap (λ (i : ℕ). sizes_before y i + j) same ∙ ap (λ (m : ℕ). m + j) (sym (blocks_long n)) in
      subst (R e) (sym (ap (byte (blocks n ++ block n)) place ∙ get_or-append-add (blocks n) (block n) j 0))
      (subst (λ (i : ℕ). R i (byte (block n) j)) (sym same) (block_byte n j (subst (λ (i : ℕ). j < (y.entry i).size) same k))))
      (λ b. let other : e ≢ n = eqb-false e n b in
      let first : sizes_before y e + j < length (blocks n) = omega (arith, blocks_long n, before_later n e j (omega arith) k) in
      subst (R e) (sym (get_or-append (blocks n) (block n) 0 (sizes_before y e + j) first)) (blocks_byte n e j (omega arith) k))

-- ---- the clock before them
module _ (clock : ℕ) where
  first_lead : (o : ℕ) → o ≡ 0 → lead_of o clock ≡ clock % 256 ∷ clock / 256 % 256 ∷ []
  first_lead o z = rw (eq-eqb o 0 z)

  lead_long : (o : ℕ) → length (lead_of o clock) ≡ lead_size o
  lead_long zero = refl
  lead_long (suc o) = rw (ne_eqb (suc o) 0 (omega arith))

-- behind m bytes
behind_lead : (xs ys : List ℕ) (m t j : ℕ) → length xs ≡ m → byte (xs ++ ys) (m + t + j) ≡ byte ys (t + j)
behind_lead xs ys m t j e = let place : m + t + j ≡ length xs + (t + j) = omega arith in ap (byte (xs ++ ys)) place ∙ get_or-append-add xs ys (t + j) 0

-- how many entries go into a packet
pub sizes_are : (y : Odt) (n : ℕ) → sizes_of y n ≡ sizes_before y n
unfolding sizes_of
sizes_are y zero = refl
sizes_are y (suc n) = ap (λ (m : ℕ). m + (y.entry n).size) (sizes_are y n)

room_is : (o : ℕ) → lead_size o + odt_most o ≡ 63
room_is zero = refl
room_is (suc o) = ap (λ (b : Bool). 0 + cond b 61 63) (ne_eqb (suc o) 0 (omega arith))

contents_from : (o clock : ℕ) (cal meas : List ℕ) (y : Odt) → Captured o clock cal meas y (contents_in o clock cal meas y)
unfolding contents_in
contents_from o clock cal meas y =
    let lead : List ℕ = lead_of o clock in
    let n : ℕ = taken_in o y in
    let rest : List ℕ = blocks_in y cal meas n in
    record {
      taken = n;
      some = taken_most_lem (odt_most o) y y.entries;
      all = λ few. taken_all (odt_most o) y y.entries (omega (arith, few, room_is o, sizes_are y y.entries));
      next = λ less. omega (arith, taken_next (odt_most o) y y.entries less, room_is o, sizes_are y (suc n));
      most = omega (arith, length-append lead rest, lead_long clock o, blocks_long y cal meas n, taken_fits (odt_most o) y y.entries, room_is o, sizes_are y n);
      long = omega (arith, length-append lead rest, lead_long clock o, blocks_long y cal meas n);
      low = λ z. ap (λ (xs : List ℕ). byte (xs ++ rest) 0) (first_lead clock o z);
      high = λ z. ap (λ (xs : List ℕ). byte (xs ++ rest) 1) (first_lead clock o z);
      bytes = λ e j there m. subst (ReadAs (memory_of (y.entry e).extension cal meas) ((y.entry e).address + j))
          (sym (behind_lead lead rest (lead_size o) (sizes_before y e) j (lead_long clock o))) (blocks_byte y cal meas n e j there m);
    }

-- ---- a list sampled
pub samples_from : (clock : ℕ) (cal meas : List ℕ) (x : DaqList) → CapturedList clock cal meas x (sampled clock cal meas x)
samples_from clock cal meas x o h = subst (Captured o clock cal meas (x.odt o)) (sym (rw (lt-ltb o x.odts h))) (contents_from o clock cal meas (x.odt o))
