-- The bytes that an event takes: how many, one more, and whole packets of them. Assumes nothing.
use Rattle.std.proofs.Common.{◌≡◌, ℕ, zero, suc, ◌+◌, ◌-◌, ◌/◌, ◌%◌, ◌<◌, ◌≤◌, Bool, true, false, cond, List, [], ◌∷◌, ◌++◌, length, get_or, set, sym, refl, ap, ◌∙◌, add-zero, add-suc, suc-add, add-one, arith, lit<, length-append}
use Rattle.std.proofs.lemmas.List.Edits.{sets}
use Rattle.line.proofs.Laws.{sets_append}
use Rattle.state.specs.Layout.{is_first, odt_most, entry_size, sample_at, all_odts, clock_size, stored_most}
use Rattle.state.specs.Memory.{byte_of, bytes_of}
use Rattle.state.specs.Pool.{entry_count, entry_at}
use Rattle.state.specs.Lists.{size_at, extension_at, address_in, size_of, extension_of, address_of}
use Rattle.lists.specs.Event.{contents_of, stored, captured_odts}
use Rattle.model.specs.Model.{sizes_of}
use Rattle.model.specs.Calls.{block_in, blocks_in, lead_of, taken, contents_in}
use Rattle.model.specs.View.{entry_of, odt_of}
use Rattle.model.proofs.Shown.{sizes_next, blocks_next}
use Rattle.model.proofs.Room.{taken_most_lem, taken_fits}
use Rattle.state.proofs.Copies.{under}
use Rattle.state.proofs.Allocated.{entry_most_lem}
use Rattle.lists.proofs.Entries.{Alike, sets_alike, blocks_alike, sizes_alike, taken_alike}

pub bytes_next : (mem : List ℕ) (a n : ℕ) → bytes_of mem a (suc n) ≡ bytes_of mem a n ++ byte_of mem (a + n) ∷ []
unfolding bytes_of
bytes_next mem a zero = rw add-zero
bytes_next mem a (suc n) = rw (add-suc, ← suc-add) (ap (λ (l : List ℕ). byte_of mem a ∷ l) (bytes_next mem (suc a) n))

pub bytes_length : (mem : List ℕ) (a n : ℕ) → length (bytes_of mem a n) ≡ n
unfolding bytes_of
bytes_length mem a zero = refl
bytes_length mem a (suc n) = ap suc (bytes_length mem (suc a) n)

-- a clock
pub pair_sets : (s : List ℕ) (i a b : ℕ) → set (set s i a) (i + 1) b ≡ sets s i (a ∷ b ∷ [])
pair_sets s i a b = simp add-one

module _ (s : List ℕ) (k : ℕ) (cal meas : List ℕ) where
  abbrev gathered : ℕ → List ℕ
  gathered n = blocks_in (odt_of s k) cal meas n

  pub gathered_length : (n : ℕ) → n < entry_count s k → length (gathered (suc n)) ≡ length (gathered n) + size_of s k n
  gathered_length n h =
      ap length (blocks_next s k cal meas n h) ∙ length-append (gathered n) (block_in (entry_of s k n) cal meas)
      ∙ ap (λ (m : ℕ). length (gathered n) + m) (bytes_length _ _ _)

  gathered_none : length (gathered 0) ≡ sizes_of (odt_of s k) 0
  unfolding blocks_in sizes_of
  gathered_none = refl

  pub gathered_first : (n : ℕ) → n ≤ entry_count s k → length (gathered n) ≡ sizes_of (odt_of s k) n
  gathered_first zero h = gathered_none
  gathered_first (suc n) h = gathered_length n (omega arith) ∙ ap (λ (m : ℕ). m + size_of s k n) (gathered_first n (omega arith)) ∙ sym (sizes_next s k n (omega arith))

  -- entries are read as they were, with bytes stored past them already
  module _ (odt : k < all_odts) (at : ℕ) (past : sample_at 0 ≤ at) where
    -- by where the entry lies
    module _ (n : ℕ) (h : n < entry_count s k) (i : ℕ) (e : i ≡ entry_at s k n) where
      abbrev so_far : List ℕ
      so_far = sets s at (gathered n)

      byte_there : (b : ℕ) → b < entry_size → get_or so_far (i + b) 0 ≡ get_or s (entry_at s k n + b) 0
      byte_there b q = rw e (sets_alike (gathered n) s at past (entry_at s k n + b) (omega (arith, entry_most_lem s k)))

      head_there : get_or so_far i 0 ≡ get_or s (entry_at s k n) 0
      head_there = rw e (sets_alike (gathered n) s at past (entry_at s k n) (omega (arith, entry_most_lem s k)))

      pub size_there : size_at so_far i ≡ size_of s k n
      unfolding size_of
      size_there = rw head_there

      block_there : block_in (record { size = size_at so_far i; extension = extension_at so_far i; address = address_in so_far i }) cal meas ≡ block_in (entry_of s k n) cal meas
      unfolding size_of extension_of address_of
      block_there = rw (head_there, byte_there 1 (lit< tt))

      pub gathered_step : sets so_far (at + length (gathered n)) (block_in (record { size = size_at so_far i; extension = extension_at so_far i; address = address_in so_far i }) cal meas) ≡ sets s at (gathered (suc n))
      gathered_step =
          ap (sets so_far (at + length (gathered n))) block_there ∙ sets_append (gathered n) (block_in (entry_of s k n) cal meas) s at
          ∙ ap (λ (bs : List ℕ). sets s at bs) (sym (blocks_next s k cal meas n h))

    pub gathered_after : (xs : List ℕ) (n : ℕ) → sets (sets s at xs) (at + length xs) (blocks_in (odt_of (sets s at xs) k) cal meas n) ≡ sets s at (xs ++ gathered n)
    gathered_after xs n =
        ap (λ (bs : List ℕ). sets (sets s at xs) (at + length xs) bs) (blocks_alike (sets s at xs) s (sets_alike xs s at past) k odt cal meas n)
        ∙ sets_append xs (gathered n) s at

-- an ODT's packet is no longer than its store: the clock's bytes, and those of the entries that are taken
pub lead_most : (o clock : ℕ) → length (lead_of o clock) + odt_most o ≤ stored_most
lead_most o clock = by (is_first o) where
  by : (first : Bool) → length (cond first (clock % 256 ∷ clock / 256 % 256 ∷ []) []) + cond first (stored_most - clock_size) stored_most ≤ stored_most
  by true = omega arith
  by false = omega arith

module _ (s : List ℕ) (k o clock : ℕ) (cal meas : List ℕ) where
  abbrev its : ℕ
  its = taken (odt_most o) (odt_of s (k + o)) (entry_count s (k + o))

  pub contents_long : length (contents_of s k o clock cal meas) ≡ length (lead_of o clock) + sizes_of (odt_of s (k + o)) its
  unfolding contents_in
  contents_long =
      length-append (lead_of o clock) (blocks_in (odt_of s (k + o)) cal meas its)
      ∙ ap (λ (j : ℕ). length (lead_of o clock) + j) (gathered_first s (k + o) cal meas its (taken_most_lem (odt_most o) (odt_of s (k + o)) (entry_count s (k + o))))

  pub contents_most : length (contents_of s k o clock cal meas) ≤ stored_most
  contents_most = omega (arith, contents_long, lead_most o clock, taken_fits (odt_most o) (odt_of s (k + o)) (entry_count s (k + o)))

  -- its bytes, and then its length before them
  module _ (odt : k + o < all_odts) (at : ℕ) (place : at ≡ sample_at (k + o)) where
    abbrev led : List ℕ
    led = sets s (at + 1) (lead_of o clock)

    -- the clock changes no entry
    led_taken : taken (odt_most o) (odt_of led (k + o)) (entry_count led (k + o)) ≡ its
    led_taken = taken_alike led s (sets_alike (lead_of o clock) s (at + 1) (omega arith)) (k + o) odt (odt_most o)

    led_sizes : (n : ℕ) → sizes_of (odt_of led (k + o)) n ≡ sizes_of (odt_of s (k + o)) n
    led_sizes n = sizes_alike led s (sets_alike (lead_of o clock) s (at + 1) (omega arith)) (k + o) odt n

    pub stored_whole : (m n : ℕ) → m ≡ taken (odt_most o) (odt_of led (k + o)) (entry_count led (k + o)) → n ≡ length (lead_of o clock) + sizes_of (odt_of led (k + o)) m
        → set (sets led (at + 1 + length (lead_of o clock)) (blocks_in (odt_of led (k + o)) cal meas m)) at n ≡ stored s (k + o) (contents_of s k o clock cal meas)
    unfolding stored contents_in
    stored_whole m n f e =
        let same : m ≡ its = f ∙ led_taken in
        let bs : List ℕ = lead_of o clock ++ blocks_in (odt_of s (k + o)) cal meas its in
        let long : length bs ≡ n = contents_long ∙ ap (λ (j : ℕ). length (lead_of o clock) + j) (sym (led_sizes its)) ∙ ap (λ (j : ℕ). length (lead_of o clock) + sizes_of (odt_of led (k + o)) j) (sym same) ∙ sym e in
        ap (λ (t : List ℕ). set t at n) (gathered_after s (k + o) cal meas odt (at + 1) (omega arith) (lead_of o clock) m)
        ∙ ap (λ (j : ℕ). set (sets s (at + 1) (lead_of o clock ++ blocks_in (odt_of s (k + o)) cal meas j)) at n) same
        ∙ under bs s (at + 1) at n (omega arith)
        ∙ rw (add-one, long, place)

-- packets in store change no entry
pub captured_alike : (s : List ℕ) (k clock : ℕ) (cal meas : List ℕ) (n : ℕ) → Alike (captured_odts s k clock cal meas n) s
unfolding captured_odts stored
captured_alike s k clock cal meas zero j b = refl
captured_alike s k clock cal meas (suc n) j b =
    sets_alike (length (contents_of s k n clock cal meas) ∷ contents_of s k n clock cal meas) (captured_odts s k clock cal meas n) (sample_at (k + n)) (omega arith) j b
    ∙ captured_alike s k clock cal meas n j b

-- an ODT's most is no more than a packet holds
pub most_stored : (o : ℕ) → odt_most o ≤ stored_most
most_stored o = by (is_first o) where
  by : (first : Bool) → cond first (stored_most - clock_size) stored_most ≤ stored_most
  by true = omega arith
  by false = omega arith
