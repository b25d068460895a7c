-- Seeds and keys: the right key to the seed last given opens its lock, and nothing else opens one.
use Rattle.std.specs.Prelude.{ℕ, ◌<◌, ◌+◌, ◌%◌, ◌^◌, ◌≡◌, true, false, List, [], ◌∷◌, ◌++◌, length, take, drop, Some}
use Rattle.state.specs.State.{consistent, bit_of}
use Rattle.model.specs.View.{session_of, view_of}
use Rattle.demands.specs.Slave.{AnySlave}
use Rattle.demands.specs.Heard.{Commands, brings_key, key_matches}
use Rattle.state.specs.Bytes.{bytes32, u32_at}
use Rattle.words.specs.declared.Resource.{Resource}
use Rattle.words.specs.declared.Resource.TheVariants.{Calibration, Lists}
use Rattle.demands.specs.Runs.{Call, run}
use Rattle.demands.specs.Between.{changes_seed, Without}
use Rattle.views.specs.Words.{key_number}

abbrev pub other_lock : Resource → Resource
other_lock Calibration = Lists
other_lock Lists = Calibration

-- byte b ends UNLOCK with the right key to the seed that is out, which is for r
pub record RightKeyEnds (s : List ℕ) (b : ℕ) (r : Resource) : Type 0 where
  pub packet : List ℕ
  pub command : Commands s b packet
  pub seed : (session_of s).seed ≡ Some r
  pub key : brings_key packet ≡ true
  pub right : key_matches packet r (session_of s) ≡ true

-- ---- the key to a seed, as the bytes on the wire: the number of the resource is added to the seed, and of the four bytes of the sum the last goes first
abbrev pub last_first : List ℕ → List ℕ
last_first bs = drop 3 bs ++ take 3 bs

abbrev pub key_to : Resource → List ℕ → List ℕ
key_to r seed = last_first (bytes32 ((u32_at seed 0 + key_number r) % 2 ^ 32))

-- GET_SEED has led from state s to t: four bytes are the answer's seed, and UNLOCK with the key to them, whenever it comes and whatever came between that
-- does not change the seed, opens the lock of r and leaves the other
pub record SeedOpens (v : AnySlave) (r : Resource) (s t : List ℕ) : Type 0 where
  pub seed : List ℕ
  pub four : length seed ≡ 4
  pub answer : (view_of t).answer ≡ 0xFF ∷ 0x04 ∷ seed
  pub opens : (between : List Call) (cal meas : List ℕ) (b : ℕ) (p : List ℕ) → Without changes_seed v t between
      → Commands (run v t between) b p → take 6 p ≡ 0xF7 ∷ 0x04 ∷ key_to r seed
      → ((session_of (v.receive (run v t between) cal meas b).state).unlocked r ≡ true)
      × ((session_of (v.receive (run v t between) cal meas b).state).unlocked (other_lock r) ≡ (session_of s).unlocked (other_lock r))

pub record Keys (v : AnySlave) : Type 0 where
  -- a right key unlocks its own resource alone
  pub unlocks : (s cal meas : List ℕ) (b : ℕ) (p : List ℕ) (r : Resource) → consistent s ≡ true
      → Commands s b p → (session_of s).seed ≡ Some r → brings_key p ≡ true → key_matches p r (session_of s) ≡ true
      → ((session_of (v.receive s cal meas b).state).unlocked r ≡ true)
      × ((session_of (v.receive s cal meas b).state).unlocked (other_lock r) ≡ (session_of s).unlocked (other_lock r))
  -- and nothing else opens a lock
  pub opens_by_key : (s cal meas : List ℕ) (b : ℕ) (r : Resource) → consistent s ≡ true → (session_of s).unlocked r ≡ false → (session_of (v.receive s cal meas b).state).unlocked r ≡ true
      → RightKeyEnds s b r
  -- GET_SEED of a locked resource gives a seed while fewer than three keys were wrong, whatever the generator, and the key to that seed opens that lock
  pub seed_opens : (s cal meas : List ℕ) (b : ℕ) (p : List ℕ) (r : Resource) → consistent s ≡ true → (session_of s).generator < 2 ^ 32 → (session_of s).wrong_keys < 3
      → Commands s b p → take 3 p ≡ 0xF8 ∷ 0x00 ∷ bit_of r ∷ [] → (session_of s).unlocked r ≡ false → SeedOpens v r s (v.receive s cal meas b).state
