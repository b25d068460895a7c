-- Three wrong keys and it stays shut: from then on until the next power-up no seed is given, no key is judged, and no lock opens.
use Rattle.std.specs.Prelude.{ℕ, suc, ◌+◌, ◌≤◌, ◌<◌, ◌≡◌, Bool, true, false, cond, List, [], ◌∷◌, eqb, length, None}
use Rattle.state.specs.Layout.{size}
use Rattle.state.specs.State.{consistent}
use Rattle.words.specs.declared.Resource.{Resource}
use Rattle.session.specs.Receive.{Step}
use Rattle.model.specs.Model.{byte}
use Rattle.model.specs.View.{session_of}
use Rattle.demands.specs.Slave.{AnySlave}
use Rattle.demands.specs.Heard.{of_answered}
use Rattle.demands.specs.Life.{Device, Moment, PowerOn, Hears, OnEvent, Serves, after_moment, lived}

-- ---- a key is judged wrong: UNLOCK is answered FE 25
abbrev pub says_wrong : List ℕ → List ℕ → Bool
says_wrong p answer = cond (eqb (byte p 0) 0xF7) (cond (eqb (byte answer 0) 0xFE) (eqb (byte answer 1) 0x25) false) false

-- so it is at byte b
abbrev pub judged_wrong : Step → List ℕ → ℕ → Bool
judged_wrong = of_answered says_wrong

-- ---- how many keys have been judged wrong since the last power-up: once a moment has passed, and once a life has, with n of them before it
abbrev pub wrong_at : AnySlave → Device → Moment → ℕ → ℕ
wrong_at v h (PowerOn start) n = 0
wrong_at v h (Hears meas b) n = cond (judged_wrong (v.receive h.state h.cal meas b) h.state b) (suc n) n
wrong_at v h (OnEvent meas event clock) n = n
wrong_at v h (Serves out) n = n

abbrev pub wrong_in : AnySlave → Device → List Moment → ℕ → ℕ
wrong_in v h [] n = n
wrong_in v h (m ∷ ms) n = wrong_in v (after_moment v h m) ms (wrong_at v h m n)

-- no power-up comes
abbrev pub PoweredOn : List Moment → Type 0
PoweredOn [] = Unit {0}
PoweredOn (PowerOn start ∷ ms) = ⊥
PoweredOn (Hears meas b ∷ ms) = PoweredOn ms
PoweredOn (OnEvent meas event clock ∷ ms) = PoweredOn ms
PoweredOn (Serves out ∷ ms) = PoweredOn ms

pub record StaysShut (v : AnySlave) : Type 0 where
  -- a key that is judged wrong counts, whichever lock it was for; before it fewer than three did
  pub counts_wrong : (s cal meas : List ℕ) (b : ℕ) → consistent s ≡ true → judged_wrong (v.receive s cal meas b) s b ≡ true
      → ((session_of s).wrong_keys < 3) × ((session_of (v.receive s cal meas b).state).wrong_keys ≡ (session_of s).wrong_keys + 1)
  -- nothing else changes the count: no right key, no CONNECT, no other byte, no event and no slot
  pub keeps : (s cal meas : List ℕ) (b : ℕ) → consistent s ≡ true → judged_wrong (v.receive s cal meas b) s b ≡ false
      → (session_of (v.receive s cal meas b).state).wrong_keys ≡ (session_of s).wrong_keys
  pub keeps_on : (s cal meas out : List ℕ) (event clock : ℕ) → consistent s ≡ true
      → ((session_of (v.event s cal meas event clock).state).wrong_keys ≡ (session_of s).wrong_keys) × ((session_of (v.slot s out).state).wrong_keys ≡ (session_of s).wrong_keys)
  -- power-up alone begins it anew
  pub anew : (s : List ℕ) (start : ℕ) → length s ≡ size → (session_of (v.power_up s start).state).wrong_keys ≡ 0
  -- after three no seed is out, from any bytes, so that no key is judged; the table of checks then says 25 of GET_SEED and 29 of UNLOCK
  pub none_out : (s : List ℕ) → (session_of s).wrong_keys ≡ 3 → (session_of s).seed ≡ None
  -- so, from any bytes, no lock that is shut then opens before the next power-up
  pub opens_none : (h : Device) (later : List Moment) (r : Resource) → consistent h.state ≡ true → (session_of h.state).wrong_keys ≡ 3 → PoweredOn later
      → (session_of h.state).unlocked r ≡ false → (session_of (lived v h later).state).unlocked r ≡ false
  -- ---- over any life that begins with a power-up
  -- the count is of the keys that were judged wrong since the last power-up, and these are at most three
  pub tells : (h : Device) (start : ℕ) (ms : List Moment) → length h.state ≡ size
      → (session_of (lived v h (PowerOn start ∷ ms)).state).wrong_keys ≡ wrong_in v h (PowerOn start ∷ ms) 0
  pub at_most : (h : Device) (start : ℕ) (ms : List Moment) → length h.state ≡ size → wrong_in v h (PowerOn start ∷ ms) 0 ≤ 3
  -- once they are three, no lock is open, none opens before the next power-up, and till then no calibration byte changes any more
  pub shut_then : (h : Device) (start : ℕ) (ms later : List Moment) → length h.state ≡ size → wrong_in v h (PowerOn start ∷ ms) 0 ≡ 3 → PoweredOn later
      → ((r : Resource) → (session_of (lived v (lived v h (PowerOn start ∷ ms)) later).state).unlocked r ≡ false)
      × ((lived v (lived v h (PowerOn start ∷ ms)) later).cal ≡ (lived v h (PowerOn start ∷ ms)).cal)
