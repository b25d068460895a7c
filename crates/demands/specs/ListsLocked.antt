-- While lists are locked no call changes an entry, mode, selection, running flag or the pointer, unless it ends or renews the session, which leaves
-- all of them as in a fresh one. Samples come and go by events and slots.
use Rattle.std.specs.Prelude.{ℕ, ◌<◌, ◌≡◌, Bool, true, false, List}
use Rattle.state.specs.State.{consistent}
use Rattle.words.specs.declared.Resource.TheVariants.{Lists}
use Rattle.session.specs.Receive.{Step}
use Rattle.model.specs.Model.{Bytes}
use Rattle.views.specs.Commands.{Fresh}
use Rattle.views.specs.Locked.{SettingsKept, ends_session}
use Rattle.model.specs.View.{session_of}
use Rattle.demands.specs.Slave.{AnySlave}
use Rattle.demands.specs.Heard.{of_answered}

-- byte b ends a command that is answered, and that ends or renews the session
abbrev pub ends_at : Step → List ℕ → ℕ → Bool
ends_at = of_answered ends_session

pub record ListsLocked (v : AnySlave) : Type 0 where
  -- a byte, while lists are locked or no session is open
  pub kept : (s cal meas : List ℕ) (b : ℕ) → consistent s ≡ true → Bytes s → b < 256 → ((session_of s).opened ≡ true → (session_of s).unlocked Lists ≡ false)
      → ends_at (v.receive s cal meas b) s b ≡ false → SettingsKept (session_of s) (session_of (v.receive s cal meas b).state)
  pub fresh : (s cal meas : List ℕ) (b : ℕ) → consistent s ≡ true → Bytes s → b < 256 → ((session_of s).opened ≡ true → (session_of s).unlocked Lists ≡ false)
      → ends_at (v.receive s cal meas b) s b ≡ true → Fresh (session_of s) (session_of (v.receive s cal meas b).state)
  -- an event and a slot, at any time
  pub event : (s cal meas : List ℕ) (number clock : ℕ) → SettingsKept (session_of s) (session_of (v.event s cal meas number clock).state)
  pub slot : (s out : List ℕ) → SettingsKept (session_of s) (session_of (v.slot s out).state)
