-- Apart from a wrong key, which ends the session and is counted, a refused command changes no memory byte, setting, list or lock.
use Rattle.std.specs.Prelude.{ℕ, ◌≡◌, ◌≢◌, true, false, List}
use Rattle.state.specs.Layout.{place_at, answer_at, session_at}
use Rattle.state.specs.State.{consistent, counted_wrong, closed}
use Rattle.model.specs.Model.{byte}
use Rattle.model.specs.View.{session_of, view_of}
use Rattle.words.specs.Number.{received_number}
use Rattle.demands.specs.Slave.{AnySlave}
use Rattle.demands.specs.Heard.{read_by, Commands, wrong_key, wrong_key_at}
use Rattle.demands.specs.Waiting.{SameOutside}

-- a received byte changes only the state's bytes from lo up to hi, and no calibration byte
pub record ChangesOnly (lo hi : ℕ) (v : AnySlave) (s cal meas : List ℕ) (b : ℕ) : Type 0 where
  pub state : SameOutside lo hi s (v.receive s cal meas b).state
  pub memory : (v.receive s cal meas b).cal ≡ cal

-- byte b ends a command that is answered FE
pub record Refused (v : AnySlave) (s cal meas : List ℕ) (b : ℕ) : Type 0 where
  pub answered : received_number (v.receive s cal meas b).received ≡ 1
  pub begins : byte (view_of (v.receive s cal meas b).state).answer 0 ≡ 0xFE

pub record Refusals (v : AnySlave) : Type 0 where
  -- a refused command, a wrong key apart, changes the reader's place and the answer alone
  pub refused : (s cal meas : List ℕ) (b : ℕ) → consistent s ≡ true → Refused v s cal meas b → wrong_key_at s b ≡ false → ChangesOnly place_at session_at v s cal meas b
  -- after a wrong key every state byte but the answer is DISCONNECT's, which closes the session, and one wrong key more is counted, at most three; and no
  -- memory byte has changed
  pub wrong_key_ends : (s cal meas : List ℕ) (b : ℕ) (p : List ℕ) → consistent s ≡ true → Commands s b p → wrong_key p (session_of s) ≡ true
      → SameOutside answer_at session_at (counted_wrong (closed (read_by s b))) (v.receive s cal meas b).state × ((v.receive s cal meas b).cal ≡ cal)
  -- the numbers 0 and 2 to 7 of a byte change the reader's place alone
  pub unanswered : (s cal meas : List ℕ) (b : ℕ) → consistent s ≡ true → received_number (v.receive s cal meas b).received ≢ 1 → ChangesOnly place_at answer_at v s cal meas b
