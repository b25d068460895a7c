-- Each refusal has one fixed number: every command that is heeded, known or not, is answered FE and the code of its first fault in the customer's table
-- of checks, and is done exactly if it has none. A wrong key, SYNCH and a slave that stays shut are rows of that table.
use Rattle.std.specs.Prelude.{ℕ, ◌≤◌, ◌≡◌, true, false, List, length, Some}
use Rattle.state.specs.State.{consistent}
use Rattle.model.specs.Model.{byte, has_answer}
use Rattle.model.specs.View.{session_of, view_of}
use Rattle.views.specs.Faults.{AnswersFirst}
use Rattle.demands.specs.Slave.{AnySlave}
use Rattle.demands.specs.Heard.{packet_ended, Commands}

pub record Checked (v : AnySlave) : Type 0 where
  -- in an open session every command is heeded
  pub answers : (s cal meas : List ℕ) (b : ℕ) (p : List ℕ) → consistent s ≡ true → Commands s b p
      → AnswersFirst p (session_of s) (length cal) (length meas) (view_of (v.receive s cal meas b).state).answer
  -- without a session CONNECT with no fault is, and is done
  pub connect_done : (s cal meas : List ℕ) (b : ℕ) (p : List ℕ) → consistent s ≡ true → packet_ended s b ≡ Some p → (session_of s).opened ≡ false → has_answer (view_of s) ≡ false
      → byte p 0 ≡ 0xFF → 2 ≤ length p → byte p 1 ≡ 0 → byte (view_of (v.receive s cal meas b).state).answer 0 ≡ 0xFF
