-- A command that is taken, in the words of the model: what the laws of document 01's list of commands are over.
use Rattle.std.specs.Prelude.{ℕ, ◌<◌, ◌≡◌, true, List, Some}
use Rattle.state.specs.State.{consistent}
use Rattle.words.specs.Number.{received_number}
use Rattle.model.specs.Model.{Bytes, Session}
use Rattle.model.specs.Answers.{Done}
use Rattle.model.specs.View.{session_of, shown}
use Rattle.demands.specs.Slave.{AnySlave}
use Rattle.demands.specs.Heard.{packet_ended}

-- a byte ends packet p and returns 1, in a consistent state of bytes that shows session c, with memories cal and meas lent; what is shown then is o
pub record Obeyed (v : AnySlave) (p : List ℕ) (c : Session) (cal meas : List ℕ) (o : Done) : Type 0 where
  pub state : List ℕ
  pub last : ℕ
  pub sound : consistent state ≡ true
  pub bytes : Bytes state
  pub low : last < 256
  pub ends : packet_ended state last ≡ Some p
  pub taken : received_number (v.receive state cal meas last).received ≡ 1
  pub before : c ≡ session_of state
  pub leaves : o ≡ shown (v.receive state cal meas last).state (v.receive state cal meas last).cal
