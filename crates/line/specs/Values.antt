-- What a received byte ends, and what becomes of a packet to send.
use Rattle.std.specs.Prelude.{ℕ, Option, Some, Result, Ok}
use Rattle.line.specs.declared.Message.{Message}
use Rattle.line.specs.declared.Fault.{Fault}
use Rattle.line.specs.declared.Unwritten.{Unwritten}

-- a good message, no message yet, or why one is dropped
abbrev pub Outcome : Type 0
Outcome = Result (Option Message) Fault

abbrev pub good_message : ℕ → ℕ → ℕ → Outcome
good_message ctr at len = Ok (Some (record { ctr = ctr; at = at; len = len }))

-- the size of the frame, or why there is none
abbrev pub Written : Type 0
Written = Result ℕ Unwritten
