-- The paper's number for each answer of the line.
use Rattle.std.specs.Prelude.{ℕ, Some, None, Ok, Err}
use Rattle.line.specs.Values.{Outcome, Written}
use Rattle.line.specs.declared.Fault.TheVariants.{BadLength, BadEscape, BadChecksum, CutOff, ShortBuffer}
use Rattle.line.specs.declared.Unwritten.TheVariants.{BadLength as BadPacket, NoRoom}

-- a received byte; a good message is 1 here, and the session makes 1, 2 or 6 of it
abbrev pub outcome_number : Outcome → ℕ
outcome_number (Ok None) = 0
outcome_number (Ok (Some good)) = 1
outcome_number (Err BadLength) = 3
outcome_number (Err BadEscape) = 4
outcome_number (Err BadChecksum) = 5
outcome_number (Err CutOff) = 7
outcome_number (Err ShortBuffer) = 10

-- a packet to send
abbrev pub written_number : Written → ℕ
written_number (Ok size) = 0
written_number (Err BadPacket) = 3
written_number (Err NoRoom) = 9
