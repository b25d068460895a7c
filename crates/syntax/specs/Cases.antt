-- What a line asks for. A case is a title, its steps, one at least, and an empty line or the sheet's end.
use Rattle.std.specs.Prelude.{ℕ, Result, Ok, Err}
use Rattle.syntax.specs.declared.Step.{Step}
use Rattle.syntax.specs.declared.Fault.{Fault}
use Rattle.syntax.specs.declared.Fault.TheVariants as fault
use Rattle.syntax.specs.declared.Line.TheVariants as line
use Rattle.syntax.specs.declared.Case.{Case}
use Rattle.syntax.specs.declared.Case.TheVariants.{Closed, Titled, Stepped}
use Rattle.syntax.specs.declared.Turn.{Turn}
use Rattle.syntax.specs.declared.Turn.TheVariants as turn
use Rattle.syntax.specs.declared.Stop.{Stop}
use Rattle.syntax.specs.Form.{Read}

abbrev pub Asked : Type 0
Asked = Result Turn Stop

-- what is wrong, in line n, at its place k
abbrev pub stops : Fault → ℕ → ℕ → Asked
stops f n k = Err (record { fault = f; line = n; at = k })

-- an empty line, or the sheet's end; of a case without a step its title's line is named
abbrev pub empty_turn : Case → Asked
empty_turn Closed = Ok turn.Pass
empty_turn (Titled at) = stops fault.Stepless at 0
empty_turn Stepped = Ok turn.End

-- a title, in line n
abbrev pub title_turn : Case → ℕ → Asked
title_turn Closed n = Ok turn.Begin
title_turn (Titled at) n = stops fault.Stepless at 0
title_turn Stepped n = stops fault.Unended n 0

-- a step with b bytes and m to expect, in line n
abbrev pub step_turn : Case → Step → ℕ → ℕ → ℕ → Asked
step_turn Closed step b m n = stops fault.Untitled n 0
step_turn (Titled at) step b m n = Ok (turn.Run step b m)
step_turn Stepped step b m n = Ok (turn.Run step b m)

-- line n of a sheet
abbrev pub turn_of : Case → Read → ℕ → Asked
turn_of now (Ok line.Empty) n = empty_turn now
turn_of now (Ok line.Title) n = title_turn now n
turn_of now (Ok (line.Does step b m)) n = step_turn now step b m n
turn_of now (Err wrong) n = stops wrong.fault n wrong.at
