use Rattle.replay.proofs.Lines.{line_none, line_cons}
use Rattle.replay.proofs.text.put_line.Goals as goal

pub returns-in_default : goal.returns-in_default
returns-in_default c = line_none _ _ _ c.in_default.ensures.cases

pub returns : goal.returns
returns c = rw c.in-Some.ensures.cases.0 (line_cons c.in-Some.first.now c.in-Some.rest.now _ _ _ _ _ c.put_byte.ensures c.put_rest.ensures)
