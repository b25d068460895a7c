use Rattle.session.specs.Quiet.{Skips}
use Rattle.session.proofs.slice.skip.Given as goal

abbrev pub invariant-loop-i : goal.invariant-loop-i
invariant-loop-i l = Skips l.bytes 0 l.from l.i
