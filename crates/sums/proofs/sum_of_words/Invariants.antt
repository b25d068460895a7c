use Rattle.sums.proofs.InLanes.{Lanes}
use Rattle.sums.proofs.sum_of_words.Given as goal

abbrev pub invariant-loop-i : goal.invariant-loop-i
invariant-loop-i l = Lanes l.part l.i l.evens l.uppers
