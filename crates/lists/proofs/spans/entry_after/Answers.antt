use Rattle.std.proofs.Common.{◌≡◌, suc, ◌+◌, arith}
use Rattle.state.proofs.Allocated.{entry_next}
use Rattle.lists.proofs.spans.entry_after.Goals as goal

pub loop-o-preserved : goal.loop-o-preserved
loop-o-preserved c = let i : c.args.span.odt + (c.loop-o.o + 1) ≡ suc (c.args.span.odt + c.loop-o.o) = omega arith in (rw i (omega (arith, c.entries_in-first.ensures.0, c.loop-o.invariant.0, entry_next c.args.s.now (c.args.span.odt + c.loop-o.o))), omega (arith, c.entries_in-first.ensures.1))
