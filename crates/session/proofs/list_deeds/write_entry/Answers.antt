use Rattle.std.proofs.Common.{arith}
use Rattle.judge.proofs.Entered.{entered}
use Rattle.session.proofs.list_deeds.write_entry.Goals as goal

pub next_entry-next-requires : goal.next_entry-next-requires
next_entry-next-requires c = let there = entered c.args.s.now c.args.l c.args.odt c.args.e c.requires in (rw (c.entries.ensures.1, c.odts.ensures.0) there.2, omega (arith, c.entries.ensures.2))
