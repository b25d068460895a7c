use Rattle.std.proofs.Common.{arith, ◌∙◌, le-leb}
use Rattle.model.specs.Judge.{alloc_entries_deed}
use Rattle.model.proofs.Shown.{no_list_lem}
use Rattle.look.proofs.alloc_entries.Goals as goal

pub returns-then-list_count-l : goal.returns-then-list_count-l
unfolding alloc_entries_deed
returns-then-list_count-l c = c.alloc_entries.ensures ∙ rw (no_list_lem c.args.s.now c.args.l (omega (arith, c.list_count.ensures.0, c.if-list_count-l.true)), ← c.odt_total-all.ensures.0, le-leb 0 c.args.odt (omega arith))
