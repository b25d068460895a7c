use Rattle.std.proofs.Common.{◌≡◌, suc, ◌+◌, ◌-◌, ◌*◌, ap, ◌∙◌, arith}
use Rattle.state.specs.Layout.{all_entries, entry_size}
use Rattle.state.specs.Pool.{first_odt, first_entry, entries_in}
use Rattle.state.proofs.Ranges.{start_mono}
use Rattle.state.proofs.Allocated.{odt_next}
use Rattle.lists.specs.Lists.{list_cleared, entries_of_list}
use Rattle.lists.proofs.changes.clear_list.Goals as goal

pub overflow_sub-entries_at : goal.overflow_sub-entries_at
overflow_sub-entries_at c = omega (arith, c.entries_at-at.ensures, c.entries_at.ensures, c.span-span.ensures.2, c.entries-end.ensures.0, start_mono all_entries (entries_in c.args.s.now) c.span-span.result.odt (c.span-span.result.odt + c.span-span.result.odts) (omega arith))

pub returns : goal.returns
unfolding list_cleared
returns c = let f : c.span-span.result.odt + c.span-span.result.odts ≡ first_odt c.args.s.now (suc c.args.l) = omega (arith, c.span-span.ensures.0, c.span-span.ensures.1, odt_next c.args.s.now c.args.l) in let i : c.span-span.result.entry ≡ first_entry c.args.s.now (first_odt c.args.s.now c.args.l) = c.span-span.ensures.2 ∙ ap (first_entry c.args.s.now) c.span-span.ensures.0 in let j : c.entries-end.result.first ≡ first_entry c.args.s.now (first_odt c.args.s.now (suc c.args.l)) = c.entries-end.ensures.0 ∙ ap (first_entry c.args.s.now) f in let e : c.entries_at.result - c.entries_at-at.result ≡ entry_size * entries_of_list c.args.s.now c.args.l = omega (arith, c.entries_at-at.ensures, c.entries_at.ensures, i, j) in c.clear-2.ensures ∙ rw (e, c.clear.ensures, c.mode_at.ensures, c.entries_at-at.ensures, i)
