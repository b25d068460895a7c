use Rattle.std.proofs.Common.{sym, ◌∙◌, arith}
use Rattle.state.proofs.Allocated.{lists_most}
use Rattle.lists.proofs.Sampled.{runs_by}
use Rattle.lists.proofs.list.runs.Goals as goal

pub started-requires : goal.started-requires
started-requires c = omega (arith, c.requires, lists_most c.args.s.now)

pub returns-then-not-started : goal.returns-then-not-started
returns-then-not-started c = sym (runs_by c.args.s.now c.args.l c.requires c.started.result c.started.ensures ∙ rw c.if-not-started.true)

pub first_odt-first-requires : goal.first_odt-first-requires
first_odt-first-requires c = omega (arith, c.requires, lists_most c.args.s.now)

pub odts_in-requires : goal.odts_in-requires
odts_in-requires c = (omega (arith, c.requires, lists_most c.args.s.now), c.first_odt-first.ensures.0, c.first_odt-first.ensures.1)

pub returns : goal.returns
returns c = rw c.odts_in.ensures.0 (sym (runs_by c.args.s.now c.args.l c.requires c.started.result c.started.ensures ∙ rw c.if-not-started.false))
