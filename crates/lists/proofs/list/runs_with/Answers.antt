use Rattle.std.proofs.Common.{sym, ◌∙◌, arith}
use Rattle.state.proofs.Allocated.{lists_most}
use Rattle.lists.proofs.Sampled.{none_runs, some_runs_lem}
use Rattle.lists.proofs.list.runs_with.Goals as goal

pub returns-then-odts-eq0 : goal.returns-then-odts-eq0
returns-then-odts-eq0 c = sym (none_runs c.args.s.now c.args.l c.requires.0 (sym c.requires.1 ∙ c.if-odts-eq0.true))

pub started-requires : goal.started-requires
started-requires c = omega (arith, c.requires.0, lists_most c.args.s.now)

pub returns : goal.returns
returns c = sym (some_runs_lem c.args.s.now c.args.l c.requires.0 (omega (arith, c.requires.1, c.if-odts-eq0.false)) c.started.result c.started.ensures)
