use Rattle.std.proofs.Common.{arith, eq-eqb, ne_eqb}
use Rattle.state.proofs.Allocated.{lists_most}
use Rattle.model.proofs.Shown.{fits_at}
use Rattle.lists.proofs.list.fit.Goals as goal

pub mode-requires : goal.mode-requires
mode-requires c = omega (arith, c.requires.0, lists_most c.args.s.now)

pub returns-then-mode-eq0 : goal.returns-then-mode-eq0
returns-then-mode-eq0 c = rw (fits_at c.args.s.now c.args.l c.requires.0) (simp (eq-eqb _ _ c.if-mode-eq0.true, ← c.mode.ensures.0))

pub returns : goal.returns
returns c = rw (fits_at c.args.s.now c.args.l c.requires.0) (simp (ne_eqb _ _ c.if-mode-eq0.false, ← c.mode.ensures.0) c.odts_fit.ensures)
