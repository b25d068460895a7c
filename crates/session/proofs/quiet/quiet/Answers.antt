use Rattle.std.proofs.Common.{arith, refl, sym, ◌∙◌}
use Rattle.session.proofs.quiet.quiet.Goals as goal

pub within-requires : goal.within-requires
within-requires c = (refl, c.if-tag-eq0.false, c.if-tag-gt2.false, refl, omega (arith, c.if-k-eq0.false), sym c.goes_on.ensures ∙ c.if-goes_on.true)
