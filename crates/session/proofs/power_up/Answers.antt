use Rattle.std.proofs.Common.{refl, subst, ◌∙◌, ◌<◌, lt_irrefl, eq-eqb, ne_eqb}
use Rattle.state.specs.Layout.{size}
use Rattle.session.specs.PowerUp.{power_up_of}
use Rattle.lists.proofs.Named.{rest_none}
use Rattle.session.proofs.power_up.Goals as goal

pub returns-then-state-ne-STATE_SIZE : goal.returns-then-state-ne-STATE_SIZE
unfolding power_up_of
returns-then-state-ne-STATE_SIZE c = simp (ne_eqb _ _ c.if-state-ne-STATE_SIZE.true) (record { result = refl; state = refl })

pub returns-in_default : goal.returns-in_default
returns-in_default c = absurd (lt_irrefl size (subst (λ n. n < size) c.if-state-ne-STATE_SIZE.false c.in_default.ensures.cases))

pub returns : goal.returns
unfolding power_up_of
returns c =
    let whole = c.if-state-ne-STATE_SIZE.false in
    simp (eq-eqb _ _ whole) (record { result = refl; state = rest_none c.args.state.now c.in-Some._rest.now c.write_all.new.s whole c.in-Some.ensures.cases.1 ∙ c.write_all.ensures })
