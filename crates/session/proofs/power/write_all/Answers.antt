use Rattle.std.proofs.Common.{ℕ, ◌≡◌, ap, ◌∙◌, replicate}
use Rattle.state.specs.Layout.{size}
use Rattle.session.specs.PowerUp.{powered}
use Rattle.session.proofs.power.write_all.Goals as goal

pub returns : goal.returns
unfolding powered
returns c =
    let zeros : c.fill.new.self ≡ replicate size 0 = c.fill.ensures.after (λ (y : ℕ) e. e) ∙ ap (λ (n : ℕ). replicate n 0) c.told-s in
    c.set_generator.ensures ∙ rw (c.new.ensures, c.store32.ensures, zeros)
