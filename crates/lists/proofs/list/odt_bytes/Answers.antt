use Rattle.std.proofs.Common.{◌≡◌, ℕ, ◌+◌, sym, refl, ap, ◌∙◌, add-one, arith}
use Rattle.state.specs.Layout.{entries_at}
use Rattle.state.specs.Lists.{size_of, size_at}
use Rattle.model.specs.Model.{sizes_of}
use Rattle.model.proofs.Shown.{sizes_next}
use Rattle.lists.proofs.list.odt_bytes.Goals as goal

pub loop-e-init : goal.loop-e-init
unfolding sizes_of
loop-e-init c = (refl, omega arith)

pub loop-e-preserved : goal.loop-e-preserved
unfolding size_of
loop-e-preserved c =
    let z : size_of c.args.s.now c.args.k c.loop-e.e ≡ c.entry_size.result = sym (c.entry_size.ensures.0 ∙ ap (size_at c.args.s.now) (c.entries_at.ensures ∙ ap (λ (i : ℕ). entries_at (i + c.loop-e.e)) c.requires.0)) in
    (rw (add-one c.loop-e.e, sizes_next c.args.s.now c.args.k c.loop-e.e (omega (arith, c.requires.1)), z, c.loop-e.invariant.0), omega (arith, c.entry_size.ensures.1, c.loop-e.invariant.1))
