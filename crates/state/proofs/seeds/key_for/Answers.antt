use Prim.{tt}
use Rattle.std.proofs.Common.{◌∙◌, mod-lt, lit<}
use Rattle.state.proofs.Rotated.{rotated}
use Rattle.state.specs.Generator.{key_of}
use Rattle.state.proofs.seeds.key_for.Goals as goal

pub returns : goal.returns
unfolding key_of
returns c = c.rotate_left.ensures ∙ rotated _ (mod-lt _ (lit< tt)) ∙ rw c.addend_for.ensures
