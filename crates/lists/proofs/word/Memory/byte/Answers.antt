use Rattle.std.proofs.Common.{le-ltb, lt-ltb}
use Rattle.state.specs.Memory.{byte_of}
use Rattle.lists.proofs.word.Memory.byte.Goals as goal

pub returns-then-at-self : goal.returns-then-at-self
unfolding byte_of
returns-then-at-self c = simp (← c.args.self.now.reached, lt-ltb _ _ c.if-at-self.true)

pub returns-else-at-self : goal.returns-else-at-self
unfolding byte_of
returns-else-at-self c = simp (← c.args.self.now.reached, le-ltb _ _ c.if-at-self.false)
