use Rattle.state.specs.Memory.{bytes_of}
use Rattle.lists.proofs.events.take_entry.Goals as goal

pub returns-then-n-eq0 : goal.returns-then-n-eq0
unfolding bytes_of
returns-then-n-eq0 c = rw c.if-n-eq0.true
