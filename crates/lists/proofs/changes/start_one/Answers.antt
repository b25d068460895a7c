use Rattle.state.proofs.Allocated.{lists_most}
use Rattle.std.proofs.Common.{arith}
use Rattle.lists.proofs.changes.start_one.Goals as goal

pub selected-requires : goal.selected-requires
selected-requires c = omega (arith, c.requires, lists_most c.args.s.now)
