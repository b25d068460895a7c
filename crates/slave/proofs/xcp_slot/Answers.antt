use Rattle.std.proofs.Common.{sym, subst}
use Rattle.lists.specs.Slot.{Small}
use Rattle.lists.proofs.Sizes.{slot_small}
use Rattle.slave.proofs.xcp_slot.Goals as goal

pub slotted-requires : goal.slotted-requires
slotted-requires c = subst Small (sym c.slot.ensures.result) (slot_small c.args.state.now c.args.out.now)
