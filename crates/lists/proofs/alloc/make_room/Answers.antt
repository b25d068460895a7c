use Rattle.std.proofs.Common.{◌≡◌, ◌+◌, ◌*◌, ◌∙◌, arith}
use Rattle.state.specs.Layout.{entries_at}
use Rattle.lists.specs.Alloc.{room_made}
use Rattle.lists.proofs.alloc.make_room.Goals as goal

pub returns : goal.returns
unfolding room_made
returns c = let e : entries_at c.args.i + 2 * c.args.n ≡ entries_at (c.args.i + c.args.n) = omega arith in c.clear.ensures ∙ rw (c.shift.ensures, c.bytes_behind.ensures, c.entries_at-at.ensures, e)
