use Rattle.std.proofs.Common.{◌≡◌, ◌-◌, ◌<◌, ◌≤◌}
use Rattle.state.specs.Layout.{all_odts}
use Rattle.state.specs.Pool.{first_odt}
use Rattle.model.specs.Calls.{packet_in, round_from, round_in}
use Rattle.model.specs.View.{session_of}
use Rattle.lists.proofs.slots.round.Given as goal

abbrev pub invariant-loop : goal.invariant-loop
invariant-loop l = (round_from l.count (packet_in (session_of l.s)) l.l (l.count - l.counter) ≡ round_in (session_of l.s)) × (l.k ≡ first_odt l.s l.l) × (l.k ≤ all_odts) × (0 < l.count → l.l < l.count)
