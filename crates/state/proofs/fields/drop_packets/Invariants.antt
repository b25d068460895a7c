use Rattle.std.proofs.Common.{◌≡◌}
use Rattle.state.specs.State.{dropped}
use Rattle.state.proofs.fields.drop_packets.Given as goal

abbrev pub invariant-loop-j : goal.invariant-loop-j
invariant-loop-j l = l.s ≡ dropped l.initial.s l.k l.j
