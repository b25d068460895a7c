use Rattle.std.proofs.Common.{◌≡◌, ◌+◌, ◌%◌, take, length}
use Rattle.line.specs.Stuffing.{stuff}
use Rattle.line.specs.Message.{sum as total}
use Rattle.line.specs.Writer.{Stored}
use Rattle.line.proofs.writer.stuff_packet.Given as goal

abbrev pub invariant-loop-i : goal.invariant-loop-i
invariant-loop-i l =
    Stored l.initial.out l.initial.at (stuff (take l.i l.packet)) l.out l.at × (l.sum ≡ (l.before + total (take l.i l.packet)) % 256)
