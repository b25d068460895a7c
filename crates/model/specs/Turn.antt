-- Whose frame a slot sends, if it sends one.
use Rattle.std.specs.Prelude.{Option}
use Rattle.model.specs.declared.Sender.{Sender}

abbrev pub Turn : Type 0
Turn = Option Sender
