-- A deed as the checks answer it: a refusal is an error, with its reason; any other is what to do.
use Rattle.std.specs.Prelude.{Result, Ok, Err}
use Rattle.words.specs.declared.Reason.{Reason}
use Rattle.model.specs.declared.Deed.{Deed}
use Rattle.model.specs.declared.Deed.TheVariants.{Refuse}

abbrev pub judged : Deed → Result Deed Reason
judged (Refuse r) = Err r
judged d = Ok d
