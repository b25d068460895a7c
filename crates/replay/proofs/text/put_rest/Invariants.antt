-- What is written and what is left give the whole.
use Rattle.std.proofs.Common.{◌≡◌, ◌+◌, ◌*◌, length, drop}
use Rattle.std.proofs.lemmas.List.Edits.{sets}
use Rattle.replay.specs.Text.{rest_of}
use Rattle.replay.proofs.text.put_rest.Given as goal

abbrev pub invariant-loop-byte : goal.invariant-loop-byte
invariant-loop-byte l =
    (l.to ≡ l.at + 3 * l.byte-index) × (sets l.out l.to (rest_of (drop l.byte-index l.bytes)) ≡ sets l.initial.out l.at (rest_of l.bytes)) × (length l.out ≡ length l.initial.out)
