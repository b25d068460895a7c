-- The frame that a slot writes.
use Rattle.std.specs.Prelude.{ℕ, List, [], take, Some, None, Ok, Err}
use Rattle.words.specs.Values.{Slotted}

-- of what a slot leaves in the lent bytes: its frame, if it sent one
abbrev pub frame_in : Slotted → List ℕ → List ℕ
frame_in (Ok (Some n)) out = take n out
frame_in (Ok None) out = []
frame_in (Err refusal) out = []
