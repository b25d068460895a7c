-- Runs: calls in any order, folded over a slave.
use Rattle.std.specs.Prelude.{ℕ, suc, ◌<◌, ◌≡◌, Bool, false, cond, List, [], ◌∷◌, ◌++◌, leb, length, take, Some, None, Ok, Err}
use Rattle.line.specs.Message.{room}
use Rattle.model.specs.Model.{Bytes}
use Rattle.words.specs.Values.{Slotted}
use Rattle.demands.specs.Slave.{AnySlave}

-- a call: a byte or an event, with the calibration and the measured memory that are lent to it; a slot, with the bytes lent to it; or any
-- call on another buffer, of the wrong size or without the mark
pub data Call : Type 0 where
  Byte : (cal meas : List ℕ) (b : ℕ) → Call
  Event : (cal meas : List ℕ) (event clock : ℕ) → Call
  SendingSlot : (out : List ℕ) → Call
  Elsewhere : Call

abbrev pub after_call : AnySlave → List ℕ → Call → List ℕ
after_call v s (Byte cal meas b) = (v.receive s cal meas b).state
after_call v s (Event cal meas event clock) = (v.event s cal meas event clock).state
after_call v s (SendingSlot out) = (v.slot s out).state
after_call v s Elsewhere = s

abbrev pub run : AnySlave → List ℕ → List Call → List ℕ
run v s [] = s
run v s (c ∷ cs) = run v (after_call v s c) cs

-- the frame that a slot sent: the first bytes of what was lent
abbrev pub frame_sent : Slotted → List ℕ → List (List ℕ)
frame_sent (Ok None) out = []
frame_sent (Ok (Some n)) out = take n out ∷ []
frame_sent (Err refusal) out = []

abbrev pub sends : AnySlave → List ℕ → Call → List (List ℕ)
sends v s (Byte cal meas b) = []
sends v s (Event cal meas event clock) = []
sends v s (SendingSlot out) = frame_sent (v.slot s out).slotted (v.slot s out).out
sends v s Elsewhere = []

-- what each call of a run gives, one after the other
abbrev pub each : (List ℕ → Call → List (List ℕ)) → AnySlave → List ℕ → List Call → List (List ℕ)
each give v s [] = []
each give v s (c ∷ cs) = give s c ++ each give v (after_call v s c) cs

abbrev pub frames : AnySlave → List ℕ → List Call → List (List ℕ)
frames v s cs = each (sends v) v s cs

-- how many slots count: those that are lent the room of the longest frame
abbrev pub one_more : Bool → ℕ → ℕ
one_more enough n = cond enough (suc n) n

abbrev pub slots : List Call → ℕ
slots [] = 0
slots (Byte cal meas b ∷ cs) = slots cs
slots (Event cal meas event clock ∷ cs) = slots cs
slots (SendingSlot out ∷ cs) = one_more (leb room (length out)) (slots cs)
slots (Elsewhere ∷ cs) = slots cs

-- the bytes that are received
abbrev pub received : List Call → List ℕ
received [] = []
received (Byte cal meas b ∷ cs) = b ∷ received cs
received (Event cal meas event clock ∷ cs) = received cs
received (SendingSlot out ∷ cs) = received cs
received (Elsewhere ∷ cs) = received cs

-- what is lent to the calls, and received, is of bytes
abbrev pub LentBytes : List Call → Type 0
LentBytes [] = Unit {0}
LentBytes (Byte cal meas b ∷ cs) = Bytes cal × Bytes meas × (b < 256) × LentBytes cs
LentBytes (Event cal meas event clock ∷ cs) = Bytes cal × Bytes meas × LentBytes cs
LentBytes (SendingSlot out ∷ cs) = LentBytes cs
LentBytes (Elsewhere ∷ cs) = LentBytes cs

-- the test holds at no byte of the run, of the state as it then is and with the memories lent to that call
abbrev pub Never : (List ℕ → List ℕ → List ℕ → ℕ → Bool) → AnySlave → List ℕ → List Call → Type 0
Never test v s [] = Unit {0}
Never test v s (Byte cal meas b ∷ cs) = (test s cal meas b ≡ false) × Never test v (after_call v s (Byte cal meas b)) cs
Never test v s (Event cal meas event clock ∷ cs) = Never test v (after_call v s (Event cal meas event clock)) cs
Never test v s (SendingSlot out ∷ cs) = Never test v (after_call v s (SendingSlot out)) cs
Never test v s (Elsewhere ∷ cs) = Never test v s cs
