-- Each answer of a call has a number of its own, but for those that document 01 gives one; so has each reason of a refusal its code. Assumes nothing.
use Rattle.std.proofs.Common.{◌≡◌, ℕ, cond, Some, None, Ok, Err, eqb, refl, sym, ap, ◌∙◌}
use Rattle.words.specs.Command.{code_of}
use Rattle.words.specs.Number.{received_number, evented_number, slotted_number, powered_up_number}
use Rattle.words.specs.Values.{Received, Evented, Slotted, PoweredUp, no_state, event_done}
use Rattle.words.specs.declared.Reason.{Reason}
use Rattle.words.specs.declared.Reason.TheVariants.{Unknown, TooShort, Locked, Sequence, OutOfRange, DataMissing, ListRuns, ReadOnly, NotInside, CannotStart, PoolFull, WrongKey}
use Rattle.words.specs.declared.EventRefusal.TheVariants as event
use Rattle.words.specs.declared.Heard.TheVariants.{Nothing, Answered, Silent, BadLength, BadEscape, BadChecksum, Unread, CutOff}
use Rattle.words.specs.declared.SlotRefusal.TheVariants as slot
use Rattle.demands.specs.Numbers.{event_sort, slot_sort, reason_sort}

-- what can be told from its number is the same where the numbers are
told : {A : Type 0} (number : A → ℕ) (sort : A → A) (tell : ℕ → A) → ((a : A) → tell (number a) ≡ sort a) → (a b : A) → number a ≡ number b → sort a ≡ sort b
told number sort tell back a b e = sym (back a) ∙ ap tell e ∙ back b

-- ---- a received byte: no two share a number
heard_as : ℕ → Received
heard_as n =
    cond (eqb n 1) (Ok Answered)
    (cond (eqb n 2) (Ok Silent)
    (cond (eqb n 3) (Ok BadLength)
    (cond (eqb n 4) (Ok BadEscape)
    (cond (eqb n 5) (Ok BadChecksum)
    (cond (eqb n 6) (Ok Unread)
    (cond (eqb n 7) (Ok CutOff)
    (cond (eqb n 10) (Err no_state) (Ok Nothing))))))))

heard_back : (r : Received) → heard_as (received_number r) ≡ r
unfolding heard_as
heard_back (Ok Nothing) = refl
heard_back (Ok Answered) = refl
heard_back (Ok Silent) = refl
heard_back (Ok BadLength) = refl
heard_back (Ok BadEscape) = refl
heard_back (Ok BadChecksum) = refl
heard_back (Ok Unread) = refl
heard_back (Ok CutOff) = refl
heard_back (Err _) = refl

pub received_told : (r r' : Received) → received_number r ≡ received_number r' → r ≡ r'
received_told = told received_number (λ r. r) heard_as heard_back

-- ---- an event: done, whatever its counts, is 0
event_as : ℕ → Evented
event_as n = cond (eqb n 8) (Err event.BadEvent) (cond (eqb n 10) (Err event.NoState) (event_done 0 0))

event_back : (r : Evented) → event_as (evented_number r) ≡ event_sort r
unfolding event_as
event_back (Ok counted) = refl
event_back (Err event.BadEvent) = refl
event_back (Err event.NoState) = refl

pub evented_told : (r r' : Evented) → evented_number r ≡ evented_number r' → event_sort r ≡ event_sort r'
evented_told = told evented_number event_sort event_as event_back

-- ---- a slot: with a frame or without, it is 0; the size tells which
slot_as : ℕ → Slotted
slot_as n = cond (eqb n 9) (Err slot.NoRoom) (cond (eqb n 10) (Err slot.NoState) (Ok None))

slot_back : (r : Slotted) → slot_as (slotted_number r) ≡ slot_sort r
unfolding slot_as
slot_back (Ok None) = refl
slot_back (Ok (Some n)) = refl
slot_back (Err slot.NoRoom) = refl
slot_back (Err slot.NoState) = refl

pub slotted_told : (r r' : Slotted) → slotted_number r ≡ slotted_number r' → slot_sort r ≡ slot_sort r'
slotted_told = told slotted_number slot_sort slot_as slot_back

-- ---- power-up
power_as : ℕ → PoweredUp
power_as n = cond (eqb n 10) (Err no_state) (Ok tt)

power_back : (r : PoweredUp) → power_as (powered_up_number r) ≡ r
unfolding power_as
power_back (Ok _) = refl
power_back (Err _) = refl

pub powered_up_told : (r r' : PoweredUp) → powered_up_number r ≡ powered_up_number r' → r ≡ r'
powered_up_told = told powered_up_number (λ r. r) power_as power_back

-- ---- the reasons of a refusal: a packet too short and bytes missing in it share 0x21, a lock and a wrong key share 0x25
reason_as : ℕ → Reason
reason_as n =
    cond (eqb n 0x20) Unknown
    (cond (eqb n 0x21) TooShort
    (cond (eqb n 0x25) Locked
    (cond (eqb n 0x29) Sequence
    (cond (eqb n 0x22) OutOfRange
    (cond (eqb n 0x11) ListRuns
    (cond (eqb n 0x23) ReadOnly
    (cond (eqb n 0x24) NotInside
    (cond (eqb n 0x2A) CannotStart PoolFull))))))))

reason_back : (r : Reason) → reason_as (code_of r) ≡ reason_sort r
unfolding reason_as
reason_back Unknown = refl
reason_back TooShort = refl
reason_back Locked = refl
reason_back Sequence = refl
reason_back OutOfRange = refl
reason_back DataMissing = refl
reason_back ListRuns = refl
reason_back ReadOnly = refl
reason_back NotInside = refl
reason_back CannotStart = refl
reason_back PoolFull = refl
reason_back WrongKey = refl

pub code_told : (r r' : Reason) → code_of r ≡ code_of r' → reason_sort r ≡ reason_sort r'
code_told = told code_of reason_sort reason_as reason_back
