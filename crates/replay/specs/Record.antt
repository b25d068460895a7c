-- One record of a log: body length (2 bytes), kind (2 bytes), body.
use Rattle.std.specs.Prelude.{ℕ, ◌+◌, ◌-◌, ◌≤◌, Bool, true, false, cond, Result, Ok, Err, List, length, ◌==◌, nat_le, nat_lt, slice_index}
use Rattle.state.specs.Bytes.{u16_at}
use Rattle.replay.specs.declared.record.Record.{Record}
use Rattle.replay.specs.declared.record.Record.TheVariants.{Wire, Event, Slot, Measured}
use Rattle.replay.specs.declared.record.Halt.{Halt}
use Rattle.replay.specs.declared.record.Halt.TheVariants.{End, More, Bad}

-- a record, or why none is run
abbrev pub Found : Type 0
Found = Result Record Halt

abbrev pub header : ℕ
header = 4

abbrev pub longest_body : ℕ
longest_body = 256

abbrev pub memory : ℕ
memory = 4096

-- kind 1: wire bytes; 2: event byte and clock; 3: slot, empty; 4: offset, then measured bytes
unfoldable pub fits_of : ℕ → ℕ → Bool
fits_of kind n =
    cond (kind == 1) true
    (cond (kind == 2) (n == 3)
    (cond (kind == 3) (n == 0)
    (cond (kind == 4) (nat_le 2 n) false)))

-- offset plus count above 4,096 is bad
unfoldable pub measured_of : List ℕ → ℕ → ℕ → Found
measured_of s from n =
    cond (nat_lt memory (u16_at s from + (n - 2))) (Err Bad)
    (Ok (Measured (from + 2) (u16_at s from) (n - 2)))

-- a record whose body is all there, of n bytes from `from`
unfoldable pub whole_of : List ℕ → ℕ → ℕ → ℕ → Found
whole_of s kind from n =
    cond (kind == 1) (Ok (Wire from n))
    (cond (kind == 2) (Ok (Event (slice_index s from) (u16_at s (from + 1))))
    (cond (kind == 3) (Ok Slot)
    (measured_of s from n)))

-- a header that no body makes good is bad at once
unfoldable pub body_of : List ℕ → ℕ → ℕ → ℕ → Found
body_of s kind from n =
    cond (nat_lt longest_body n) (Err Bad)
    (cond (fits_of kind n)
    (cond (nat_lt (length s - from) n) (Err More) (whole_of s kind from n))
    (Err Bad))

-- the record that begins at `at`
unfoldable pub record_at : List ℕ → ℕ → Found
record_at s at =
    cond (nat_le (length s) at) (Err End)
    (cond (nat_lt (length s - at) header) (Err More)
    (body_of s (u16_at s (at + 2)) (at + header) (u16_at s at)))

-- where the record after r begins, which begins at `at`
unfoldable pub next_of : Record → ℕ → ℕ
next_of (Wire from n) at = from + n
next_of (Event event clock) at = at + header + 3
next_of Slot at = at + header
next_of (Measured from offset n) at = from + n

-- what the run of a record leans on: its bytes lie among the k that are there, and in the measured memory
unfoldable pub Inside : ℕ → Record → Type 0
Inside k (Wire from n) = from + n ≤ k
Inside k (Event event clock) = Unit {0}
Inside k Slot = Unit {0}
Inside k (Measured from offset n) = (from + n ≤ k) × (offset + n ≤ memory)
