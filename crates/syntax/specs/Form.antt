-- What a line of a sheet is: empty, a title, a step, or what is wrong with it, and at which of its places.
use Rattle.std.specs.Prelude.{ℕ, suc, ◌+◌, ◌-◌, ◌*◌, Bool, true, false, ◌||◌, cond, ◌≡◌, List, [], ◌∷◌, ◌++◌, Option, Some, None, Result, Ok, Err, eqb, leb, ltb, length, get_or, drop}
use Rattle.line.specs.Message.{most, room}
use Rattle.state.specs.Layout.{addressable}
use Rattle.syntax.specs.declared.Step.{Step}
use Rattle.syntax.specs.declared.Step.TheVariants.{PowerUp, Measured, Wire, Command, Slot, Unlock, Repeat, Event, Slice}
use Rattle.syntax.specs.declared.Fault.{Fault}
use Rattle.syntax.specs.declared.Fault.TheVariants as fault
use Rattle.syntax.specs.declared.Line.{Line}
use Rattle.syntax.specs.declared.Line.TheVariants as line
use Rattle.syntax.specs.declared.Wrong.{Wrong}
use Rattle.syntax.specs.Columns.{bytes_at}
use Rattle.syntax.specs.Hex.{space, value_at, pairs_from, values_from, spelled}

abbrev pub newline : ℕ
newline = 10

abbrev pub carriage_return : ℕ
carriage_return = 13

-- how many bytes at k end a line: a newline, or a carriage return and a newline; none where it goes on
unfoldable pub ending_at : List ℕ → ℕ → ℕ
ending_at s k =
    cond (eqb (get_or s k 0) newline) 1
    (cond (eqb (get_or s k 0) carriage_return) (cond (eqb (get_or s (k + 1) 0) newline) 2 0) 0)

-- how many bytes the first line has, up to its ending or the text's end
unfoldable pub line_length : List ℕ → ℕ
line_length [] = 0
line_length (c ∷ cs) = cond (eqb (ending_at (c ∷ cs) 0) 0) (suc (line_length cs)) 0

-- what a line is read as
abbrev pub Read : Type 0
Read = Result Line Wrong

abbrev pub wrong : Fault → ℕ → Wrong
wrong f k = record { fault = f; at = k }

abbrev pub no_hex : ℕ → Wrong
no_hex k = wrong fault.Hex k

abbrev pub bad : Fault → ℕ → Read
bad f k = Err (wrong f k)

-- how many signs of printable ASCII stand at the front
unfoldable pub plain_of : List ℕ → ℕ
plain_of [] = 0
plain_of (c ∷ cs) = cond (leb 32 c) (cond (leb c 126) (suc (plain_of cs)) 0) 0

-- a sign that is not printable ASCII
abbrev pub odd : ℕ → Bool
odd c = ltb c 32 || ltb 126 c

-- the letter that a step's line begins with
unfoldable pub step_for : ℕ → Option Step
step_for c =
    cond (eqb c 80) (Some PowerUp)
    (cond (eqb c 77) (Some Measured)
    (cond (eqb c 87) (Some Wire)
    (cond (eqb c 62) (Some Command)
    (cond (eqb c 60) (Some Slot)
    (cond (eqb c 85) (Some Unlock)
    (cond (eqb c 82) (Some Repeat)
    (cond (eqb c 69) (Some Event)
    (cond (eqb c 83) (Some Slice)
    None))))))))

-- measured bytes have a place, two bytes, and one of them at least; all lie in the memory
unfoldable pub placed_of : List ℕ → ℕ → Bool
placed_of s n =
    cond (ltb n 3) false
    (leb (value_at s bytes_at + 256 * value_at s (bytes_at + 3) + (n - 2)) addressable)

-- 01 is calibration, 04 the lists
unfoldable pub resource_of : List ℕ → Bool
resource_of s = cond (eqb (value_at s bytes_at) 1) true (eqb (value_at s bytes_at) 4)

-- how often, at least once, and a command
unfoldable pub times_of : List ℕ → ℕ → Bool
times_of s n = cond (eqb (value_at s bytes_at) 0) false (cond (ltb n 2) false (leb n (1 + most)))

-- whether the n bytes of a line are those of such a step
unfoldable pub bytes_fit : Step → List ℕ → ℕ → Bool
bytes_fit PowerUp s n = eqb n 4
bytes_fit Measured s n = placed_of s n
bytes_fit Wire s n = true
bytes_fit Command s n = leb n most
bytes_fit Slot s n = leb n most
bytes_fit Unlock s n = cond (eqb n 1) (resource_of s) false
bytes_fit Repeat s n = times_of s n
bytes_fit Event s n = eqb n 3
bytes_fit Slice s n = true

-- at least one, and at most k
unfoldable pub some_up_to : ℕ → ℕ → Bool
some_up_to m k = cond (eqb m 0) false (leb m k)

-- whether m bytes to expect, 0 for none, go with the n bytes of such a step
unfoldable pub expected_fits : Step → ℕ → ℕ → Bool
expected_fits PowerUp n m = eqb m 0
expected_fits Measured n m = eqb m 0
expected_fits Wire n m = eqb m n
expected_fits Command n m = true
expected_fits Slot n m = cond (eqb n 0) (eqb m 0) true
expected_fits Unlock n m = eqb m 4
expected_fits Repeat n m = some_up_to m most
expected_fits Event n m = some_up_to m 2
expected_fits Slice n m = eqb m 2

-- a step that is used up to its end
unfoldable pub fitted_of : Step → List ℕ → ℕ → ℕ → Read
fitted_of step s n m =
    cond (bytes_fit step s n)
    (cond (expected_fits step n m) (Ok (line.Does step n m)) (bad (fault.Expected step) (bytes_at + 3 * n)))
    (bad (fault.Bytes step) bytes_at)

abbrev pub dashes : Step → Bool
dashes PowerUp = false
dashes Measured = false
dashes Wire = false
dashes Command = false
dashes Slot = true
dashes Unlock = false
dashes Repeat = false
dashes Event = false
dashes Slice = false

-- where the first list ends: behind its last digit, or behind the - of a slot that is to send nothing
unfoldable pub first_end : Step → List ℕ → ℕ → ℕ
first_end step s n =
    cond (ltb 0 n) (bytes_at + 3 * n - 1)
    (cond (eqb (get_or s bytes_at 0) 45) (cond (dashes step) (bytes_at + 1) bytes_at) bytes_at)

-- whether a space, an = sign and a space stand at k
unfoldable pub sign_at : List ℕ → ℕ → Bool
sign_at s k =
    cond (eqb (get_or s k 0) space)
    (cond (eqb (get_or s (k + 1) 0) 61) (eqb (get_or s (k + 2) 0) space) false)
    false

-- how many bytes to expect stand behind the first list, which ends at k: none at the line's end, or some, up to its end
unfoldable pub expecting_of : List ℕ → ℕ → Result ℕ Wrong
expecting_of s k =
    cond (eqb k (length s)) (Ok 0)
    (cond (sign_at s k)
    (cond (eqb (pairs_from room s (k + 3)) 0) (Err (no_hex (k + 3)))
    (cond (eqb (k + 2 + 3 * pairs_from room s (k + 3)) (length s)) (Ok (pairs_from room s (k + 3)))
    (Err (no_hex (k + 2 + 3 * pairs_from room s (k + 3))))))
    (Err (no_hex k)))

-- a step with n bytes, and so many to expect
abbrev pub expected_of : Step → List ℕ → ℕ → Result ℕ Wrong → Read
expected_of step s n (Ok m) = fitted_of step s n m
expected_of step s n (Err w) = Err w

-- the lists of a step's line, whose first has n bytes and ends at k
unfoldable pub lists_of : Step → List ℕ → ℕ → ℕ → Read
lists_of step s n k = cond (eqb k bytes_at) (bad fault.Hex bytes_at) (expected_of step s n (expecting_of s k))

-- where the first list of a step's line ends
abbrev pub end_of : Step → List ℕ → ℕ
end_of step s = first_end step s (pairs_from room s bytes_at)

unfoldable pub step_of : Step → List ℕ → Read
step_of step s =
    cond (eqb (get_or s (bytes_at - 1) 0) space)
    (lists_of step s (pairs_from room s bytes_at) (end_of step s))
    (bad fault.Name (bytes_at - 1))

-- a line with this letter
abbrev pub lettered : Option Step → List ℕ → Read
lettered (Some step) s = step_of step s
lettered None s = bad fault.Kind 0

-- a # begins a title
unfoldable pub line_of : List ℕ → Read
line_of s =
    cond (eqb (length s) 0) (Ok line.Empty)
    (cond (ltb (plain_of s) (length s)) (bad fault.Sign (plain_of s))
    (cond (eqb (get_or s 1 0) space)
    (cond (eqb (get_or s 0 0) 35) (Ok line.Title) (lettered (step_for (get_or s 0 0)) s))
    (bad fault.Kind 0)))

-- the n bytes of a step, and the m bytes to expect
abbrev pub step_bytes : ℕ → List ℕ → List ℕ
step_bytes n s = values_from n s bytes_at

abbrev pub expected_bytes : Step → ℕ → List ℕ → List ℕ
expected_bytes step m s = values_from m s (end_of step s + 3)

-- a step's bytes as its line has them, or the - of a slot
unfoldable pub first_text : ℕ → List ℕ → List ℕ
first_text n s = cond (eqb n 0) (45 ∷ []) (spelled (step_bytes n s))

-- those to expect, behind the first list
unfoldable pub expected_text : Step → ℕ → List ℕ → List ℕ
expected_text step m s = cond (eqb m 0) [] (space ∷ 61 ∷ space ∷ spelled (expected_bytes step m s))

-- behind its name a step's line has these, and nothing else
unfoldable pub Used : List ℕ → Read → Type 0
Used s (Ok line.Empty) = Unit {0}
Used s (Ok line.Title) = Unit {0}
Used s (Ok (line.Does step n m)) = drop bytes_at s ≡ first_text n s ++ expected_text step m s
Used s (Err w) = Unit {0}
