-- What the tool keeps from one line of the sheet to the next: its side of the wire, and the verdict so far.
use Rattle.std.specs.Prelude.{ℕ, ◌+◌, ◌%◌, Bool, true, false, cond, Option, Some, None}
use Rattle.sheet.specs.declared.tool.Tool.{Tool}
use Rattle.syntax.specs.declared.Case.TheVariants.{Closed, Titled, Stepped}

-- a count of 32 bits
abbrev pub one_more : ℕ → ℕ
one_more n = (n + 1) % 4294967296

-- the first line that differs stays the first
abbrev pub first_of : Option ℕ → ℕ → Option ℕ
first_of (Some first) at = Some first
first_of None at = Some at

-- a case that did not come out as expected counts
abbrev pub differing : ℕ → Bool → ℕ
differing n good = cond good n (one_more n)

abbrev pub fresh : Tool
fresh = record { ctr = 0; seed = 0; line = 0; case = Closed; good = true; cases = 0; steps = 0; different = 0; first = None }

-- at the next line
abbrev pub next_line : Tool → Tool
next_line t = record t { line = one_more t.line }

-- after a verdict
abbrev pub judged_of : Tool → Bool → Tool
judged_of t good = cond good t (record t { good = false; first = first_of t.first t.line })

-- after n messages to the slave
abbrev pub sent_of : Tool → ℕ → Tool
sent_of t n = record t { ctr = (t.ctr + n) % 256 }

-- after a title, a case has begun that is good so far
abbrev pub begun_of : Tool → Tool
begun_of t = record t { case = Titled t.line; good = true }

-- after a step
abbrev pub stepped_of : Tool → Tool
stepped_of t = record t { case = Stepped; steps = one_more t.steps }

-- after a case
abbrev pub ended_of : Tool → Tool
ended_of t = record t { case = Closed; cases = one_more t.cases; different = differing t.different t.good }
