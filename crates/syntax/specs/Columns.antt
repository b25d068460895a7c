-- The columns of a step's line: its letter, a space, its name, its bytes; then an = sign between spaces, and the bytes to expect.
use Rattle.std.specs.Prelude.{ℕ, ◌+◌, ◌*◌}
use Rattle.line.specs.Message.{room}

-- where its bytes begin: behind its letter, a space, and its name in 28 columns
abbrev pub bytes_at : ℕ
bytes_at = 30

-- most columns of a list: it has the bytes of the longest frame at most, each with two digits and a space
abbrev pub list_most : ℕ
list_most = 3 * room

-- where its bytes end at the latest, and where those to expect begin and end
abbrev pub first_most : ℕ
first_most = bytes_at + list_most

abbrev pub expected_most : ℕ
expected_most = first_most + 3

abbrev pub last_most : ℕ
last_most = expected_most + list_most
