-- What a received byte is on the line, in document 01's words. SYNC is 9A, ESC is 9B; inside a message 9A comes as 9B 01 and 9B as 9B 00. A message is
-- LEN, CTR, LEN packet bytes, then the sum of all bytes before it, modulo 256. The k bytes of it that have come since SYNC stand at the front of m.
use Rattle.std.specs.Prelude.{ℕ, ◌+◌, ◌%◌, Bool, cond, ◌&&◌, ◌||◌, List, eqb, ltb, leb, take, drop}
use Rattle.line.specs.declared.Place.{Place}
use Rattle.line.specs.declared.Place.TheVariants.{Outside, Inside, Escaped}
use Rattle.model.specs.Model.{byte}
use Rattle.views.specs.Commands.{sum_from}

-- what it comes to: nothing; a whole good message with that packet; or a message that is dropped, with that number
pub data Comes : Type 0 where
  Quiet : Comes
  Whole : (packet : List ℕ) → Comes
  Lost : (number : ℕ) → Comes

-- a message is under way: no byte of it has come yet, or its LEN is 1 to 64 and its checksum is still out
abbrev pub under_way : ℕ → List ℕ → Bool
under_way k m = eqb k 0 || (leb 1 (byte m 0) && (leb (byte m 0) 64 && ltb k (byte m 0 + 3)))

-- LEN is x: 0 and above 64 are 3
abbrev pub len_is : ℕ → Comes
len_is x = cond (eqb x 0 || ltb 64 x) (Lost 3) Quiet

-- the checksum, behind k bytes, is x: 5 if it differs
abbrev pub checksum_is : ℕ → List ℕ → ℕ → Comes
checksum_is k m x = cond (eqb x (sum_from m 0 k % 256)) (Whole (take (byte m 0) (drop 2 m))) (Lost 5)

-- byte x of the message, behind k others
abbrev pub next_byte : ℕ → List ℕ → ℕ → Comes
next_byte k m x =
    cond (eqb k 0) (len_is x)
    (cond (eqb k (byte m 0 + 2)) (checksum_is k m x)
    Quiet)

-- behind k bytes: SYNC cuts the message off, 7, if it has one; ESC begins a pair
abbrev pub inside_one : ℕ → List ℕ → ℕ → Comes
inside_one k m b =
    cond (eqb b 0x9A) (cond (eqb k 0) Quiet (Lost 7))
    (cond (eqb b 0x9B) Quiet
    (next_byte k m b))

-- behind an ESC too: SYNC cuts the message off, 00 and 01 end the pair, any other byte is 4
abbrev pub behind_esc : ℕ → List ℕ → ℕ → Comes
behind_esc k m b =
    cond (eqb b 0x9A) (Lost 7)
    (cond (eqb b 0x00) (next_byte k m 0x9B)
    (cond (eqb b 0x01) (next_byte k m 0x9A)
    (Lost 4)))

-- byte b, by the reader's place: outside a message SYNC begins one and every other byte is passed over. A place that no message can have is outside too
unfoldable pub comes_to : Place → List ℕ → ℕ → Comes
comes_to Outside m b = Quiet
comes_to (Inside k) m b = cond (under_way k m) (inside_one k m b) Quiet
comes_to (Escaped k) m b = cond (under_way k m) (behind_esc k m b) Quiet
