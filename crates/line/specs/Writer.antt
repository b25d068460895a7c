-- What the writer writes.
use Rattle.std.specs.Prelude.{◌≡◌, ℕ, ◌+◌, cond, List, [], ◌∷◌, length, ◌==◌, nat_lt, Ok, Err}
use Rattle.std.proofs.lemmas.List.Edits.{sets}
use Rattle.line.specs.Form.{Form}
use Rattle.line.specs.Message.{byte_form, room_in, frame_in}
use Rattle.line.specs.Values.{Written}
use Rattle.line.specs.declared.Unwritten.TheVariants.{BadLength, NoRoom}

-- xs at the front of l, and the bytes past them as they were
abbrev pub at_front : List ℕ → List ℕ → List ℕ
at_front [] l = l
at_front (x ∷ xs) [] = []
at_front (x ∷ xs) (y ∷ l) = x ∷ at_front xs l

-- the answer, and the lent bytes after the call
pub record Sent : Type 0 where
  pub written : Written
  pub out : List ℕ

abbrev pub refused : Written → List ℕ → Sent
refused w out = record { written = w; out = out }

-- the frame of packet p at CTR ctr, at the front of out
unfoldable pub write_in : Form → List ℕ → ℕ → List ℕ → Sent
write_in f p ctr out =
    cond (length p == 0) (refused (Err BadLength) out)
    (cond (nat_lt f.most (length p)) (refused (Err BadLength) out)
    (cond (nat_lt (length out) (room_in f)) (refused (Err NoRoom) out)
    (record { written = Ok (length (frame_in f ctr p)); out = at_front (frame_in f ctr p) out })))

unfoldable pub write_of : List ℕ → ℕ → List ℕ → Sent
unfolding write_in
write_of = write_in byte_form

-- a function that answers w and leaves l in the lent bytes does what s says
pub record Writes (s : Sent) (w : Written) (l : List ℕ) : Type 0 where
  pub result : w ≡ s.written
  pub bytes : l ≡ s.out

-- xs stored in l from `at` on gives l', and r is the place after them
pub record Stored (l : List ℕ) (at : ℕ) (xs : List ℕ) (l' : List ℕ) (r : ℕ) : Type 0 where
  pub next : r ≡ at + length xs
  pub bytes : l' ≡ sets l at xs
