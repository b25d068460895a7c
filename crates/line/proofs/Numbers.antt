-- Laws of numbers in bytes and of fill, and what of a message lies where, in any form. Assumes nothing.
use Rattle.std.proofs.Common.{◌≡◌, ℕ, zero, suc, ◌+◌, ◌/◌, ◌%◌, ◌≤◌, List, [], ◌∷◌, ◌++◌, length, take, set, sym, refl, ap, ◌∙◌, append_assoc, arith, length-append, get_or-set_other, drop_at}
use Rattle.std.proofs.lemmas.List.{get_or_append_left as get_or-append, get_or_at}
use Rattle.std.proofs.Math.Seq.{take-append_seam}
use Rattle.line.specs.Form.{Form, in_bytes, number_at, filled}
use Rattle.line.specs.Message.{byte_form, packet_begins, checksum_at, size_in, Serial, head_in, message_in}
use Rattle.line.specs.Reader.{len_in}
use Rattle.line.specs.Wire.{part}

-- ---- numbers
pub bytes_length : (w n : ℕ) → length (in_bytes w n) ≡ w
bytes_length zero n = refl
bytes_length (suc zero) n = refl
bytes_length (suc (suc w)) n = ap suc (bytes_length (suc w) (n / 256))

-- a number's bytes read as the number, wherever they lie
pub number_at_lem : (w i n : ℕ) (pre post : List ℕ) → 1 ≤ w → length pre ≡ i → number_at w i (pre ++ (in_bytes w n ++ post)) ≡ n
number_at_lem zero i n pre post some e = absurd (omega arith)
number_at_lem (suc zero) i n pre post some e = get_or_at pre n post 0 i e
number_at_lem (suc (suc w)) i n pre post some e =
    let l : length (pre ++ n % 256 ∷ []) ≡ suc i = length-append pre (n % 256 ∷ []) ∙ omega arith in
    let rest = number_at_lem (suc w) (suc i) (n / 256) (pre ++ n % 256 ∷ []) post (omega arith) l in
    let ys : List ℕ = in_bytes (suc w) (n / 256) ++ post in
    rw (get_or_at pre (n % 256) ys 0 i e, rw (append_assoc pre (n % 256 ∷ []) ys) at rest) (omega arith)

-- it is read from its own bytes alone
pub number_front : (w i : ℕ) (xs ys : List ℕ) → i + w ≤ length xs → number_at w i (xs ++ ys) ≡ number_at w i xs
number_front zero i xs ys h = refl
number_front (suc zero) i xs ys h = get_or-append xs ys 0 i (omega arith)
number_front (suc (suc w)) i xs ys h = rw (get_or-append xs ys 0 i (omega arith), number_front (suc w) (suc i) xs ys (omega arith))

-- and a byte stored past them leaves it
pub number_set : (w i k x : ℕ) (m : List ℕ) → i + w ≤ k → number_at w i (set m k x) ≡ number_at w i m
number_set zero i k x m h = refl
number_set (suc zero) i k x m h = get_or-set_other m k i x 0 (omega arith)
number_set (suc (suc w)) i k x m h = rw (get_or-set_other m k i x 0 (omega arith), number_set (suc w) (suc i) k x m (omega arith))

-- ---- fill
filled_length : (k : ℕ) (bs : List ℕ) → length (filled k bs) ≡ length bs + k
filled_length zero bs = omega arith
filled_length (suc k) bs = rw (length-append (filled k bs) (0 ∷ []), filled_length k bs) (omega arith)

filled_front : (k : ℕ) (bs ys : List ℕ) → take (length bs) (filled k bs ++ ys) ≡ bs
filled_front zero bs ys = take-append_seam bs ys
filled_front (suc k) bs ys = rw (append_assoc (filled k bs) (0 ∷ []) ys) (filled_front k bs (0 ∷ ys))

-- ---- a message
pub head_length : (f : Form) (ctr : ℕ) (packet : List ℕ) → length (head_in f ctr packet) ≡ checksum_at f (length packet)
head_length f ctr packet = simp (length-append, bytes_length, filled_length) (omega arith)

pub message_length_in : (f : Form) (ctr : ℕ) (packet : List ℕ) → length (message_in f ctr packet) ≡ size_in f (length packet)
message_length_in f ctr packet = simp (length-append, bytes_length, filled_length) (omega arith)

-- with anything behind it
module _ (f : Form) (s : Serial f) (ctr : ℕ) (packet rest : List ℕ) where
  lies : message_in f ctr packet ++ rest ≡ in_bytes f.width (length packet) ++ (in_bytes f.width ctr ++ (filled (f.fill (length packet)) packet ++ (in_bytes f.sum_width (f.checksum (head_in f ctr packet)) ++ rest)))
  lies = simp append_assoc

  pub len_lies : len_in f (message_in f ctr packet ++ rest) ≡ length packet
  len_lies = rw lies (number_at_lem f.width 0 (length packet) [] _ s.wide refl)

  pub ctr_lies : number_at f.width f.width (message_in f ctr packet ++ rest) ≡ ctr
  ctr_lies = rw lies (number_at_lem f.width f.width ctr (in_bytes f.width (length packet)) _ s.wide (bytes_length f.width (length packet)))

  pub check_lies : number_at f.sum_width (checksum_at f (length packet)) (message_in f ctr packet ++ rest) ≡ f.checksum (head_in f ctr packet)
  check_lies = rw (append_assoc (head_in f ctr packet)) (number_at_lem f.sum_width (checksum_at f (length packet)) (f.checksum (head_in f ctr packet)) (head_in f ctr packet) rest s.summed (head_length f ctr packet))

  pub packet_lies : part (packet_begins f) (length packet) (message_in f ctr packet ++ rest) ≡ packet
  packet_lies =
      let a : List ℕ = in_bytes f.width (length packet) in
      let b : List ℕ = in_bytes f.width ctr in
      let x : List ℕ = in_bytes f.sum_width (f.checksum (head_in f ctr packet)) ++ rest in
      let l : length (a ++ b) ≡ packet_begins f = simp (length-append, bytes_length) in
      ap (part (packet_begins f) (length packet)) (lies ∙ sym (append_assoc a b (filled (f.fill (length packet)) packet ++ x)))
      ∙ rw (drop_at (a ++ b) (filled (f.fill (length packet)) packet ++ x) (packet_begins f) l) (filled_front (f.fill (length packet)) packet x)

-- ---- the byte form
pub byte_serial : Serial byte_form
byte_serial = record { wide = omega arith; summed = omega arith; within = λ n few. omega arith }
