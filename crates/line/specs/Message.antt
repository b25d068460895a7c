-- A message: LEN, CTR, LEN packet bytes and their fill, then the checksum. It knows nothing of stuffing.
-- Here and below a name in `In` is over any form, as `message_in f`; without it, or with `Of`, it is that of the byte form, which is in use.
use Rattle.std.specs.Prelude.{ℕ, ◌+◌, ◌*◌, ◌%◌, ◌^◌, ◌≤◌, List, [], ◌∷◌, ◌++◌, length}
use Rattle.line.specs.Form.{Form, in_bytes, filled}
use Rattle.line.specs.Stuffing.{on_wire}

-- ---- in any form
-- the packet stands behind LEN and CTR
abbrev pub packet_begins : Form → ℕ
packet_begins f = f.width + f.width

-- the checksum stands behind a packet of n bytes and its fill
abbrev pub checksum_at : Form → ℕ → ℕ
checksum_at f n = packet_begins f + (n + f.fill n)

-- how many bytes a message of LEN n has
abbrev pub size_in : Form → ℕ → ℕ
size_in f n = checksum_at f n + f.sum_width

abbrev pub longest_in : Form → ℕ
longest_in f = size_in f f.most

-- the longest frame: a SYNC, and every byte of the longest message doubled
abbrev pub room_in : Form → ℕ
room_in f = 1 + 2 * longest_in f

-- LEN, CTR, the packet and its fill
abbrev pub head_in : Form → ℕ → List ℕ → List ℕ
head_in f ctr packet = in_bytes f.width (length packet) ++ (in_bytes f.width ctr ++ filled (f.fill (length packet)) packet)

abbrev pub with_checksum_in : Form → List ℕ → List ℕ
with_checksum_in f bs = bs ++ in_bytes f.sum_width (f.checksum bs)

abbrev pub message_in : Form → ℕ → List ℕ → List ℕ
message_in f ctr packet = with_checksum_in f (head_in f ctr packet)

abbrev pub frame_in : Form → ℕ → List ℕ → List ℕ
frame_in f ctr packet = on_wire (message_in f ctr packet)

-- the CTR after this one
abbrev pub next_ctr_in : Form → ℕ → ℕ
next_ctr_in f ctr = (ctr + 1) % 256 ^ f.width

-- a form for a serial line: LEN and the checksum have a byte, and no message is longer than that of the longest packet
pub record Serial (f : Form) : Type 0 where
  pub wide : 1 ≤ f.width
  pub summed : 1 ≤ f.sum_width
  pub within : (n : ℕ) → n ≤ f.most → size_in f n ≤ longest_in f

-- ---- in the byte form
abbrev pub sum : List ℕ → ℕ
sum [] = 0
sum (b ∷ bs) = b + sum bs

-- LEN, CTR and checksum are a byte each, packets are 1 to 64 bytes with no fill, and the checksum is the sum modulo 256
abbrev pub byte_form : Form
byte_form = record { width = 1; most = 64; fill = λ n. 0; sum_width = 1; checksum = λ bs. sum bs % 256 }

abbrev pub most : ℕ
most = byte_form.most

abbrev pub longest : ℕ
longest = longest_in byte_form

abbrev pub room : ℕ
room = room_in byte_form

abbrev pub message : ℕ → List ℕ → List ℕ
message = message_in byte_form

abbrev pub frame : ℕ → List ℕ → List ℕ
frame = frame_in byte_form

abbrev pub next_ctr : ℕ → ℕ
next_ctr = next_ctr_in byte_form
