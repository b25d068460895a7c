-- What the theorems say of bytes on the wire and of runs over them.
use Rattle.std.specs.Prelude.{◌≡◌, ℕ, ◌+◌, ◌-◌, ◌≤◌, Bool, true, false, cond, List, [], ◌∷◌, ◌++◌, length, take, drop, replicate, ◌==◌, Some, None, Ok, Err}
use Rattle.line.specs.Stuffing.{SYNC, ESC, stuff, on_wire}
use Rattle.line.specs.Form.{Form, in_bytes, number_at}
use Rattle.line.specs.Message.{byte_form, packet_begins, checksum_at, size_in, message_in}
use Rattle.line.specs.Unstuffing.{Fed, place_by, cut_of}
use Rattle.line.specs.Reader.{messages_in, len_in, take_in, take_of}
use Rattle.line.specs.Writer.{at_front}
use Rattle.line.specs.Run.{Ran, run_in, run_of}
use Rattle.line.specs.declared.Place.{Place}
use Rattle.line.specs.declared.Place.TheVariants.{Outside, Inside, Escaped}
use Rattle.line.specs.Values.{Outcome, good_message}
use Rattle.line.specs.declared.Fault.TheVariants.{BadLength, BadEscape, BadChecksum, CutOff, ShortBuffer}

-- whether b is among bytes
abbrev pub has : ℕ → List ℕ → Bool
has b [] = false
has b (x ∷ xs) = cond (x == b) true (has b xs)

-- the byte that was escaped, by what stands after its ESC: 01 or 00
abbrev pub escaped : ℕ → ℕ
escaped b = cond (b == 1) SYNC ESC

-- stuffed bytes as they were; after an ESC the first is an escaped one
abbrev pub unstuff_after : Bool → List ℕ → List ℕ
unstuff_after esc [] = []
unstuff_after true (b ∷ bs) = escaped b ∷ unstuff_after false bs
unstuff_after false (b ∷ bs) = cond (b == ESC) (unstuff_after true bs) (b ∷ unstuff_after false bs)

abbrev pub unstuff : List ℕ → List ℕ
unstuff = unstuff_after false

-- the bytes on the wire that a place stands for: those of the message at hand, from its SYNC on
abbrev pub before : Place → List ℕ → List ℕ
before Outside m = []
before (Inside k) m = on_wire (take k m)
before (Escaped k) m = on_wire (take k m) ++ ESC ∷ []

-- the place is in a message with at least one byte, ESC counted, after its SYNC
abbrev pub Partway : Place → Type 0
Partway Outside = ⊥
Partway (Inside k) = 1 ≤ k
Partway (Escaped k) = Unit {0}

-- the n bytes of m from `at` on
abbrev pub part : ℕ → ℕ → List ℕ → List ℕ
part at n m = take n (drop at m)

-- w bytes anywhere in m are those of the number that is read there: one always is, more are where each is below 256
abbrev pub Exact : ℕ → List ℕ → Type 0
Exact w m = (i : ℕ) → i + w ≤ length m → part i w m ≡ in_bytes w (number_at w i m)

-- the bytes h that came end in a message on the wire, which lies at the front of m: its CTR is c, its packet the n bytes from `at` on
pub record Came (f : Form) (c at n : ℕ) (m h : List ℕ) : Type 0 where
  pub start : at ≡ packet_begins f
  pub some : 1 ≤ n
  pub few : n ≤ f.most
  pub whole : size_in f n ≤ length m
  pub len : len_in f m ≡ n
  pub ctr : number_at f.width f.width m ≡ c
  pub checksum : number_at f.sum_width (checksum_at f n) m ≡ f.checksum (take (checksum_at f n) m)
  pub earlier : List ℕ
  pub bytes : h ≡ earlier ++ on_wire (take (size_in f n) m)

-- a message ends here, good or bad
abbrev pub ends : Outcome → Bool
ends (Ok None) = false
ends (Ok (Some good)) = true
ends (Err BadLength) = true
ends (Err BadEscape) = true
ends (Err BadChecksum) = true
ends (Err CutOff) = false
ends (Err ShortBuffer) = false

-- what the byte b leads to after the bytes bs
abbrev pub last_in : Form → Place → List ℕ → List ℕ → ℕ → Fed
last_in f p m bs b = take_in f (run_in f p m bs).place (run_in f p m bs).message b

abbrev pub last_of : Place → List ℕ → List ℕ → ℕ → Fed
last_of p m bs b = take_of (run_of p m bs).place (run_of p m bs).message b

-- a run, and then another
abbrev pub and_then : Ran → Ran → Ran
and_then r q = record { outcomes = r.outcomes ++ q.outcomes; place = q.place; message = q.message }

-- what a frame comes to: one good message, at its last byte, and before it nothing, or one CutOff at its SYNC
abbrev pub heard_in : Form → Place → List ℕ → ℕ → List ℕ → Ran
heard_in f p m ctr packet =
    record {
      outcomes = cut_of (place_by (messages_in f) p m) ∷ (replicate (length (stuff (message_in f ctr packet)) - 1) (Ok None) ++ (good_message ctr (packet_begins f) (length packet)) ∷ []);
      place = Outside;
      message = at_front (message_in f ctr packet) m;
    }

abbrev pub heard : Place → List ℕ → ℕ → List ℕ → Ran
heard = heard_in byte_form

-- what bytes come to of which nothing is read
abbrev pub unheard : List ℕ → List ℕ → Ran
unheard m bs = record { outcomes = replicate (length bs) (Ok None); place = Outside; message = m }
