-- The reader of messages.
use Rattle.std.specs.Prelude.{ℕ, ◌+◌, Bool, true, false, cond, List, length, take, ◌==◌, nat_lt, slice_set, Err}
use Rattle.line.specs.Form.{Form, number_at}
use Rattle.line.specs.Message.{byte_form, packet_begins, checksum_at, size_in, longest_in}
use Rattle.line.specs.Unstuffing.{Fed, Messages, on, over, take_by}
use Rattle.line.specs.declared.Place.{Place}
use Rattle.line.specs.declared.Place.TheVariants.{Inside}
use Rattle.line.specs.Values.{Outcome, good_message}
use Rattle.line.specs.declared.Fault.TheVariants.{BadLength, BadChecksum, ShortBuffer}

-- LEN of the message in the buffer
abbrev pub len_in : Form → List ℕ → ℕ
len_in f m = number_at f.width 0 m

-- k bytes of a message may have come, with n in LEN's place, and the last byte is still out
abbrev pub begun_in : Form → ℕ → ℕ → Bool
begun_in f k n = cond (nat_lt k f.width) true (cond (n == 0) false (cond (nat_lt f.most n) false (nat_lt k (size_in f n))))

-- a whole message of LEN n in the buffer: CTR after LEN, the packet after CTR, the checksum last
abbrev pub judged_at : Form → ℕ → List ℕ → Outcome
judged_at f n m =
    cond (number_at f.sum_width (checksum_at f n) m == f.checksum (take (checksum_at f n) m))
    (good_message (number_at f.width f.width m) (packet_begins f) n)
    (Err BadChecksum)

abbrev pub judged_in : Form → List ℕ → Outcome
judged_in f m = judged_at f (len_in f m) m

-- byte b after k others: the message goes on; or b was LEN's last, and LEN is wrong; or b was the message's last
abbrev pub put_in : Form → ℕ → List ℕ → ℕ → Fed
put_in f k m b =
    cond (begun_in f (k + 1) (len_in f (slice_set m k b))) (on (Inside (k + 1)) (slice_set m k b))
    (cond (nat_lt k f.width) (over (Err BadLength) m)
    (over (judged_in f (slice_set m k b)) (slice_set m k b)))

abbrev pub messages_in : Form → Messages
messages_in f = record { begun = λ k m. begun_in f k (len_in f m); put = put_in f }

-- a received byte b at place p, with m in the lent buffer; too short a buffer comes before anything else
unfoldable pub take_in : Form → Place → List ℕ → ℕ → Fed
take_in f p m b =
    cond (nat_lt (length m) (longest_in f))
    (record { taken = record { place = p; outcome = Err ShortBuffer }; message = m })
    (take_by (messages_in f) p m b)

-- ---- the byte form
abbrev pub begun_of : ℕ → ℕ → Bool
begun_of = begun_in byte_form

abbrev pub judged_of : List ℕ → Outcome
judged_of = judged_in byte_form

abbrev pub put_of : ℕ → List ℕ → ℕ → Fed
put_of = put_in byte_form

abbrev pub messages : Messages
messages = messages_in byte_form

unfoldable pub take_of : Place → List ℕ → ℕ → Fed
unfolding take_in
take_of = take_in byte_form
