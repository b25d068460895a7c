-- Whatever calls come between, the state holds what the line's reader makes of the bytes received so far; so a whole frame ends in its packet.
-- Assumes nothing.
use Rattle.std.proofs.Common.{◌≡◌, ℕ, ◌-◌, ◌≤◌, true, List, [], ◌∷◌, ◌++◌, length, replicate, Option, Some, None, Ok, refl, sym, ap, ◌∙◌, arith, append_assoc, lit≤, take_at, inl, inr}
use Rattle.std.proofs.lemmas.Bool.{cases_lt}
use Rattle.line.specs.Message.{most, longest, room, message, frame}
use Rattle.line.specs.Stuffing.{stuff}
use Rattle.line.specs.Unstuffing.{Fed, place_by, cut_of}
use Rattle.line.specs.Reader.{messages, take_of}
use Rattle.line.specs.Run.{Ran, run_of as reads}
use Rattle.line.specs.Wire.{and_then, heard}
use Rattle.line.specs.Writer.{at_front}
use Rattle.line.specs.declared.Place.{Place}
use Rattle.line.specs.Values.{Outcome, good_message}
use Rattle.line.proofs.Fronts.{front_split}
use Rattle.line.proofs.RoundTrip.{round_trip}
use Rattle.line.proofs.Runs.{run_append}
use Rattle.line.proofs.Stuffed.{message_length}
use Rattle.state.specs.Layout.{size}
use Rattle.state.specs.Bytes.{block}
use Rattle.state.specs.State.{consistent}
use Rattle.session.specs.Receive.{Step, receive_of}
use Rattle.session.specs.Perform.{effect, reply, after}
use Rattle.lists.specs.Event.{event_of}
use Rattle.lists.specs.Slot.{slot_of}
use Rattle.model.specs.Turn.{Turn}
use Rattle.model.specs.Model.{Slave}
use Rattle.model.specs.Calls.{turn_in}
use Rattle.model.specs.Whole.{fed_in}
use Rattle.views.proofs.Receiving.{message_long}
use Rattle.model.specs.View.{session_of, view_of}
use Rattle.model.specs.declared.Deed.{Deed}
use Rattle.model.specs.declared.Sender.TheVariants.{Answer, Packet}
use Rattle.state.proofs.Consistent.{consistent_size}
use Rattle.fields.proofs.Frames.{only_answered}
use Rattle.fields.proofs.Readers.{apart, same_part, place_reads, message_reads}
use Rattle.fields.proofs.Effects.{answering, effect_place, effect_message}
use Rattle.fields.proofs.Kept.{receive_kept, event_kept, slot_kept}
use Rattle.judge.specs.Doable.{Doable}
use Rattle.demands.specs.Slave.{ours}
use Rattle.demands.specs.Runs.{Call, Byte, Event, SendingSlot, Elsewhere, run, received}
use Rattle.demands.specs.Heard.{packet_by, packet_ended, read_by}
use Rattle.demands.proofs.ReadBy.{read_shows}
use Rattle.demands.proofs.Received.{Reads, rests, acts}
use Rattle.demands.proofs.Received as byte
use Rattle.demands.proofs.Events.{event_back}
use Rattle.demands.proofs.Sends.{turned, slot_shows, slot_refused}

-- ---- what the reader of a state holds: its place, and the message so far
pub record ReaderAt (v : Slave) (p : Place) (m : List ℕ) : Type 0 where
  pub place : v.place ≡ p
  pub message : v.message ≡ m

-- ---- one byte: what the line makes of it. A deed leaves the reader
abbrev FedBy : List ℕ → ℕ → List ℕ → Type 0
FedBy s b t = ReaderAt (view_of t) (fed_in b (view_of s)).taken.place (fed_in b (view_of s)).message

after_reader : (d : Deed) (s cal meas : List ℕ) (n : ℕ) → Doable d (session_of s) n (length cal) (length meas) → ReaderAt (view_of (after d s cal meas)) (view_of s).place (view_of s).message
unfolding view_of
after_reader d s cal meas n h =
    let w = only_answered (effect d s) (reply d s cal meas) (answering d s cal meas n h).few in
    record {
      place = place_reads (apart tt w) ∙ effect_place d s n (length cal) (length meas) h;
      message = message_reads (apart tt w) ∙ effect_message d s n (length cal) (length meas) h;
    }

byte_by : {s cal meas : List ℕ} {b : ℕ} {o : Step} {x : Option Deed} → consistent s ≡ true → Reads s cal meas b o x → FedBy s b o.state
unfolding view_of
byte_by {s} {b = b} c (rests r p q) = let e = read_shows s b c in record { place = ap (λ (v : Slave). v.place) e; message = ap (λ (v : Slave). v.message) e }
byte_by {s} {cal} {meas} {b} c (acts d p w) =
    let e = read_shows s b c in
    let a = after_reader d (read_by s b) cal meas (length p) (byte.read_can s b d (length p) (length cal) (length meas) c w.can) in
    record { place = a.place ∙ ap (λ (v : Slave). v.place) e; message = a.message ∙ ap (λ (v : Slave). v.message) e }

byte_holds : (s cal meas : List ℕ) (b : ℕ) → consistent s ≡ true → FedBy s b (receive_of s cal meas b).state
byte_holds s cal meas b c = byte_by c (byte.received s cal meas b c)

-- ---- events and slots leave the reader
event_holds : (s cal meas : List ℕ) (event clock : ℕ) → ReaderAt (view_of (event_of s cal meas event clock).state) (view_of s).place (view_of s).message
unfolding view_of
event_holds s cal meas event clock = let w = event_back s cal meas event clock in record { place = place_reads (same_part (lit≤ tt) (lit≤ tt) w); message = message_reads (same_part (lit≤ tt) (lit≤ tt) w) }

turned_holds : (t : Turn) (v w : Slave) → w ≡ turned t v → ReaderAt w v.place v.message
turned_holds None v w e = record { place = ap (λ (u : Slave). u.place) e; message = ap (λ (u : Slave). u.message) e }
turned_holds (Some Answer) v w e = record { place = ap (λ (u : Slave). u.place) e; message = ap (λ (u : Slave). u.message) e }
turned_holds (Some (Packet l o)) v w e = record { place = ap (λ (u : Slave). u.place) e; message = ap (λ (u : Slave). u.message) e }

slot_holds : (s out : List ℕ) → consistent s ≡ true → ReaderAt (view_of (slot_of s out).state) (view_of s).place (view_of s).message
slot_holds s out c =
    elim (cases_lt (length out) room) [
      | inl h ↦ rw (slot_refused s out c h) (record { place = refl; message = refl })
      | inr h ↦ turned_holds (turn_in (view_of s)) (view_of s) (view_of (slot_of s out).state) (slot_shows s out c h)
    ]

-- ---- a run
pub reader_runs : (cs : List Call) (s : List ℕ) → consistent s ≡ true
    → ReaderAt (view_of (run ours s cs)) (reads (view_of s).place (view_of s).message (received cs)).place (reads (view_of s).place (view_of s).message (received cs)).message
reader_runs [] s c = record { place = refl; message = refl }
reader_runs (Byte cal meas b ∷ cs) s c =
    let t : List ℕ = (receive_of s cal meas b).state in
    let w : FedBy s b (receive_of s cal meas b).state = byte_holds s cal meas b c in
    rw (w.place, w.message) at (reader_runs cs (receive_of s cal meas b).state (receive_kept s cal meas b c))
reader_runs (Event cal meas event clock ∷ cs) s c =
    let w = event_holds s cal meas event clock in
    rw (w.place, w.message) at (reader_runs cs (event_of s cal meas event clock).state (event_kept s cal meas event clock c))
reader_runs (SendingSlot out ∷ cs) s c =
    let w = slot_holds s out c in
    rw (w.place, w.message) at (reader_runs cs (slot_of s out).state (slot_kept s out c))
reader_runs (Elsewhere ∷ cs) s c = reader_runs cs s c

-- ---- a whole frame
-- the last of outcomes
last_of : List Outcome → Outcome
last_of [] = Ok None
last_of (x ∷ []) = x
last_of (x ∷ y ∷ ys) = last_of (y ∷ ys)

last_is : (xs : List Outcome) (x : Outcome) → last_of (xs ++ x ∷ []) ≡ x
unfolding last_of
last_is [] x = refl
last_is (y ∷ []) x = refl
last_is (y ∷ z ∷ zs) x = last_is (z ∷ zs) x

-- the packet in a message at the front of the buffer
packet_front : (p m : List ℕ) (ctr : ℕ) → length p ≤ most → length m ≡ longest → block (at_front (message ctr p) m) 2 (length p) ≡ p
packet_front p m ctr few h =
    let fits : length (message ctr p) ≤ length m = omega (arith, message_length ctr p) in
    rw (front_split (message ctr p) m fits, append_assoc p) (take_at p _ (length p) refl)

ends_so : (f : Fed) (R : Ran) (p m : List ℕ) (ctr : ℕ) (place : Place) → length p ≤ most → length m ≡ longest
    → and_then R (record { outcomes = f.taken.outcome ∷ []; place = f.taken.place; message = f.message }) ≡ heard place m ctr p
    → packet_by f.taken.outcome f.message ≡ Some p
ends_so f R p m ctr place few h e =
    let z : List Outcome = cut_of (place_by messages place m) ∷ replicate (length (stuff (message ctr p)) - 1) (Ok None) in
    let o : f.taken.outcome ≡ good_message ctr 2 (length p) =
    sym (last_is R.outcomes f.taken.outcome) ∙ ap (λ (r : Ran). last_of r.outcomes) e ∙ last_is z (good_message ctr 2 (length p)) in
    let b : f.message ≡ at_front (message ctr p) m = ap (λ (r : Ran). r.message) e in
    by f.taken.outcome f.message o b where
      by : (o : Outcome) (x : List ℕ) → o ≡ good_message ctr 2 (length p) → x ≡ at_front (message ctr p) m → packet_by o x ≡ Some p
      by o x a b = rw (a, b) (ap Some (packet_front p m ctr few h))

message_shown : (s : List ℕ) → length s ≡ size → length (view_of s).message ≡ longest
unfolding view_of
message_shown s h = message_long s h

-- its bytes interleaved with any other calls, its last byte ends its packet
pub frame_ends : (s : List ℕ) (before : List Call) (b ctr : ℕ) (p : List ℕ) → consistent s ≡ true → 1 ≤ length p → length p ≤ most
    → received before ++ b ∷ [] ≡ frame ctr p → packet_ended (run ours s before) b ≡ Some p
frame_ends s before b ctr p c one few e =
    let h : length s ≡ size = consistent_size s c in
    let v : Slave = view_of s in
    let R : Ran = reads (view_of s).place (view_of s).message (received before) in
    let w = reader_runs before s c in
    let m : length (view_of s).message ≡ longest = message_shown s h in
    let q = sym (run_append take_of (view_of s).place (view_of s).message (received before) (b ∷ [])) ∙ ap (reads (view_of s).place (view_of s).message) e
    ∙ round_trip (view_of s).place (view_of s).message p ctr (omega arith) one few in
    rw (w.place, w.message) (ends_so (take_of R.place R.message b) R p (view_of s).message ctr (view_of s).place few m q)
