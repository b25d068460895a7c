-- A good message that the reader reports stood on the wire: its frame came last, from the last SYNC on. Assumes nothing.
use Rattle.std.proofs.Common.{◌≡◌, ℕ, ◌+◌, ◌<◌, ◌≤◌, false, eqb, List, [], ◌∷◌, ◌++◌, length, take, drop, set, sym, refl, ap, ◌∙◌, subst, append_assoc, append-nil, add-zero, add-one, arith, length-drop, length-set, length-take-le, drop-cons, take-suc-set, take-add, Some, None, Ok, Err}
use Rattle.line.specs.Stuffing.{SYNC, ESC, stuff, on_wire}
use Rattle.line.specs.Form.{Form, in_bytes}
use Rattle.line.specs.Message.{packet_begins, checksum_at, size_in, longest_in, Serial, with_checksum_in, byte_form, most, longest, message, frame}
use Rattle.line.specs.Unstuffing.{Fed, place_by, cut_of}
use Rattle.line.specs.Reader.{len_in, messages_in, take_in, messages, take_of}
use Rattle.line.specs.Run.{run_in}
use Rattle.line.specs.Wire.{has, unstuff, before, part, Exact, Came, last_in, last_of}
use Rattle.line.specs.declared.Place.{Place}
use Rattle.line.specs.declared.Place.TheVariants.{Outside, Inside, Escaped}
use Rattle.line.specs.Values.{Outcome, good_message}
use Rattle.line.proofs.Laws.{false_true, cond_ind}
use Rattle.line.proofs.Numbers.{byte_serial}
use Rattle.line.proofs.Stuffed.{has_append, has_here, stuff_plain, unstuff_on, unstuff_stuff, last_sync}
use Rattle.line.proofs.Unframing.{Takes, begins, passes, escapes, brings, breaks, takes}
use Rattle.line.proofs.Steps.{PutsIn, refuses, goes, fills, spoils, put_within_in, puts_in, take_cases, take_long_in}
use Rattle.line.proofs.After.{take_length_in, take_place_in}
use Rattle.line.proofs.Runs.{run_length}
use Rattle.line.specs.declared.Fault.TheVariants.{BadLength, BadEscape, BadChecksum, CutOff, ShortBuffer}

-- the bytes h that came end in those that the place stands for
abbrev Since : List ℕ → Place → List ℕ → Type 0
Since h p m = (pre : List ℕ) × (h ≡ pre ++ before p m)

-- outside stands for no bytes
outside : (h m : List ℕ) → Since h Outside m
outside h m = (h, sym (append-nil h))

-- what an outcome says of the bytes h that came
abbrev Says : Form → List ℕ → Outcome → List ℕ → Type 0
Says f h (Ok None) m = Unit {0}
Says f h (Ok (Some good)) m = Came f good.ctr good.at good.len m h
Says f h (Err BadLength) m = Unit {0}
Says f h (Err BadEscape) m = Unit {0}
Says f h (Err BadChecksum) m = Unit {0}
Says f h (Err CutOff) m = Unit {0}
Says f h (Err ShortBuffer) m = Unit {0}

-- a SYNC gives no good message
cut_says : (f : Form) (q : Place) (h m : List ℕ) → Says f h (cut_of q) m
cut_says f Outside h m = tt
cut_says f (Inside k) h m = cond_ind (λ (o : Outcome). Says f h o m) (eqb k 0) (λ _. tt) (λ _. tt)
cut_says f (Escaped k) h m = tt

-- the place and the outcome after a byte tell the truth of the bytes h that came
abbrev Honest : Form → List ℕ → Fed → Type 0
Honest f h d = Since h d.taken.place d.message × Says f h d.taken.outcome d.message

-- a good message wants a buffer long enough
good_fits : (f : Form) (p : Place) (m : List ℕ) (b c at n : ℕ) → (take_in f p m b).taken.outcome ≡ good_message c at n → longest_in f ≤ length m
good_fits f p m b c at n =
    take_cases f (λ (d : Fed). d.taken.outcome ≡ good_message c at n → longest_in f ≤ length m) p m b (λ e. absurd (let z : ◌≡◌ {A = ℕ} 0 1 = cc in omega arith)) (λ fits _. fits)

module _ (f : Form) (s : Serial f) where
  -- a byte of a message, on the wire after it
  put_honest : {k : ℕ} {m : List ℕ} {x : ℕ} {d : Fed} (pre h : List ℕ) → k < length m → h ≡ pre ++ on_wire (take k m ++ x ∷ []) → PutsIn f k m x d → Honest f h d
  put_honest {k} {m} {x} pre h within e refuses = (outside h m, tt)
  put_honest {k} {m} {x} pre h within e (goes g) = ((pre, e ∙ rw (add-one, take-suc-set m k x within)), tt)
  put_honest {k} {m} {x} pre h within e (fills n some few z l c) = (
    outside h (set m k x),
    record {
      start = refl;
      some = some;
      few = few;
      whole = rw (length-set m k x) (omega arith);
      len = l;
      ctr = refl;
      checksum = c;
      earlier = pre;
      bytes = e ∙ rw (← z, add-one, take-suc-set m k x within);
    },
  )
  put_honest {k} {m} {x} pre h within e spoils = (outside h (set m k x), tt)

  -- a byte of the wire, and then a run
  take_honest : {p : Place} {m : List ℕ} {b : ℕ} {d : Fed} (h : List ℕ) → longest_in f ≤ length m → Since h (place_by (messages_in f) p m) m → Takes (messages_in f) p m b d → Honest f (h ++ b ∷ []) d
  take_honest {p} {m} {b} h fits i (begins e) = ((h, rw e), cut_says f (place_by (messages_in f) p m) (h ++ b ∷ []) m)
  take_honest {p} {m} {b} h fits i (passes e) = (outside (h ++ b ∷ []) m, tt)
  take_honest {p} {m} {b} h fits i (escapes k e g t) = ((i.0, rw (t, i.1, e) (append_assoc i.0 (on_wire (take k m)) (ESC ∷ []))), tt)
  take_honest {p} {m} {b} h fits i (brings k x g w) =
      put_honest i.0 (h ++ b ∷ []) (omega (arith, put_within_in f s k (len_in f m) g))
      (ap (λ (l : List ℕ). l ++ b ∷ []) i.1 ∙ append_assoc i.0 (before (place_by (messages_in f) p m) m) (b ∷ []) ∙ ap (λ (l : List ℕ). i.0 ++ l) w)
      (puts_in f k m x g)
  take_honest {p} {m} {b} h fits i breaks = (outside (h ++ b ∷ []) m, tt)

  fed_honest : (p : Place) (m h : List ℕ) (b : ℕ) → longest_in f ≤ length m → Since h (place_by (messages_in f) p m) m → Honest f (h ++ b ∷ []) (take_in f p m b)
  fed_honest p m h b fits i = subst (Honest f (h ++ b ∷ [])) (sym (take_long_in f p m b fits)) (take_honest h fits i (takes (messages_in f) p m b))

  run_honest : (p : Place) (m h bs : List ℕ) → longest_in f ≤ length m → Since h (place_by (messages_in f) p m) m
      → Since (h ++ bs) (place_by (messages_in f) (run_in f p m bs).place (run_in f p m bs).message) (run_in f p m bs).message
  run_honest p m h [] fits i = rw (append-nil h) i
  run_honest p m h (b ∷ bs) fits i =
      let d : Fed = take_in f p m b in
      rw (append_assoc h (b ∷ []) bs) at
      (run_honest d.taken.place d.message (h ++ b ∷ []) bs (omega (arith, take_length_in f p m b)) (rw (take_place_in f s p m b fits) (fed_honest p m h b fits i).0))

-- after the bytes bs, from any place p and with any buffer m, the byte b gives a good message
module _ (f : Form) (s : Serial f) (p : Place) (m bs : List ℕ) (b c at n : ℕ) (good : (last_in f p m bs b).taken.outcome ≡ good_message c at n) where
  -- the message, as it then lies in the buffer
  abbrev pub read : List ℕ
  read = take (size_in f n) (last_in f p m bs b).message

  -- its frame came last, after what the place stands for
  pub sound : Came f c at n (last_in f p m bs b).message (before (place_by (messages_in f) p m) m ++ (bs ++ b ∷ []))
  sound =
      let q : List ℕ = before (place_by (messages_in f) p m) m in
      let r = run_in f p m bs in
      let fits' : longest_in f ≤ length r.message = good_fits f r.place r.message b c at n good in
      let fits : longest_in f ≤ length m = omega (arith, run_length f p m bs) in
      let i : Since (q ++ bs) (place_by (messages_in f) r.place r.message) r.message = run_honest f s p m q bs fits ([], refl) in
      let t : Says f ((q ++ bs) ++ b ∷ []) (last_in f p m bs b).taken.outcome (last_in f p m bs b).message =
      (fed_honest f s r.place r.message (q ++ bs) b fits' i).1 in
      rw append_assoc at (subst (λ (o : Outcome). Says f ((q ++ bs) ++ b ∷ []) o (last_in f p m bs b).message) good t)

  -- the bytes since the last SYNC are the frame of that very message
  pub sound_sync : (xs ys : List ℕ) → bs ++ b ∷ [] ≡ xs ++ SYNC ∷ ys → has SYNC ys ≡ false → SYNC ∷ ys ≡ on_wire read
  sound_sync xs ys e none =
      let q : List ℕ = before (place_by (messages_in f) p m) m in
      ap (λ (l : List ℕ). SYNC ∷ l)
      (last_sync (q ++ xs) ys sound.earlier (stuff read) none (stuff_plain read) (append_assoc q xs (SYNC ∷ ys) ∙ rw (← e) sound.bytes))

  -- bytes with no SYNC among them go on from the bytes that the place had
  goes_on_lem : (k : ℕ) (ys : List ℕ) → has SYNC ys ≡ false → before (place_by (messages_in f) p m) m ++ (bs ++ b ∷ []) ≡ on_wire (take k m) ++ ys
      → read ≡ take k m ++ unstuff ys
  goes_on_lem k ys none e =
      let t : stuff (take k m) ++ ys ≡ stuff read =
      last_sync [] (stuff (take k m) ++ ys) sound.earlier (stuff read) (has_append SYNC (stuff (take k m)) ys (stuff_plain (take k m)) none) (stuff_plain read) (sym e ∙ sound.bytes) in
      sym (unstuff_stuff read) ∙ rw (← t) (unstuff_on (take k m) ys)

  -- with no SYNC at all, the message is what the place had and the bytes since, unstuffed
  pub sound_inside : (k : ℕ) → place_by (messages_in f) p m ≡ Inside k → has SYNC (bs ++ b ∷ []) ≡ false → read ≡ take k m ++ unstuff (bs ++ b ∷ [])
  sound_inside k e none = goes_on_lem k (bs ++ b ∷ []) none (rw e)

  -- likewise where the place had an ESC besides
  pub sound_escaped : (k : ℕ) → place_by (messages_in f) p m ≡ Escaped k → has SYNC (bs ++ b ∷ []) ≡ false → read ≡ take k m ++ unstuff (ESC ∷ bs ++ b ∷ [])
  sound_escaped k e none = goes_on_lem k (ESC ∷ bs ++ b ∷ []) none (rw e (append_assoc (on_wire (take k m)) (ESC ∷ []) (bs ++ b ∷ [])))

  -- and outside there is no good message without a SYNC
  pub sound_outside : place_by (messages_in f) p m ≡ Outside → has SYNC (bs ++ b ∷ []) ≡ false → ⊥
  sound_outside e none =
      let w : bs ++ b ∷ [] ≡ sound.earlier ++ on_wire read = rw e at sound.bytes in
      false_true (sym none ∙ rw w (has_here SYNC sound.earlier _))

-- where numbers lie exactly, the message in the buffer is that of its LEN, its CTR, and its packet with the fill
module _ (f : Form) (c at n : ℕ) (m h : List ℕ) (came : Came f c at n m h) (exact : Exact f.width m) (exact' : Exact f.sum_width m) where
  head_read : take (checksum_at f n) m ≡ in_bytes f.width n ++ (in_bytes f.width c ++ part at (n + f.fill n) m)
  head_read =
      let len : take f.width m ≡ in_bytes f.width n = exact 0 (omega (arith, came.whole)) ∙ ap (in_bytes f.width) came.len in
      let ctr : part f.width f.width m ≡ in_bytes f.width c = exact f.width (omega (arith, came.whole)) ∙ ap (in_bytes f.width) came.ctr in
      take-add (packet_begins f) (n + f.fill n) m ∙ rw (take-add f.width f.width m, len, ctr, came.start) (append_assoc (in_bytes f.width n) (in_bytes f.width c) (part (packet_begins f) (n + f.fill n) m))

  pub message_read : take (size_in f n) m ≡ with_checksum_in f (in_bytes f.width n ++ (in_bytes f.width c ++ part at (n + f.fill n) m))
  message_read =
      take-add (checksum_at f n) f.sum_width m
      ∙ ap (λ (l : List ℕ). take (checksum_at f n) m ++ l) (exact' (checksum_at f n) came.whole ∙ ap (in_bytes f.sum_width) came.checksum)
      ∙ ap (with_checksum_in f) head_read

-- ---- the byte form
-- one byte is its own number
exact_byte : (m : List ℕ) → Exact byte_form.width m
exact_byte m i h = rw (drop-cons m i 0 (omega arith))

-- the message in the buffer is that of its CTR and packet
pub byte_read : (c at n : ℕ) (m h : List ℕ) → Came byte_form c at n m h → take (size_in byte_form n) m ≡ message c (part at n m)
byte_read c at n m h came =
    let long : length (part at n m) ≡ n = length-take-le n (drop at m) (rw length-drop (omega (arith, came.start, came.whole))) in
    message_read byte_form c at n m h came (exact_byte m) (exact_byte m) ∙ rw (add-zero, long)

-- so the bytes that the place stands for and those since end in the very frame
pub sound_frame : (p : Place) (m bs : List ℕ) (b c at n : ℕ) → (last_of p m bs b).taken.outcome ≡ good_message c at n
    → (earlier : List ℕ) × (before (place_by messages p m) m ++ (bs ++ b ∷ []) ≡ earlier ++ frame c (part at n (last_of p m bs b).message))
unfolding take_of
sound_frame p m bs b c at n good =
    let came = sound byte_form byte_serial p m bs b c at n good in
    (came.earlier, came.bytes ∙ ap (λ (q : List ℕ). came.earlier ++ on_wire q) (byte_read c at n (last_in byte_form p m bs b).message _ came))

-- where a good message lies in the buffer
pub good_where : (p : Place) (m : List ℕ) (b c at n : ℕ) → (take_of p m b).taken.outcome ≡ good_message c at n → (at ≡ packet_begins byte_form) × (1 ≤ n) × (n ≤ most) × (at + n ≤ longest)
unfolding take_of
good_where p m b c at n good =
    let came : Came byte_form c at n (take_in byte_form p m b).message (before (place_by messages p m) m ++ b ∷ []) = sound byte_form byte_serial p m [] b c at n good in
    (came.start, came.some, came.few, omega arith)
