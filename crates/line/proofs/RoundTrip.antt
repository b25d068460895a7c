-- What is framed is received: from any place, and after anything, a frame gives its packet, once, at its last byte. Assumes nothing.
use Rattle.std.proofs.Common.{◌≡◌, ℕ, ◌+◌, ◌-◌, ◌≤◌, Bool, true, false, ltb, List, [], ◌∷◌, ◌++◌, length, take, drop, set, sym, refl, ap, ◌∙◌, subst, append_assoc, append-nil, arith, length-append, take_at, ltb-false, le-ltb, eq-eqb}
use Rattle.line.specs.Stuffing.{stuff}
use Rattle.line.specs.Form.{Form, in_bytes, number_at}
use Rattle.line.specs.Message.{packet_begins, checksum_at, size_in, longest_in, Serial, head_in, message_in, frame_in, byte_form, most, longest, frame}
use Rattle.line.specs.Unstuffing.{on, over, place_by, cut_of, take_by}
use Rattle.line.specs.Reader.{len_in, begun_in, judged_in, put_in, messages_in, take_in, take_of}
use Rattle.line.specs.Writer.{at_front}
use Rattle.line.specs.Run.{Ran, run_by, run_in, run_of}
use Rattle.line.specs.Wire.{part, and_then, heard_in, heard}
use Rattle.line.specs.declared.Place.{Place}
use Rattle.line.specs.declared.Place.TheVariants.{Outside, Inside}
use Rattle.line.proofs.Laws.{front_next}
use Rattle.line.proofs.Numbers.{number_front, head_length, message_length_in, len_lies, ctr_lies, check_lies, packet_lies, byte_serial}
use Rattle.line.proofs.Begun.{begun_right, begun_ended}
use Rattle.line.proofs.Fronts.{front_split}
use Rattle.line.proofs.Framing.{Along, here, step, quiet, framed}
use Rattle.line.proofs.Runs.{run_append, run_length, run_long}
use Rattle.line.specs.Values.{good_message}

-- bytes that have a last one
split_last : (q : List ℕ) → 1 ≤ length q → (xs : List ℕ) × (x : ℕ) × (xs ++ x ∷ [] ≡ q)
split_last [] some = absurd (omega arith)
split_last (x ∷ []) some = ([], x, refl)
split_last (x ∷ y ∷ q) some = let r = split_last (y ∷ q) (omega arith) in (x ∷ r.0, r.1, ap (λ (l : List ℕ). x ∷ l) r.2)

-- what is judged by what lies in the buffer
judged_by : (f : Form) (l : List ℕ) (n c x : ℕ) → len_in f l ≡ n → number_at f.width f.width l ≡ c → number_at f.sum_width (checksum_at f n) l ≡ x
    → f.checksum (take (checksum_at f n) l) ≡ x → judged_in f l ≡ good_message c (packet_begins f) n
judged_by f l n c x e₁ e₂ e₃ e₄ = simp (e₁, e₂, e₃, e₄, eq-eqb x x refl)

module _ (f : Form) (s : Serial f) (m packet : List ℕ) (ctr : ℕ) (fits : longest_in f ≤ length m) (some : 1 ≤ length packet) (few : length packet ≤ f.most) where
  abbrev whole : List ℕ
  whole = message_in f ctr packet

  whole_length : length whole ≡ size_in f (length packet)
  whole_length = message_length_in f ctr packet

  whole_fits : length whole ≤ length m
  whole_fits = omega (arith, whole_length, s.within (length packet) few)

  -- with the bytes xs of the message at the front of the buffer, and at least one still out, it has begun
  begun_there : (xs ys : List ℕ) → xs ++ ys ≡ whole → 1 ≤ length ys → begun_in f (length xs) (len_in f (at_front xs m)) ≡ true
  begun_there xs ys e one = go (ltb (length xs) f.width) refl
    where
      go : (t : Bool) → ltb (length xs) f.width ≡ t → begun_in f (length xs) (len_in f (at_front xs m)) ≡ true
      go true t = rw t
      go false t =
          let l : length xs + length ys ≡ size_in f (length packet) = sym (length-append xs ys) ∙ ap length e ∙ whole_length in
          let h : 0 + f.width ≤ length xs = omega (arith, ltb-false (length xs) f.width t) in
          let n : len_in f (at_front xs m) ≡ length packet =
          ap (len_in f) (front_split xs m (omega (arith, whole_fits, whole_length)))
          ∙ number_front f.width 0 xs (drop (length xs) m) h ∙ sym (number_front f.width 0 xs (ys ++ []) h)
          ∙ ap (len_in f) (sym (append_assoc xs ys [])) ∙ rw e (len_lies f s ctr packet []) in
          rw n (begun_right f (length xs) (length packet) some few (omega arith))

  -- a byte y after the bytes xs
  one : (xs : List ℕ) (y : ℕ) (ys : List ℕ) → xs ++ y ∷ ys ≡ whole → 1 ≤ length ys → put_in f (length xs) (at_front xs m) y ≡ on (Inside (length (xs ++ y ∷ []))) (at_front (xs ++ y ∷ []) m)
  one xs y ys e h =
      let l : length (xs ++ y ∷ []) ≡ length xs + 1 = length-append xs (y ∷ []) in
      let g : begun_in f (length xs + 1) (len_in f (set (at_front xs m) (length xs) y)) ≡ true =
      rw (l, front_next xs m y) at (begun_there (xs ++ y ∷ []) ys (append_assoc xs (y ∷ []) ys ∙ e) h) in
      rw (l, front_next xs m y) (simp g)

  -- after the bytes xs, the bytes ys lead to the bytes zs
  abbrev Leads : List ℕ → List ℕ → List ℕ → Type 0
  Leads xs ys zs = Along (messages_in f) (length xs) (at_front xs m) ys (length zs) (at_front zs m)

  -- all bytes but the last
  more : (xs ys : List ℕ) (x : ℕ) → xs ++ (ys ++ x ∷ []) ≡ whole → Leads xs ys (xs ++ ys)
  more xs [] x e = subst (Leads xs []) (sym (append-nil xs)) here
  more xs (y ∷ ys) x e =
      step (begun_there xs (y ∷ ys ++ x ∷ []) e (omega arith)) (one xs y (ys ++ x ∷ []) e (omega (arith, length-append ys (x ∷ []))))
      (subst (Leads (xs ++ y ∷ []) ys) (append_assoc xs (y ∷ []) ys) (more (xs ++ y ∷ []) ys x (append_assoc xs (y ∷ []) (ys ++ x ∷ []) ∙ e)))

  -- the message stands at the front of the buffer, and is judged good
  there : at_front whole m ≡ whole ++ drop (length whole) m
  there = front_split whole m whole_fits

  len_there : len_in f (at_front whole m) ≡ length packet
  len_there = ap (len_in f) there ∙ len_lies f s ctr packet (drop (length whole) m)

  judged : judged_in f (at_front whole m) ≡ good_message ctr (packet_begins f) (length packet)
  judged =
      let rest : List ℕ = drop (length whole) m in
      let head : List ℕ = head_in f ctr packet in
      let tail : List ℕ = in_bytes f.sum_width (f.checksum head) in
      ap (judged_in f) there
      ∙ judged_by f (whole ++ rest) (length packet) ctr (f.checksum head) (len_lies f s ctr packet rest) (ctr_lies f s ctr packet rest) (check_lies f s ctr packet rest)
      (ap (λ (l : List ℕ). f.checksum (take (checksum_at f (length packet)) l)) (append_assoc head tail rest)
      ∙ ap f.checksum (take_at head (tail ++ rest) (checksum_at f (length packet)) (head_length f ctr packet)))

  -- its last byte
  last : (xs : List ℕ) (x : ℕ) → xs ++ x ∷ [] ≡ whole → put_in f (length xs) (at_front xs m) x ≡ over (good_message ctr (packet_begins f) (length packet)) (at_front whole m)
  last xs x e =
      let l : length xs + 1 ≡ size_in f (length packet) = sym (length-append xs (x ∷ [])) ∙ ap length e ∙ whole_length in
      let b : set (at_front xs m) (length xs) x ≡ at_front whole m = sym (front_next xs m x) ∙ ap (λ (q : List ℕ). at_front q m) e in
      let g : begun_in f (length xs + 1) (len_in f (at_front whole m)) ≡ false =
      rw len_there (begun_ended f (length xs + 1) (length packet) (omega (arith, l, s.summed)) (omega (arith, l))) in
      rw b (simp (g, le-ltb (length xs) f.width (omega (arith, l, s.summed)), judged))

  -- what the message comes to after its SYNC
  through : (xs : List ℕ) (x : ℕ) → xs ++ x ∷ [] ≡ whole
      → run_by (take_by (messages_in f)) (Inside 0) m (stuff whole) ≡ quiet (length (stuff whole) - 1) (record { outcomes = (good_message ctr (packet_begins f) (length packet)) ∷ []; place = Outside; message = at_front whole m })
  through xs x e = rw (last xs x e, e) at (framed (messages_in f) x (more [] xs x e) (begun_there xs (x ∷ []) e (omega arith)))

  -- what a frame comes to, from any place
  pub round_trip_in : (p : Place) → run_in f p m (frame_in f ctr packet) ≡ heard_in f p m ctr packet
  round_trip_in p =
      let w = split_last whole (omega (arith, whole_length, s.summed)) in
      run_long f p m (frame_in f ctr packet) fits
      ∙ ap (λ (r : Ran). record { outcomes = cut_of (place_by (messages_in f) p m) ∷ r.outcomes; place = r.place; message = r.message }) (through w.0 w.1 w.2)

  -- the good message points to its packet in the buffer
  pub packet_there : part (packet_begins f) (length packet) (at_front whole m) ≡ packet
  packet_there = rw there (packet_lies f s ctr packet (drop (length whole) m))

-- the same after anything at all
pub after_anything : (f : Form) (s : Serial f) (p : Place) (m xs packet : List ℕ) (ctr : ℕ) → longest_in f ≤ length m → 1 ≤ length packet → length packet ≤ f.most
    → run_in f p m (xs ++ frame_in f ctr packet) ≡ and_then (run_in f p m xs) (heard_in f (run_in f p m xs).place (run_in f p m xs).message ctr packet)
after_anything f s p m xs packet ctr fits some few =
    run_append (take_in f) p m xs (frame_in f ctr packet)
    ∙ ap (and_then (run_in f p m xs)) (round_trip_in f s (run_in f p m xs).message packet ctr (omega (arith, run_length f p m xs)) some few (run_in f p m xs).place)

-- ---- the byte form
pub round_trip : (p : Place) (m packet : List ℕ) (ctr : ℕ) → longest ≤ length m → 1 ≤ length packet → length packet ≤ most → run_of p m (frame ctr packet) ≡ heard p m ctr packet
unfolding take_of
round_trip p m packet ctr fits some few = round_trip_in byte_form byte_serial m packet ctr fits some few p
