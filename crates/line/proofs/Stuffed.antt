-- Stuffed bytes and frames: no SYNC is among stuffed bytes, unstuffing undoes stuffing, and a frame is short. Assumes nothing.
use Rattle.std.proofs.Common.{◌≡◌, ℕ, ◌≤◌, Bool, true, false, cond, eqb, List, [], ◌∷◌, ◌++◌, length, sym, refl, ap, ◌∙◌, append_assoc, append-nil, arith, eq-eqb, eqb-true}
use Rattle.line.specs.Stuffing.{SYNC, ESC, stuff_byte, stuff}
use Rattle.line.specs.Form.{Form}
use Rattle.line.specs.Message.{size_in, room_in, Serial, message_in, frame_in, byte_form, most, room, message, frame}
use Rattle.line.specs.Wire.{has, unstuff}
use Rattle.line.proofs.Laws.{cond_ind, stuff_short}
use Rattle.line.proofs.Numbers.{message_length_in, byte_serial}
pub use Rattle.line.proofs.Laws.{false_true}

-- ---- whether a byte is among bytes
pub has_append : (b : ℕ) (xs ys : List ℕ) → has b xs ≡ false → has b ys ≡ false → has b (xs ++ ys) ≡ false
has_append b [] ys e f = f
has_append b (x ∷ xs) ys e f = go (eqb x b) e (λ g. has_append b xs ys g f)
  where
    go : (t : Bool) → cond t true (has b xs) ≡ false → (has b xs ≡ false → has b (xs ++ ys) ≡ false) → cond t true (has b (xs ++ ys)) ≡ false
    go true g k = g
    go false g k = k g

pub has_here : (b : ℕ) (xs ys : List ℕ) → has b (xs ++ b ∷ ys) ≡ true
has_here b [] ys = simp (eq-eqb b b refl)
has_here b (x ∷ xs) ys = cond_ind (λ (t : Bool). t ≡ true) (eqb x b) (λ _. refl) (λ _. has_here b xs ys)

-- ---- stuffed bytes
-- a byte as it stands on the wire has no SYNC
byte_plain : (b : ℕ) → has SYNC (stuff_byte b) ≡ false
byte_plain b = go (eqb b SYNC) (eqb b ESC) refl
  where
    go : (t u : Bool) → eqb b SYNC ≡ t → has SYNC (cond t (ESC ∷ 1 ∷ []) (cond u (ESC ∷ 0 ∷ []) (b ∷ []))) ≡ false
    go true u e = refl
    go false true e = refl
    go false false e = simp e

pub stuff_plain : (xs : List ℕ) → has SYNC (stuff xs) ≡ false
stuff_plain [] = refl
stuff_plain (x ∷ xs) = has_append SYNC (stuff_byte x) (stuff xs) (byte_plain x) (stuff_plain xs)

unstuff_byte : (x : ℕ) (bs : List ℕ) → unstuff (stuff_byte x ++ bs) ≡ x ∷ unstuff bs
unstuff_byte x bs = go (eqb x SYNC) (eqb x ESC) refl refl
  where
    go : (t u : Bool) → eqb x SYNC ≡ t → eqb x ESC ≡ u → unstuff (cond t (ESC ∷ 1 ∷ []) (cond u (ESC ∷ 0 ∷ []) (x ∷ [])) ++ bs) ≡ x ∷ unstuff bs
    go true u e f = rw (eqb-true x SYNC e)
    go false true e f = rw (eqb-true x ESC f)
    go false false e f = simp f

-- unstuffing undoes stuffing, and goes on after it
pub unstuff_on : (xs bs : List ℕ) → unstuff (stuff xs ++ bs) ≡ xs ++ unstuff bs
unstuff_on [] bs = refl
unstuff_on (x ∷ xs) bs = rw append_assoc (unstuff_byte x (stuff xs ++ bs) ∙ ap (λ (l : List ℕ). x ∷ l) (unstuff_on xs bs))

pub unstuff_stuff : (xs : List ℕ) → unstuff (stuff xs) ≡ xs
unstuff_stuff xs = rw (append-nil (stuff xs), append-nil xs) at (unstuff_on xs [])

-- ---- frames
-- SYNC is a frame's first byte, and no other
pub frame_sync : (f : Form) (ctr : ℕ) (packet : List ℕ) → (frame_in f ctr packet ≡ SYNC ∷ stuff (message_in f ctr packet)) × (has SYNC (stuff (message_in f ctr packet)) ≡ false)
frame_sync f ctr packet = (refl, stuff_plain (message_in f ctr packet))

pub frame_short_in : (f : Form) → Serial f → (ctr : ℕ) (packet : List ℕ) → length packet ≤ f.most → length (frame_in f ctr packet) ≤ room_in f
frame_short_in f s ctr packet few = omega (arith, stuff_short (message_in f ctr packet), message_length_in f ctr packet, s.within (length packet) few)

pub message_length : (ctr : ℕ) (packet : List ℕ) → length (message ctr packet) ≡ size_in byte_form (length packet)
message_length = message_length_in byte_form

pub frame_short : (ctr : ℕ) (packet : List ℕ) → length packet ≤ most → length (frame ctr packet) ≤ room
frame_short = frame_short_in byte_form byte_serial

-- where two lists have a SYNC and none after it, they are equal from it on if they are equal
pub last_sync : (xs ys pre zs : List ℕ) → has SYNC ys ≡ false → has SYNC zs ≡ false → xs ++ SYNC ∷ ys ≡ pre ++ SYNC ∷ zs → ys ≡ zs
last_sync [] ys [] zs e f g = cc
last_sync [] ys (p ∷ pre) zs e f g = let h : ys ≡ pre ++ SYNC ∷ zs = cc in absurd (false_true (sym e ∙ rw h (has_here SYNC pre zs)))
last_sync (x ∷ xs) ys [] zs e f g = let h : zs ≡ xs ++ SYNC ∷ ys = cc in absurd (false_true (sym f ∙ rw h (has_here SYNC xs ys)))
last_sync (x ∷ xs) ys (p ∷ pre) zs e f g = let h : xs ++ SYNC ∷ ys ≡ pre ++ SYNC ∷ zs = cc in last_sync xs ys pre zs e f h
