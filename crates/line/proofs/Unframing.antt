-- One received byte, over any reader of message bytes, by cases: what it can be, and what it then leads to. Assumes nothing.
use Rattle.std.proofs.Common.{◌≡◌, ℕ, true, false, eqb, List, [], ◌∷◌, ◌++◌, take, refl, append_assoc, eqb-true, Err}
use Rattle.line.specs.Stuffing.{SYNC, ESC, stuff_byte, on_wire}
use Rattle.line.specs.Unstuffing.{Fed, Messages, on, over, place_by, cut_of, inside_by, take_by}
use Rattle.line.specs.Wire.{before}
use Rattle.line.specs.declared.Place.{Place}
use Rattle.line.specs.declared.Place.TheVariants.{Outside, Inside, Escaped}
use Rattle.line.proofs.Laws.{cond_ind, stuff_append, stuff_one}
use Rattle.line.proofs.Begun.{inside_begun, escaped_begun, reads_again}
use Rattle.line.specs.declared.Fault.TheVariants.{BadEscape}

-- a byte b at place p, with m in the buffer
pub data Takes (r : Messages) (p : Place) (m : List ℕ) (b : ℕ) : Fed → Type 0 where
  -- a SYNC
  begins : b ≡ SYNC → Takes r p m b (record { taken = record { place = Inside 0; outcome = cut_of (place_by r p m) }; message = m })
  -- another byte outside
  passes : place_by r p m ≡ Outside → Takes r p m b (on Outside m)
  -- an ESC
  escapes : (k : ℕ) → place_by r p m ≡ Inside k → r.begun k m ≡ true → b ≡ ESC → Takes r p m b (on (Escaped k) m)
  -- a byte x of the message has come whole
  brings : (k x : ℕ) → r.begun k m ≡ true → before (place_by r p m) m ++ b ∷ [] ≡ on_wire (take k m ++ x ∷ []) → Takes r p m b (r.put k m x)
  -- an escape that is none
  breaks : Takes r p m b (over (Err BadEscape) m)

-- a byte more of a message, on the wire
wire_next : (xs : List ℕ) (x : ℕ) → on_wire (xs ++ x ∷ []) ≡ on_wire xs ++ stuff_byte x
wire_next xs x = rw (stuff_append xs (x ∷ []), stuff_one x)

inside : (r : Messages) (p q : Place) (m : List ℕ) (b : ℕ) → place_by r p m ≡ q → place_by r q m ≡ q → eqb b SYNC ≡ false → Takes r p m b (inside_by r q m b)
inside r p Outside m b e g n = passes e
inside r p (Inside k) m b e g n =
    let h : r.begun k m ≡ true = inside_begun r k m g in
    cond_ind (Takes r p m b) (eqb b ESC) (λ t. escapes k e h (eqb-true b ESC t)) (λ f. brings k b h (rw (e, wire_next (take k m) b) (simp (n, f))))
inside r p (Escaped k) m b e g n =
    let h : r.begun k m ≡ true = escaped_begun r k m g in
    let w : (x : ℕ) → stuff_byte x ≡ ESC ∷ b ∷ [] → before (place_by r p m) m ++ b ∷ [] ≡ on_wire (take k m ++ x ∷ []) =
    λ x s. rw (e, wire_next (take k m) x, s) (append_assoc (on_wire (take k m)) (ESC ∷ []) (b ∷ [])) in
    cond_ind (Takes r p m b) (eqb b 0) (λ t. brings k ESC h (w ESC (rw (eqb-true b 0 t))))
    (λ _. cond_ind (Takes r p m b) (eqb b 1) (λ t. brings k SYNC h (w SYNC (rw (eqb-true b 1 t)))) (λ _. breaks))

pub takes : (r : Messages) (p : Place) (m : List ℕ) (b : ℕ) → Takes r p m b (take_by r p m b)
takes r p m b = cond_ind (Takes r p m b) (eqb b SYNC) (λ t. begins (eqb-true b SYNC t)) (inside r p (place_by r p m) m b refl (reads_again r p m))
