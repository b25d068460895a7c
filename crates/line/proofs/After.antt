-- After one received byte: the buffer's length, the place, and what a SYNC says. Assumes nothing.
use Rattle.std.proofs.Common.{◌≡◌, ℕ, ◌≤◌, Bool, true, false, cond, eqb, List, length, sym, refl, ◌∙◌, arith, length-set, lt-ltb, ne_eqb, None, Ok, Err}
use Rattle.std.proofs.lemmas.Bool.{eqb-false}
use Rattle.line.specs.Stuffing.{SYNC}
use Rattle.line.specs.Form.{Form}
use Rattle.line.specs.Message.{longest_in, Serial, byte_form, longest}
use Rattle.line.specs.Unstuffing.{Fed, on, place_by, cut_of}
use Rattle.line.specs.Reader.{messages_in, take_in, messages, take_of}
use Rattle.line.specs.Wire.{Partway, ends}
use Rattle.line.specs.declared.Place.{Place}
use Rattle.line.specs.declared.Place.TheVariants.{Outside, Inside, Escaped}
use Rattle.line.specs.Values.{Outcome}
use Rattle.line.proofs.Laws.{false_true, cond_ind}
use Rattle.line.proofs.Numbers.{byte_serial}
use Rattle.line.proofs.Unframing.{Takes, begins, passes, escapes, brings, breaks, takes}
use Rattle.line.proofs.Steps.{PutsIn, refuses, goes, fills, spoils, puts_in, take_cases, take_long_in}
use Rattle.line.specs.declared.Fault.TheVariants.{CutOff}

-- ---- a SYNC
-- it reports a message cut off where at least one byte of one has come, and only there
pub cut_off : (q : Place) → Partway q → cut_of q ≡ Err CutOff
cut_off Outside w = absurd w
cut_off (Inside k) w = let nz : k ≡ 0 → ⊥ = λ (z : k ≡ 0). omega arith in simp (ne_eqb _ _ nz)
cut_off (Escaped k) w = refl

pub cut_nothing : (q : Place) → (Partway q → ⊥) → cut_of q ≡ Ok None
cut_nothing Outside w = refl
cut_nothing (Inside k) w = cond_ind (λ (o : Outcome). o ≡ Ok None) (eqb k 0) (λ _. refl) (λ t. absurd (w (omega (arith, eqb-false k 0 t))))
cut_nothing (Escaped k) w = absurd (w tt)

pub cut_only : (q : Place) → cut_of q ≡ Err CutOff → Partway q
cut_only Outside e = absurd (let z : ◌≡◌ {A = ℕ} 0 1 = cc in omega arith)
cut_only (Inside k) e = go (eqb k 0) refl e
  where
    go : (t : Bool) → eqb k 0 ≡ t → cond {A = Outcome} t (Ok None) (Err CutOff) ≡ Err CutOff → 1 ≤ k
    go true t e = absurd (let z : ◌≡◌ {A = ℕ} 0 1 = cc in omega arith)
    go false t e = omega (arith, eqb-false k 0 t)
cut_only (Escaped k) e = tt

cut_goes : (q : Place) → ends (cut_of q) ≡ false
cut_goes Outside = refl
cut_goes (Inside k) = cond_ind (λ (o : Outcome). ends o ≡ false) (eqb k 0) (λ _. refl) (λ _. refl)
cut_goes (Escaped k) = refl

module _ (f : Form) where
  -- from any place it begins a new message
  pub sync_begins : (p : Place) (m : List ℕ) → longest_in f ≤ length m
      → take_in f p m SYNC ≡ record { taken = record { place = Inside 0; outcome = cut_of (place_by (messages_in f) p m) }; message = m }
  sync_begins p m fits = take_long_in f p m SYNC fits

  -- ---- the buffer keeps its length
  put_length : {k : ℕ} {m : List ℕ} {x : ℕ} {d : Fed} → PutsIn f k m x d → length d.message ≡ length m
  put_length refuses = refl
  put_length {k} {m} {x} (goes g) = length-set m k x
  put_length {k} {m} {x} (fills n some few e l s) = length-set m k x
  put_length {k} {m} {x} spoils = length-set m k x

  fed_length : {p : Place} {m : List ℕ} {b : ℕ} {d : Fed} → Takes (messages_in f) p m b d → length d.message ≡ length m
  fed_length (begins e) = refl
  fed_length (passes e) = refl
  fed_length (escapes k e g b) = refl
  fed_length {p} {m} (brings k x g e) = put_length (puts_in f k m x g)
  fed_length breaks = refl

  pub take_length_in : (p : Place) (m : List ℕ) (b : ℕ) → length (take_in f p m b).message ≡ length m
  take_length_in p m b = take_cases f (λ (d : Fed). length d.message ≡ length m) p m b refl (λ _. fed_length (takes (messages_in f) p m b))

  -- ---- the place reads as itself
  abbrev Legal : Fed → Type 0
  Legal d = place_by (messages_in f) d.taken.place d.message ≡ d.taken.place

  put_legal : {k : ℕ} {m : List ℕ} {x : ℕ} {d : Fed} → PutsIn f k m x d → Legal d
  put_legal refuses = refl
  put_legal (goes g) = rw g
  put_legal (fills n some few e l s) = refl
  put_legal spoils = refl

  fed_legal : {p : Place} {m : List ℕ} {b : ℕ} {d : Fed} → Serial f → Takes (messages_in f) p m b d → Legal d
  fed_legal s (begins e) = rw (lt-ltb 0 f.width s.wide)
  fed_legal s (passes e) = refl
  fed_legal s (escapes k e g b) = rw g
  fed_legal {p} {m} s (brings k x g e) = put_legal (puts_in f k m x g)
  fed_legal s breaks = refl

  -- the place after a byte is one that a message can have
  pub take_place_in : Serial f → (p : Place) (m : List ℕ) (b : ℕ) → longest_in f ≤ length m → Legal (take_in f p m b)
  take_place_in s p m b fits = rw (take_long_in f p m b fits) (fed_legal s (takes (messages_in f) p m b))

  -- ---- a message that ends, good or bad
  abbrev Ended : Fed → Type 0
  Ended d = ends d.taken.outcome ≡ true → d.taken.place ≡ Outside

  put_ended : {k : ℕ} {m : List ℕ} {x : ℕ} {d : Fed} → PutsIn f k m x d → Ended d
  put_ended refuses = λ _. refl
  put_ended (goes g) = λ e. absurd (false_true e)
  put_ended (fills n some few e l s) = λ _. refl
  put_ended spoils = λ _. refl

  fed_ended : {p : Place} {m : List ℕ} {b : ℕ} {d : Fed} → Takes (messages_in f) p m b d → Ended d
  fed_ended {p} {m} (begins e) = λ t. absurd (false_true (sym (cut_goes (place_by (messages_in f) p m)) ∙ t))
  fed_ended (passes e) = λ _. refl
  fed_ended (escapes k e g b) = λ e. absurd (false_true e)
  fed_ended {p} {m} (brings k x g e) = put_ended (puts_in f k m x g)
  fed_ended breaks = λ _. refl

  -- after it the reader waits for SYNC
  pub take_ended : (p : Place) (m : List ℕ) (b : ℕ) → Ended (take_in f p m b)
  take_ended p m b = take_cases f Ended p m b (λ e. absurd (false_true e)) (λ _. fed_ended (takes (messages_in f) p m b))

  -- outside, any byte but SYNC is passed over
  pub take_outside : (m : List ℕ) (b : ℕ) → longest_in f ≤ length m → eqb b SYNC ≡ false → take_in f Outside m b ≡ on Outside m
  take_outside m b fits n = take_long_in f Outside m b fits ∙ simp n

-- ---- the byte form
pub take_length : (p : Place) (m : List ℕ) (b : ℕ) → length (take_of p m b).message ≡ length m
unfolding take_of
take_length = take_length_in byte_form

pub take_place : (p : Place) (m : List ℕ) (b : ℕ) → longest ≤ length m → place_by messages (take_of p m b).taken.place (take_of p m b).message ≡ (take_of p m b).taken.place
unfolding take_of
take_place = take_place_in byte_form byte_serial
