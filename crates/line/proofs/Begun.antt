-- What a place that a message can have says of the buffer. Assumes nothing.
use Rattle.std.proofs.Common.{◌≡◌, ℕ, ◌<◌, ◌≤◌, Bool, true, false, cond, eqb, ltb, List, refl, arith, ltb-false, ltb-true, le-ltb, lt-ltb, ne_eqb}
use Rattle.std.proofs.lemmas.Bool.{eqb-false}
use Rattle.line.specs.Form.{Form}
use Rattle.line.specs.Message.{size_in}
use Rattle.line.specs.Unstuffing.{Messages, place_by}
use Rattle.line.specs.Reader.{begun_in}
use Rattle.line.specs.declared.Place.{Place}
use Rattle.line.specs.declared.Place.TheVariants.{Outside, Inside, Escaped}
use Rattle.line.proofs.Laws.{false_true, cond_ind}

-- a message that has begun, and whose LEN has come, has a right LEN, and its last byte is still out
pub record Begun (f : Form) (k n : ℕ) : Type 0 where
  pub some : 1 ≤ n
  pub few : n ≤ f.most
  pub short : k < size_in f n

module _ (f : Form) (k n : ℕ) where
  pub begun_known : begun_in f k n ≡ true → f.width ≤ k → Begun f k n
  begun_known b whole =
      cond_ind (λ (t : Bool). t ≡ true → Begun f k n) (eqb n 0) (λ _ e. absurd (false_true e))
      (λ e. cond_ind (λ (t : Bool). t ≡ true → Begun f k n) (ltb f.most n) (λ _ e. absurd (false_true e))
      (λ g h. record { some = omega (arith, eqb-false n 0 e); few = ltb-false f.most n g; short = ltb-true k (size_in f n) h }))
      (rw (le-ltb k f.width whole) at b)

  pub begun_right : 1 ≤ n → n ≤ f.most → k < size_in f n → begun_in f k n ≡ true
  begun_right some few short =
      let nz : n ≡ 0 → ⊥ = λ (z : n ≡ 0). omega arith in
      cond_ind (λ (t : Bool). t ≡ true) (ltb k f.width) (λ _. refl) (λ _. simp (ne_eqb n 0 nz, le-ltb f.most n few, lt-ltb k (size_in f n) short))

  -- with its last byte a message has ended
  pub begun_ended : f.width ≤ k → size_in f n ≤ k → begun_in f k n ≡ false
  begun_ended whole long =
      rw (le-ltb k f.width whole)
      (cond_ind (λ (t : Bool). t ≡ false) (eqb n 0) (λ _. refl)
      (λ _. cond_ind (λ (t : Bool). t ≡ false) (ltb f.most n) (λ _. refl) (λ _. le-ltb k (size_in f n) long)))

-- a place that reads as itself has begun
inside_outside : (k : ℕ) → Outside ≡ Inside k → ⊥
inside_outside k e = let z : ◌≡◌ {A = ℕ} 0 1 = cc in omega arith

escaped_outside : (k : ℕ) → Outside ≡ Escaped k → ⊥
escaped_outside k e = let z : ◌≡◌ {A = ℕ} 0 1 = cc in omega arith

pub inside_begun : (r : Messages) (k : ℕ) (m : List ℕ) → place_by r (Inside k) m ≡ Inside k → r.begun k m ≡ true
inside_begun r k m = go (r.begun k m)
  where
    go : (t : Bool) → cond t (Inside k) Outside ≡ Inside k → t ≡ true
    go true e = refl
    go false e = absurd (inside_outside k e)

pub escaped_begun : (r : Messages) (k : ℕ) (m : List ℕ) → place_by r (Escaped k) m ≡ Escaped k → r.begun k m ≡ true
escaped_begun r k m = go (r.begun k m)
  where
    go : (t : Bool) → cond t (Escaped k) Outside ≡ Escaped k → t ≡ true
    go true e = refl
    go false e = absurd (escaped_outside k e)

-- what a place reads as reads as itself
pub reads_again : (r : Messages) (p : Place) (m : List ℕ) → place_by r (place_by r p m) m ≡ place_by r p m
reads_again r Outside m = refl
reads_again r (Inside k) m = go (r.begun k m) refl
  where
    go : (t : Bool) → r.begun k m ≡ t → place_by r (cond t (Inside k) Outside) m ≡ cond t (Inside k) Outside
    go true e = rw e
    go false e = refl
reads_again r (Escaped k) m = go (r.begun k m) refl
  where
    go : (t : Bool) → r.begun k m ≡ t → place_by r (cond t (Escaped k) Outside) m ≡ cond t (Escaped k) Outside
    go true e = rw e
    go false e = refl
