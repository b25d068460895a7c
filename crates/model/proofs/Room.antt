-- How many entries a packet has room for: as many as its bytes allow, and all where all fit. Assumes nothing.
use Rattle.std.proofs.Common.{ℕ, zero, suc, ◌+◌, ◌-◌, ◌≤◌, ◌<◌, ◌≡◌, refl, ap₂, subst, Bool, true, false, cond, add-zero, add-suc, arith, leb-true, leb-false, le-leb, leb}
use Rattle.line.proofs.Laws.{cond_ind}
use Rattle.model.specs.Model.{Odt, sizes_of}
use Rattle.model.specs.Calls.{taken}
use Rattle.model.proofs.Fits.{sizes_same}

grows : (y : Odt) (i d : ℕ) → sizes_of y i ≤ sizes_of y (i + d)
unfolding sizes_of
grows y i zero = rw add-zero (omega arith)
grows y i (suc d) = rw add-suc (omega (arith, grows y i d))

-- the first i entries have no more bytes than the first n
pub sizes_grow : (y : Odt) (i n : ℕ) → i ≤ n → sizes_of y i ≤ sizes_of y n
sizes_grow y i n h =
    let rest : i + (n - i) ≡ n = omega arith in
    subst (λ (m : ℕ). sizes_of y i ≤ sizes_of y m) rest (grows y i (n - i))

module _ (room : ℕ) (y : Odt) where
  pub taken_most_lem : (n : ℕ) → taken room y n ≤ n
  unfolding taken
  taken_most_lem zero = omega arith
  taken_most_lem (suc n) = cond_ind (λ (m : ℕ). m ≤ suc n) (leb (sizes_of y (suc n)) room) (λ _. omega arith) (λ _. omega (arith, taken_most_lem n))

  pub taken_fits : (n : ℕ) → sizes_of y (taken room y n) ≤ room
  unfolding taken sizes_of
  taken_fits zero = omega arith
  taken_fits (suc n) = cond_ind (λ (m : ℕ). sizes_of y m ≤ room) (leb (sizes_of y (suc n)) room) (λ b. leb-true (sizes_of y (suc n)) room b) (λ _. taken_fits n)

  pub taken_all : (n : ℕ) → sizes_of y n ≤ room → taken room y n ≡ n
  unfolding taken
  taken_all zero h = refl
  taken_all (suc n) h = rw (le-leb (sizes_of y (suc n)) room h)

  -- up to the first for which there is no room
  pub taken_up : (e n : ℕ) → e < n → sizes_of y e ≤ room → room < sizes_of y (suc e) → taken room y n ≡ e
  unfolding taken
  taken_up e zero h p q = absurd (none h) where
    none : e < 0 → ⊥
    none g = omega arith
  taken_up e (suc n) h p q =
      cond_ind (λ (m : ℕ). m ≡ e) (leb (sizes_of y (suc n)) room)
      (λ b. absurd (omega (arith, leb-true (sizes_of y (suc n)) room b, sizes_grow y (suc e) (suc n) (omega arith))))
      (λ _. go (leb (suc e) n) refl (λ g. taken_up e n g p q)) where
        go : (t : Bool) → leb (suc e) n ≡ t → (e < n → taken room y n ≡ e) → taken room y n ≡ e
        go true b k = k (leb-true (suc e) n b)
        go false b k = let z : n ≡ e = omega (arith, leb-false (suc e) n b) in rw z (taken_all e p)

  pub taken_next : (n : ℕ) → taken room y n < n → room < sizes_of y (suc (taken room y n))
  unfolding taken
  taken_next zero h = absurd (none h) where
    none : 0 < 0 → ⊥
    none g = omega arith
  taken_next (suc n) h = cond_ind (λ (m : ℕ). m < suc n → room < sizes_of y (suc m)) (leb (sizes_of y (suc n)) room)
      (λ _ g. absurd (omega (arith, g))) (λ b _. go b (leb (suc (taken room y n)) n) refl (λ g. taken_next n g)) h where
        go : leb (sizes_of y (suc n)) room ≡ false → (t : Bool) → leb (suc (taken room y n)) n ≡ t → (taken room y n < n → room < sizes_of y (suc (taken room y n))) → room < sizes_of y (suc (taken room y n))
        go b true c k = k (leb-true (suc (taken room y n)) n c)
        go b false c k =
            let z : taken room y n ≡ n = omega (arith, leb-false (suc (taken room y n)) n c, taken_most_lem n) in
            rw z (leb-false (sizes_of y (suc n)) room b)

-- by the entries alone
pub taken_same : (room : ℕ) (y z : Odt) → y.entry ≡ z.entry → (n : ℕ) → taken room y n ≡ taken room z n
unfolding taken
taken_same room y z e zero = refl
taken_same room y z e (suc n) = ap₂ (λ (k m : ℕ). cond (leb k room) (suc n) m) (sizes_same y z e (suc n)) (taken_same room y z e n)
