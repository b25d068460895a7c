-- Whether a list can be started depends on its mode and its entries, and whether it runs on that it was started and has an ODT; neither on what waits
-- of it. One that can be started has an ODT. Assumes nothing.
use Rattle.std.proofs.Common.{ℕ, zero, suc, ◌+◌, ◌≤◌, ◌<◌, ◌≡◌, refl, sym, ap, ap₂, ◌∙◌, Bool, true, false, cond, arith, lt-ltb, eqb, ltb, leb}
use Rattle.line.proofs.Laws.{false_true, cond_ind}
use Rattle.state.specs.Layout.{odt_most}
use Rattle.model.specs.Model.{Entry, Odt, DaqList, sizes_of, bytes_in, all_bytes, each_fits, fits, runs}

pub sizes_same : (y z : Odt) → y.entry ≡ z.entry → (n : ℕ) → sizes_of y n ≡ sizes_of z n
unfolding sizes_of
sizes_same y z e zero = refl
sizes_same y z e (suc n) = ap₂ ◌+◌ (sizes_same y z e n) (ap (λ (f : ℕ → Entry). (f n).size) e)

pub bytes_same : (y z : Odt) → y.entries ≡ z.entries → y.entry ≡ z.entry → bytes_in y ≡ bytes_in z
bytes_same y z n e = sizes_same y z e y.entries ∙ ap (sizes_of z) n

-- by the bytes of each ODT
module _ (x z : DaqList) (bytes : (o : ℕ) → o < z.odts → bytes_in (x.odt o) ≡ bytes_in (z.odt o)) where
  all_alike : (n : ℕ) → n ≤ z.odts → all_bytes x n ≡ all_bytes z n
  unfolding all_bytes
  all_alike zero h = refl
  all_alike (suc n) h = ap₂ ◌+◌ (all_alike n (omega arith)) (bytes n (omega arith))

  each_alike : (n : ℕ) → n ≤ z.odts → each_fits x n ≡ each_fits z n
  unfolding each_fits
  each_alike zero h = refl
  each_alike (suc n) h = ap₂ (λ (b : Bool) (m : ℕ). cond b (leb m (odt_most n)) false) (each_alike n (omega arith)) (bytes n (omega arith))

  pub fits_alike : x.mode ≡ z.mode → x.odts ≡ z.odts → fits x ≡ fits z
  unfolding fits
  fits_alike e m =
      ap₂ (λ (m : ℕ) (b : Bool). cond (eqb m 0) false b) e
      (ap₂ (λ (m : ℕ) (b : Bool). cond (eqb m 0) false b) (ap (all_bytes x) m ∙ all_alike z.odts (omega arith)) (ap (each_fits x) m ∙ each_alike z.odts (omega arith)))

-- by their entries
module _ (x z : DaqList) (counts : (o : ℕ) → o < z.odts → (x.odt o).entries ≡ (z.odt o).entries) (same : (o : ℕ) → o < z.odts → (x.odt o).entry ≡ (z.odt o).entry) where
  bytes_alike : (o : ℕ) → o < z.odts → bytes_in (x.odt o) ≡ bytes_in (z.odt o)
  bytes_alike o h = bytes_same (x.odt o) (z.odt o) (counts o h) (same o h)

  pub fits_same : x.mode ≡ z.mode → x.odts ≡ z.odts → fits x ≡ fits z
  fits_same = fits_alike x z bytes_alike

pub runs_same : (x z : DaqList) (opened : Bool) → x.odts ≡ z.odts → x.started ≡ z.started → runs opened x ≡ runs opened z
unfolding runs
runs_same x z opened n f = ap₂ (λ (a : Bool) (m : ℕ). cond opened (cond a (ltb 0 m) false) false) f n

-- no ODT has no byte
pub fits_has : (x : DaqList) → fits x ≡ true → ltb 0 x.odts ≡ true
unfolding fits all_bytes
fits_has x e = by x.odts e where
  by : (n : ℕ) → cond (eqb x.mode 0) false (cond (eqb (all_bytes x n) 0) false (each_fits x n)) ≡ true → ltb 0 n ≡ true
  by zero f = absurd (false_true (sym (cond_ind (λ (b : Bool). b ≡ false) (eqb x.mode 0) (λ _. refl) (λ _. refl)) ∙ f))
  by (suc n) f = lt-ltb 0 (suc n) (omega arith)

-- one that fits and was started runs in an open session
pub fit_runs : (x : DaqList) (opened : Bool) → opened ≡ true → x.started ≡ true → fits x ≡ true → runs opened x ≡ true
unfolding runs
fit_runs x opened o s f = rw (o, s) (fits_has x f)
