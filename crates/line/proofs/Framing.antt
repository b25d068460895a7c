-- A stuffed message reaches any reader of message bytes byte by byte, and nothing comes of it before its last byte. Assumes nothing.
use Rattle.std.proofs.Common.{◌≡◌, ℕ, ◌+◌, ◌-◌, ◌≤◌, Bool, true, false, eqb, List, [], ◌∷◌, ◌++◌, length, replicate, sym, refl, ap, ◌∙◌, append_assoc, append-nil, arith, length-append, eqb-true, None, Ok}
use Rattle.std.proofs.lemmas.List.{replicate-append-replicate}
use Rattle.line.specs.Stuffing.{SYNC, ESC, stuff_byte, stuff}
use Rattle.line.specs.Unstuffing.{Fed, Messages, on, take_by}
use Rattle.line.specs.Run.{Ran, then, run_by}
use Rattle.line.specs.declared.Place.TheVariants.{Inside}
use Rattle.line.specs.Values.{Outcome}
use Rattle.line.proofs.Laws.{byte_size, stuff_one}

-- k bytes of which nothing comes, and then a run
abbrev pub quiet : ℕ → Ran → Ran
quiet k r = record { outcomes = replicate k (Ok None) ++ r.outcomes; place = r.place; message = r.message }

quiet_quiet : (j k : ℕ) (r : Ran) → quiet j (quiet k r) ≡ quiet (j + k) r
quiet_quiet j k r =
    ap (λ (os : List Outcome). record { outcomes = os; place = r.place; message = r.message })
    (sym (append_assoc (replicate j (Ok None)) (replicate k (Ok None)) r.outcomes) ∙ ap (λ (os : List Outcome). os ++ r.outcomes) (replicate-append-replicate j k (Ok None)))

stuff_some : (xs : List ℕ) (x : ℕ) → 1 ≤ length (stuff (xs ++ x ∷ []))
stuff_some [] x = rw (stuff_one x) (byte_size x).0
stuff_some (y ∷ xs) x = rw (length-append (stuff_byte y) (stuff (xs ++ x ∷ []))) (omega (arith, byte_size y))

-- the bytes of a message that goes on lead from k bytes, and the buffer then, to more
pub data Along (r : Messages) : ℕ → List ℕ → List ℕ → ℕ → List ℕ → Type 0 where
  here : {k : ℕ} {m : List ℕ} → Along r k m [] k m
  step : {k j i x : ℕ} {m m' m'' xs : List ℕ} → r.begun k m ≡ true → r.put k m x ≡ on (Inside j) m' → Along r j m' xs i m'' → Along r k m (x ∷ xs) i m''

module _ (r : Messages) where
  -- what a byte of a message leads to, and then a run over bytes of the wire
  abbrev pub onwards : Fed → List ℕ → Ran
  onwards f bs = then f (run_by (take_by r) f.taken.place f.message bs)

  -- a stuffed byte reaches the reader of message bytes once
  pub byte : (k : ℕ) (m : List ℕ) (x : ℕ) (bs : List ℕ) → r.begun k m ≡ true
      → run_by (take_by r) (Inside k) m (stuff_byte x ++ bs) ≡ quiet (length (stuff_byte x) - 1) (onwards (r.put k m x) bs)
  byte k m x bs g = go (eqb x SYNC) (eqb x ESC) refl refl
    where
      go : (t u : Bool) → eqb x SYNC ≡ t → eqb x ESC ≡ u → run_by (take_by r) (Inside k) m (stuff_byte x ++ bs) ≡ quiet (length (stuff_byte x) - 1) (onwards (r.put k m x) bs)
      go true u e f = rw (eqb-true x SYNC e) (simp g)
      go false true e f = rw (eqb-true x ESC f) (simp g)
      go false false e f = simp (e, f, g)

  -- so do the bytes xs of a message that goes on, and its last byte x
  pub framed : {k j : ℕ} {m m' xs : List ℕ} (x : ℕ) → Along r k m xs j m' → r.begun j m' ≡ true
      → run_by (take_by r) (Inside k) m (stuff (xs ++ x ∷ [])) ≡ quiet (length (stuff (xs ++ x ∷ [])) - 1) (onwards (r.put j m' x) [])
  framed {k = k} {m = m} x here g = rw (append-nil (stuff_byte x)) (rw (append-nil (stuff_byte x)) at (byte k m x [] g))
  framed x (step {k = k} {j = j} {i = i} {x = y} {m = m} {m' = m'} {m'' = m''} {xs = xs} h e a) g =
      let rest = stuff (xs ++ x ∷ []) in
      let last = onwards (r.put i m'' x) [] in
      let n : (length (stuff_byte y) - 1) + (1 + (length rest - 1)) ≡ length (stuff_byte y ++ rest) - 1 =
      rw (length-append (stuff_byte y) rest) (omega (arith, byte_size y, stuff_some xs x)) in
      byte k m y rest h
      ∙ rw e (ap (λ (w : Ran). quiet (length (stuff_byte y) - 1) (quiet 1 w)) (framed x a g))
      ∙ ap (λ (w : Ran). quiet (length (stuff_byte y) - 1) w) (quiet_quiet 1 (length rest - 1) last)
      ∙ quiet_quiet (length (stuff_byte y) - 1) (1 + (length rest - 1)) last
      ∙ ap (λ (c : ℕ). quiet c last) n
