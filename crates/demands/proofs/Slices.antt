-- A slice is the byte call repeated, however the wire is cut. Assumes nothing.
use Rattle.std.proofs.Common.{◌≡◌, ℕ, zero, suc, ◌≤◌, Bool, true, false, cond, List, [], ◌∷◌, ◌++◌, length, take, drop, Ok, Err, eqb, refl, sym, ap, ◌∙◌, subst, arith, eqb-true, length-take, take_all, take-add, take-take}
use Rattle.std.proofs.lemmas.Bool.{eqb-false}
use Rattle.std.proofs.Math.Seq.{take-nil}
use Rattle.line.proofs.Laws.{cond_ind}
use Rattle.state.specs.State.{consistent}
use Rattle.session.specs.Receive.{Step, fed_of, received_by, receive_of}
use Rattle.session.specs.Slice.{Slice, taking, then, bytes_of, taken_most, receive_bytes_of}
use Rattle.session.proofs.Slicing.{bytes_within}
use Rattle.fields.proofs.Kept.{receive_kept}
use Rattle.words.specs.Number.{received_number}
use Rattle.words.specs.declared.Heard.TheVariants.{Nothing}
use Rattle.words.specs.Values.{no_state}
use Rattle.demands.specs.Slave.{AnySlave, ours}
use Rattle.demands.specs.Runs.{run}
use Rattle.demands.specs.Slices.{SliceCall, Repeated, before, repeated, by_bytes, told_of, told, Drained, drained, BySlices, TakesSlices}
use Rattle.demands.proofs.Received.{received_by_lem}

-- ---- bytes in a consistent state
-- by cases of what the first byte gives
module _ (P : Slice → Type 0) (t : Step) (o : Slice) where
  by_first : (eqb (received_number t.received) 0 ≡ true → P (taking o.received (suc o.taken) o.state o.cal))
      → (eqb (received_number t.received) 0 ≡ false → P (taking t.received 1 t.state t.cal)) → P (then t o)
  by_first f g = cond_ind P (eqb (received_number t.received) 0) f g

bytes_some : (s cal meas : List ℕ) (b : ℕ) (bs : List ℕ) → 1 ≤ (bytes_of s cal meas (b ∷ bs)).taken
bytes_some s cal meas b bs =
    let t = received_by (fed_of s b) s cal meas in
    by_first (λ (o : Slice). 1 ≤ o.taken) t (bytes_of t.state t.cal meas bs) (λ _. omega arith) (λ _. omega arith)

bytes_whole : (s cal meas bs : List ℕ) → received_number (bytes_of s cal meas bs).received ≡ 0 → (bytes_of s cal meas bs).taken ≡ length bs
bytes_whole s cal meas [] = λ _. refl
bytes_whole s cal meas (b ∷ bs) =
    let t = received_by (fed_of s b) s cal meas in
    let w = bytes_whole t.state t.cal meas bs in
    by_first (λ (o : Slice). received_number o.received ≡ 0 → o.taken ≡ suc (length bs)) t (bytes_of t.state t.cal meas bs)
    (λ _ z. ap suc (w z)) (λ e z. absurd (eqb-false _ _ e z))

bytes_none : (s cal meas bs : List ℕ) → (bytes_of s cal meas bs).taken ≡ 0 → received_number (bytes_of s cal meas bs).received ≡ 0
bytes_none s cal meas [] e = refl
bytes_none s cal meas (b ∷ bs) e = absurd (omega (arith, bytes_some s cal meas b bs))

-- a 0 before what is told
told_next : (n r : ℕ) → (n ≡ 0 → r ≡ 0) → 0 ∷ told_of n r ≡ told_of (suc n) r
told_next zero r z = ap (λ (x : ℕ). x ∷ []) (sym (z refl))
told_next (suc n) r z = refl

bytes_same : (s cal meas bs : List ℕ) → consistent s ≡ true → repeated ours s cal meas (take (bytes_of s cal meas bs).taken bs) ≡ told (bytes_of s cal meas bs)
bytes_same s cal meas [] e = refl
bytes_same s cal meas (b ∷ bs) e =
    by_first (λ (o : Slice). repeated ours s cal meas (take o.taken (b ∷ bs)) ≡ told o) t o
    (λ z. first (take o.taken bs)
    ∙ ap (before (received_number t.received)) (bytes_same t.state t.cal meas bs kept)
    ∙ ap (λ (n : ℕ). before n (told o)) (eqb-true _ _ z)
    ∙ ap (λ (ns : List ℕ). record { numbers = ns; state = o.state; cal = o.cal }) (told_next o.taken (received_number o.received) (bytes_none t.state t.cal meas bs)))
    (λ _. first [])
  where
    t : Step
    t = received_by (fed_of s b) s cal meas

    o : Slice
    o = bytes_of t.state t.cal meas bs

    same : receive_of s cal meas b ≡ t
    same = received_by_lem s cal meas b e

    kept : consistent t.state ≡ true
    kept = ap (λ (x : Step). consistent x.state) (sym same) ∙ receive_kept s cal meas b e

    first : (rest : List ℕ) → repeated ours s cal meas (b ∷ rest) ≡ before (received_number t.received) (repeated ours t.state t.cal meas rest)
    first rest = ap (λ (x : Step). before (received_number x.received) (repeated ours x.state x.cal meas rest)) same

-- ---- the byte call, repeated
repeated_kept : (s cal meas bs : List ℕ) → consistent s ≡ true → consistent (repeated ours s cal meas bs).state ≡ true
repeated_kept s cal meas [] e = e
repeated_kept s cal meas (b ∷ bs) e = repeated_kept (receive_of s cal meas b).state (receive_of s cal meas b).cal meas bs (receive_kept s cal meas b e)

repeated_runs : (v : AnySlave) (s cal meas bs : List ℕ) → run v s (by_bytes v s cal meas bs) ≡ (repeated v s cal meas bs).state
repeated_runs v s cal meas [] = refl
repeated_runs v s cal meas (b ∷ bs) = repeated_runs v (v.receive s cal meas b).state (v.receive s cal meas b).cal meas bs

-- bytes, and then more
abbrev both : Repeated → Repeated → Repeated
both r q = record { numbers = r.numbers ++ q.numbers; state = q.state; cal = q.cal }

repeated_more : (v : AnySlave) (s cal meas bs cs : List ℕ)
    → repeated v s cal meas (bs ++ cs) ≡ both (repeated v s cal meas bs) (repeated v (repeated v s cal meas bs).state (repeated v s cal meas bs).cal meas cs)
repeated_more v s cal meas [] cs = refl
repeated_more v s cal meas (b ∷ bs) cs =
    ap (before (received_number (v.receive s cal meas b).received)) (repeated_more v (v.receive s cal meas b).state (v.receive s cal meas b).cal meas bs cs)

-- ---- the slice call, of at most n bytes
abbrev calls : ℕ → SliceCall
calls n s cal meas bs = cond (consistent s) (bytes_of s cal meas (take n bs)) (taking (Err no_state) 0 s cal)

module _ (n : ℕ) (s cal meas : List ℕ) where
  refused : (bs : List ℕ) → consistent s ≡ false → calls n s cal meas bs ≡ taking (Err no_state) 0 s cal
  refused bs e = simp e

  done : (bs : List ℕ) → consistent s ≡ true → calls n s cal meas bs ≡ bytes_of s cal meas (take n bs)
  done bs e = simp e

  done_empty : consistent s ≡ true → calls n s cal meas [] ≡ taking (Ok Nothing) 0 s cal
  done_empty e = done [] e ∙ ap (bytes_of s cal meas) (take-nil n)

  done_some : 1 ≤ n → (bs : List ℕ) → consistent s ≡ true → 1 ≤ length bs → 1 ≤ (calls n s cal meas bs).taken
  done_some h bs e g = subst (λ (o : Slice). 1 ≤ o.taken) (sym (done bs e)) (go n h bs g)
    where
      go : (m : ℕ) → 1 ≤ m → (l : List ℕ) → 1 ≤ length l → 1 ≤ (bytes_of s cal meas (take m l)).taken
      go zero a l b = absurd (omega arith)
      go (suc m) a [] b = absurd (omega arith)
      go (suc m) a (x ∷ l) b = bytes_some s cal meas x (take m l)

  done_most : (bs : List ℕ) → ((calls n s cal meas bs).taken ≤ length bs) × ((calls n s cal meas bs).taken ≤ n)
  done_most bs = go (consistent s)
    where
      go : (x : Bool) → ((cond x (bytes_of s cal meas (take n bs)) (taking (Err no_state) 0 s cal)).taken ≤ length bs) × ((cond x (bytes_of s cal meas (take n bs)) (taking (Err no_state) 0 s cal)).taken ≤ n)
      go true = (omega (arith, bytes_within s cal meas (take n bs), length-take n bs), omega (arith, bytes_within s cal meas (take n bs), length-take n bs))
      go false = (omega arith, omega arith)

  done_whole : (bs : List ℕ) → consistent s ≡ true → length bs ≤ n → received_number (calls n s cal meas bs).received ≡ 0 → (calls n s cal meas bs).taken ≡ length bs
  done_whole bs e h =
      subst (λ (o : Slice). received_number o.received ≡ 0 → o.taken ≡ length bs) (sym (done bs e))
      (λ z. bytes_whole s cal meas (take n bs) z ∙ ap length (take_all n bs h))

  done_same : (bs : List ℕ) → consistent s ≡ true → repeated ours s cal meas (take (calls n s cal meas bs).taken bs) ≡ told (calls n s cal meas bs)
  done_same bs e =
      subst (λ (o : Slice). repeated ours s cal meas (take o.taken bs) ≡ told o) (sym (done bs e))
      (ap (repeated ours s cal meas) (sym (take-take (bytes_of s cal meas (take n bs)).taken n bs (omega (arith, bytes_within s cal meas (take n bs), length-take n bs))))
      ∙ bytes_same s cal meas (take n bs) e)

-- a slice of m bytes, and then those behind what it took
done_cuts : (n : ℕ) (s cal meas bs ns : List ℕ) → consistent s ≡ true
    → repeated ours s cal meas (take (drained (calls n) s cal meas bs ns).taken bs)
    ≡ record { numbers = (drained (calls n) s cal meas bs ns).numbers; state = (drained (calls n) s cal meas bs ns).state; cal = (drained (calls n) s cal meas bs ns).cal }
done_cuts n s cal meas bs [] e = refl
done_cuts n s cal meas bs (m ∷ ns) e =
    ap (repeated ours s cal meas) (take-add o.taken d.taken bs)
    ∙ repeated_more ours s cal meas (take o.taken bs) (take d.taken (drop o.taken bs))
    ∙ ap (λ (r : Repeated). both r (repeated ours r.state r.cal meas (take d.taken (drop o.taken bs)))) first
    ∙ ap (both (told o)) (done_cuts n o.state o.cal meas (drop o.taken bs) ns kept)
  where
    o : Slice
    o = calls n s cal meas (take m bs)

    d : Drained
    d = drained (calls n) o.state o.cal meas (drop o.taken bs) ns

    few : o.taken ≤ m
    few = omega (arith, (done_most n s cal meas (take m bs)).0, length-take m bs)

    first : repeated ours s cal meas (take o.taken bs) ≡ told o
    first = ap (repeated ours s cal meas) (sym (take-take o.taken m bs few)) ∙ done_same n s cal meas (take m bs) e

    kept : consistent o.state ≡ true
    kept = ap (λ (r : Repeated). consistent r.state) (sym first) ∙ repeated_kept s cal meas (take o.taken bs) e

-- ---- ours
pub by_slices_lem : BySlices ours receive_bytes_of
unfolding receive_bytes_of
by_slices_lem = record {
  refuses = λ (s cal meas bs : List ℕ). refused taken_most s cal meas bs;
  empty = λ (s cal meas : List ℕ). done_empty taken_most s cal meas;
  some = λ (s cal meas bs : List ℕ). done_some taken_most s cal meas (omega arith) bs;
  most = λ (s cal meas bs : List ℕ). done_most taken_most s cal meas bs;
  whole = λ (s cal meas bs : List ℕ). done_whole taken_most s cal meas bs;
  same = λ (s cal meas bs : List ℕ). done_same taken_most s cal meas bs;
  runs = λ (s cal meas bs : List ℕ) (e : consistent s ≡ true). repeated_runs ours s cal meas (take (calls taken_most s cal meas bs).taken bs) ∙ ap (λ (r : Repeated). r.state) (done_same taken_most s cal meas bs e);
  cuts = λ (s cal meas bs ns : List ℕ). done_cuts taken_most s cal meas bs ns;
}

pub takes_slices : TakesSlices ours
takes_slices = record { call = receive_bytes_of; by_slices = by_slices_lem }
