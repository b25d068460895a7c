-- A record that is run lies within the bytes that are there. Assumes nothing.
use Rattle.std.proofs.Common.{◌≡◌, ℕ, ◌+◌, ◌-◌, ◌≤◌, Bool, true, false, cond, eqb, ltb, leb, List, length, refl, arith, ltb-false, eqb-true, leb-true}
use Rattle.state.specs.Bytes.{u16_at}
use Rattle.replay.specs.declared.record.Record.{Record}
use Rattle.std.specs.Prelude.{Ok, Err, ◌<◌}
use Rattle.replay.specs.Record.{Found, header, longest_body, memory, fits_of, measured_of, whole_of, body_of, record_at, next_of, Inside}
use Rattle.line.proofs.Laws.{cond_ind}

both : (t u : Bool) → cond t u false ≡ true → u ≡ true
both true u e = e
both false true e = refl
both false false e = e

pub event_three : (kind n : ℕ) → fits_of kind n ≡ true → kind ≡ 2 → n ≡ 3
unfolding fits_of
event_three kind n f e = eqb-true n 3 (rw e at f)

pub measured_two : (kind n : ℕ) → fits_of kind n ≡ true → eqb kind 1 ≡ false → eqb kind 2 ≡ false → eqb kind 3 ≡ false → 2 ≤ n
unfolding fits_of
measured_two kind n f a b c = leb-true 2 n (both (eqb kind 4) (leb 2 n) (rw (a, b, c) at f))

-- a record that was found lies within the first k bytes, and the next begins further on, within them too
Held : ℕ → ℕ → Found → Type 0
Held k at (Ok r) = Inside k r × (at < next_of r at) × (next_of r at ≤ k)
Held k at (Err h) = Unit {0}

measured_held : (s : List ℕ) (at from n : ℕ) → at < from → 2 ≤ n → from + n ≤ length s → Held (length s) at (measured_of s from n)
unfolding measured_of Inside next_of Held
measured_held s at from n a g h =
    cond_ind (Held (length s) at) (ltb memory (u16_at s from + (n - 2))) (λ _. tt)
    (λ f. ((omega arith, ltb-false _ _ f), omega arith, omega arith))

whole_held : (s : List ℕ) (at kind n : ℕ) → fits_of kind n ≡ true → at + header + n ≤ length s → Held (length s) at (whole_of s kind (at + header) n)
unfolding whole_of Inside next_of Held
whole_held s at kind n f h =
    cond_ind (Held (length s) at) (eqb kind 1) (λ _. (h, omega arith, h))
    (λ a. cond_ind (Held (length s) at) (eqb kind 2) (λ t. (tt, omega arith, omega (arith, event_three kind n f (eqb-true kind 2 t))))
    (λ b. cond_ind (Held (length s) at) (eqb kind 3) (λ _. (tt, omega arith, omega arith))
    (λ c. measured_held s at (at + header) n (omega arith) (measured_two kind n f a b c) h)))

body_held : (s : List ℕ) (at kind n : ℕ) → at + header ≤ length s → Held (length s) at (body_of s kind (at + header) n)
unfolding body_of Held
body_held s at kind n h =
    cond_ind (Held (length s) at) (ltb longest_body n) (λ _. tt)
    (λ _. cond_ind (Held (length s) at) (fits_of kind n)
    (λ f. cond_ind (Held (length s) at) (ltb (length s - (at + header)) n) (λ _. tt)
    (λ g. whole_held s at kind n f (omega (arith, ltb-false (length s - (at + header)) n g))))
    (λ _. tt))

held : (s : List ℕ) (at : ℕ) → Held (length s) at (record_at s at)
unfolding record_at Held
held s at =
    cond_ind (Held (length s) at) (leb (length s) at) (λ _. tt)
    (λ _. cond_ind (Held (length s) at) (ltb (length s - at) header) (λ _. tt)
    (λ g. body_held s at (u16_at s (at + 2)) (u16_at s at) (omega (arith, ltb-false (length s - at) header g))))

-- so a record that was found can be run, and the run goes on behind it
pub held_found : (s : List ℕ) (at : ℕ) (r : Record) → record_at s at ≡ Ok r → Inside (length s) r × (at < next_of r at) × (next_of r at ≤ length s)
unfolding Held
held_found s at r e = rw e at (held s at)
