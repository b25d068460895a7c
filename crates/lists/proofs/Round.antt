-- The round, list by list, over any number of lists and whatever each has. Assumes nothing.
use Rattle.std.proofs.Common.{◌≡◌, ℕ, zero, suc, ◌+◌, ◌-◌, ◌%◌, ◌<◌, Bool, true, false, cond, not, eqb, ltb, List, sym, refl, not-suc-le-zero, ap, ◌∙◌, ap₂, mod-lt, mod-eq_of_lt, add-one, arith, ltb-false, ltb-true, lt-ltb, ne_eqb, Some, None}
use Rattle.std.proofs.Math.Nat.{add-mod_left}
use Rattle.line.proofs.Laws.{cond_ind}
use Rattle.model.specs.Model.{Session, Slave, runs, has_answer}
use Rattle.model.specs.Calls.{first_packet, packet_in, or_else, round_from, round_in, list_after, turn_in}
use Rattle.model.specs.View.{session_of}
use Rattle.state.specs.Layout.{all_odts}
use Rattle.state.specs.Pool.{list_count, round_of, odts_in, first_odt, odt_count}
use Rattle.state.proofs.Ranges.{start_zero}
use Rattle.state.proofs.Allocated.{odt_next}
use Rattle.model.specs.Turn.{Turn}
use Rattle.model.specs.declared.Sender.TheVariants.{Answer, Packet}

pub round_step : (L : ℕ) (next : ℕ → Turn) (l n : ℕ) → 0 < n → round_from L next l n ≡ or_else (next (l % L)) (round_from L next (l + 1) (n - 1))
unfolding round_from
round_step L next l zero h = absurd (not-suc-le-zero h)
round_step L next l (suc n) h = let e : suc n - 1 ≡ n = omega arith in rw e

-- the same from a list that there is
pub step_there : (L : ℕ) (next : ℕ → Turn) (l left n : ℕ) → l < L → left ≡ suc n → round_from L next l left ≡ or_else (next l) (round_from L next (l + 1) n)
step_there L next l left n there e =
    let less : left - 1 ≡ n = omega arith in
    round_step L next l left (omega arith) ∙ rw (less, mod-eq_of_lt there) refl

-- after the last of L lists comes list 0
round_on : (L : ℕ) (next : ℕ → Turn) (l n : ℕ) → round_from L next (L + l) n ≡ round_from L next l n
unfolding round_from
round_on L next l zero = refl
round_on L next l (suc n) =
    let e : L + l + 1 ≡ L + (l + 1) = omega arith in
    rw (e, round_on L next (l + 1) n) (ap (λ (m : ℕ). or_else (next m) (round_from L next (l + 1) n)) (add-mod_left L l))

pub round_after_lem : (L : ℕ) (next : ℕ → Turn) (l n : ℕ) → l < L → round_from L next (l + 1) n ≡ round_from L next (list_after L l) n
round_after_lem L next l n h =
    cond_ind (λ (m : ℕ). round_from L next (l + 1) n ≡ round_from L next m n) (ltb (l + 1) L) (λ _. refl)
    (λ b. let z : l + 1 ≡ L + 0 = omega (arith, ltb-false (l + 1) L b) in ap (λ (m : ℕ). round_from L next m n) z ∙ round_on L next 0 n)

pub round_at_lem : (s : List ℕ) → round_in (session_of s) ≡ round_from (list_count s) (packet_in (session_of s)) (round_of s) (list_count s)
unfolding session_of
round_at_lem s = refl

-- the list after list l and its first ODT
pub after_there : (L l : ℕ) → l < L → list_after L l < L
after_there L l h = cond_ind (λ (m : ℕ). m < L) (ltb (l + 1) L) (λ b. ltb-true (l + 1) L b) (λ _. omega arith)

pub after_first : (s : List ℕ) (L l : ℕ) → cond (eqb (list_after L l) 0) 0 (first_odt s l + odt_count s l) ≡ first_odt s (list_after L l)
after_first s L l =
    cond_ind (λ (m : ℕ). cond (eqb m 0) 0 (first_odt s l + odt_count s l) ≡ first_odt s m) (ltb (l + 1) L)
    (λ _. rw (ne_eqb (l + 1) 0 (omega arith)) (sym (odt_next s l) ∙ ap (first_odt s) (sym (add-one l)))) (λ _. sym (start_zero all_odts (odts_in s)))

-- what holds of two turns holds of the one or else the other
pub or_holds : (P : Turn → Type 0) (t u : Turn) → P t → P u → P (or_else t u)
or_holds P None u p q = q
or_holds P (Some Answer) u p q = p
or_holds P (Some (Packet l o)) u p q = p

-- what holds of nobody's turn and of every list's next packet holds of the round
pub round_holds : (P : Turn → Type 0) (L : ℕ) (next : ℕ → Turn) → 0 < L → P None → ((l : ℕ) → l < L → P (next l)) → (l n : ℕ) → P (round_from L next l n)
unfolding round_from
round_holds P L next h p each l zero = p
round_holds P L next h p each l (suc n) =
    or_holds P (next (l % L)) (round_from L next (l + 1) n) (each (l % L) (mod-lt l h)) (round_holds P L next h p each (l + 1) n)

round_none : (P : Turn → Type 0) (next : ℕ → Turn) (l : ℕ) → P None → P (round_from 0 next l 0)
unfolding round_from
round_none P next l p = p

-- so of the next list that has a packet; and, if it holds of an answer that waits, of whose turn it is
pub lists_hold : (P : Turn → Type 0) (c : Session) → P None → ((l : ℕ) → l < c.lists → P (packet_in c l)) → P (round_in c)
lists_hold P c p each = by c.lists refl each where
  by : (n : ℕ) → c.lists ≡ n → ((l : ℕ) → l < n → P (packet_in c l)) → P (round_from n (packet_in c) c.round n)
  by zero e f = round_none P (packet_in c) c.round p
  by (suc n) e f = round_holds P (suc n) (packet_in c) (omega arith) p f c.round (suc n)

pub turn_holds : (P : Turn → Type 0) (v : Slave) → P None → ((l : ℕ) → l < v.session.lists → P (packet_in v.session l)) → (has_answer v ≡ true → P (Some Answer)) → P (turn_in v)
unfolding turn_in
turn_holds P v p each answer =
    let round = lists_hold P v.session p each in
    cond_ind P (has_answer v)
    (λ w. cond_ind P v.last_answer (λ _. or_holds P (round_in v.session) (Some Answer) round (answer w)) (λ _. answer w))
    (λ _. round)

-- a list that was not started has no next packet; one that was started has its first one, if it has one
pub never_started : (c : Session) (l : ℕ) → (c.list l).started ≡ false → packet_in c l ≡ None
unfolding packet_in runs
never_started c l e =
    let first : Turn = first_packet l (c.list l) 0 (c.list l).odts in
    ap (λ (b : Bool). cond (cond c.opened (cond b (ltb 0 (c.list l).odts) false) false) first None) e
    ∙ cond_ind (λ (r : Bool). cond r first None ≡ None) c.opened (λ _. refl) (λ _. refl)

pub was_started : (c : Session) (l : ℕ) → c.opened ≡ true → (c.list l).started ≡ true → packet_in c l ≡ first_packet l (c.list l) 0 (c.list l).odts
unfolding packet_in runs first_packet
was_started c l o e =
    let first : Turn = first_packet l (c.list l) 0 (c.list l).odts in
    ap₂ (λ (a b : Bool). cond (cond a (cond b (ltb 0 (c.list l).odts) false) false) first None) o e ∙ by (c.list l).odts where
      by : (n : ℕ) → cond (ltb 0 n) (first_packet l (c.list l) 0 n) None ≡ first_packet l (c.list l) 0 n
      by zero = refl
      by (suc n) = rw (lt-ltb 0 (suc n) (omega arith))

-- without an open session no list has one
closed_packet : (c : Session) (l : ℕ) → c.opened ≡ false → packet_in c l ≡ None
unfolding packet_in runs
closed_packet c l e = rw e

pub closed_round : (c : Session) → c.opened ≡ false → round_in c ≡ None
closed_round c e = lists_hold (λ (t : Turn). t ≡ None) c refl (λ l h. closed_packet c l e)

-- whose turn it is, with the round once: an answer goes before it or behind it
or_nobody : (t : Turn) → or_else t None ≡ t
or_nobody None = refl
or_nobody (Some Answer) = refl
or_nobody (Some (Packet l o)) = refl

pub turn_once : (waits last : Bool) (t : Turn) → cond waits (cond last (or_else t (Some Answer)) (Some Answer)) t ≡ cond (cond waits (not last) false) (Some Answer) (or_else t (cond waits (Some Answer) None))
turn_once true true t = refl
turn_once true false t = refl
turn_once false last t = sym (or_nobody t)
