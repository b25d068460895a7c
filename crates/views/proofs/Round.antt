-- The round over L lists finds a list that has a packet, or one before it. Assumes nothing.
use Rattle.std.proofs.Common.{◌≡◌, ℕ, zero, suc, ◌+◌, ◌-◌, ◌*◌, ◌/◌, ◌%◌, ◌<◌, ◌≤◌, ltb, ◌≢◌, Some, None, sym, refl, ap, ◌∙◌, mod-lt, mod-eq_of_lt, lt_of_not-le, arith, ltb-false, ltb-true}
use Rattle.std.proofs.Math.Nat.{mod-add-mod, mod_self, mul-add-mod_self_left, div-add-mod}
use Rattle.std.proofs.Math.Decide.{dec_le}
use Rattle.std.proofs.lemmas.Option.{none-some}
use Rattle.line.proofs.Laws.{cond_ind}
use Rattle.model.specs.Calls.{or_else, round_from, list_after}
use Rattle.model.specs.Turn.{Turn}
use Rattle.model.specs.declared.Sender.{Sender}
use Rattle.model.specs.declared.Sender.TheVariants.{Answer, Packet}

-- a turn that is some list's, at most d lists on from list l
pub record Found (L : ℕ) (next : ℕ → Turn) (l d : ℕ) (t : Turn) : Type 0 where
  pub steps : ℕ
  pub near : steps ≤ d
  pub whose : t ≡ next ((l + steps) % L)
  pub some : t ≢ None

-- one list on
later : {L : ℕ} {next : ℕ → Turn} {l d : ℕ} {t : Turn} → Found L next (l + 1) d t → Found L next l (suc d) t
later {L} {next} {l} f = record { steps = suc f.steps; near = omega (arith, f.near); whose = f.whose ∙ ap (λ n. next (n % L)) (on f.steps); some = f.some } where
  on : (i : ℕ) → l + 1 + i ≡ l + suc i
  on i = omega arith

here : {L : ℕ} {next : ℕ → Turn} {l d : ℕ} {t : Turn} → t ≡ next (l % L) → t ≢ None → Found L next l d t
here {L} {next} {l} e n = record { steps = 0; near = omega arith; whose = e ∙ ap (λ m. next (m % L)) zero_on; some = n } where
  zero_on : l ≡ l + 0
  zero_on = omega arith

somebody : (x : Sender) → Some x ≢ None
somebody x e = none-some x (sym e)

pub packet_some : (l o : ℕ) → Some (Packet l o) ≢ None
packet_some l o = somebody (Packet l o)

pub round_finds : (L : ℕ) (next : ℕ → Turn) (l d n : ℕ) → d < n → next ((l + d) % L) ≢ None → Found L next l d (round_from L next l n)
unfolding round_from
round_finds L next l d zero h k = absurd (omega arith)
round_finds L next l zero (suc n) h k = go (next (l % L)) refl where
  go : (t : Turn) → next (l % L) ≡ t → Found L next l zero (or_else t (round_from L next (l + 1) n))
  go None e = absurd (k (ap (λ m. next (m % L)) (zero_on l) ∙ e)) where
    zero_on : (m : ℕ) → m + zero ≡ m
    zero_on m = omega arith
  go (Some Answer) e = here (sym e) (somebody Answer)
  go (Some (Packet j o)) e = here (sym e) (somebody (Packet j o))
round_finds L next l (suc d) (suc n) h k = go (next (l % L)) refl (round_finds L next (l + 1) d n (omega arith) (λ e. k (ap (λ m. next (m % L)) one_on ∙ e))) where
  one_on : l + suc d ≡ l + 1 + d
  one_on = omega arith

  go : (t : Turn) → next (l % L) ≡ t → Found L next (l + 1) d (round_from L next (l + 1) n) → Found L next l (suc d) (or_else t (round_from L next (l + 1) n))
  go None e f = later f
  go (Some Answer) e f = here (sym e) (somebody Answer)
  go (Some (Packet j o)) e f = here (sym e) (somebody (Packet j o))

-- from any list, how many lists on list l is
pub record Far (L from l : ℕ) : Type 0 where
  pub far : ℕ
  pub few : far < L
  pub turn : (from + far) % L ≡ l

pub far_of : (L from l : ℕ) → l < L → Far L from l
far_of L from l h = elim (dec_le (from % L) l) [ yes p ↦ ahead p | no p ↦ behind (lt_of_not-le p) ] where
  whole : L * (from / L) + from % L ≡ from
  whole = div-add-mod from L

  low : from % L < L
  low = mod-lt from (omega arith)

  -- r is what is left of `from`, c the lists gone round
  ahead_sum : (r c : ℕ) → c + r ≡ from → r ≤ l → from + (l - r) ≡ c + l
  ahead_sum r c e q = omega arith

  behind_sum : (r c : ℕ) → c + r ≡ from → r < L → from + (l + L - r) ≡ c + L + l
  behind_sum r c e q = omega arith

  once_more : (c : ℕ) → L * c + L ≡ L * suc c
  once_more c = omega arith

  ahead : from % L ≤ l → Far L from l
  ahead q =
      record {
        far = l - from % L;
        few = omega arith;
        turn = rw (ahead_sum (from % L) (L * (from / L)) whole q, mul-add-mod_self_left L (from / L) l, mod-eq_of_lt h);
      }

  behind : l < from % L → Far L from l
  behind q =
      record {
        far = l + L - from % L;
        few = omega (arith, low);
        turn = rw (behind_sum (from % L) (L * (from / L)) whole low, once_more (from / L), mul-add-mod_self_left L (suc (from / L)) l, mod-eq_of_lt h);
      }

-- ---- the round then begins with the list after the one that it found
pub list_after_lem : (L j : ℕ) → j < L → list_after L j ≡ (j + 1) % L
list_after_lem L j h =
    cond_ind (λ (m : ℕ). m ≡ (j + 1) % L) (ltb (j + 1) L)
    (λ b. sym (mod-eq_of_lt (ltb-true (j + 1) L b)))
    (λ b. let e : j + 1 ≡ L = omega (arith, ltb-false (j + 1) L b) in sym (ap (λ (m : ℕ). m % L) e ∙ mod_self L))

-- list l is i + 1 lists nearer to it
pub nearer : (L from l d i : ℕ) → 0 < L → (from + d) % L ≡ l → i < d → (list_after L ((from + i) % L) + (d - (i + 1))) % L ≡ l
nearer L from l d i some e h =
    let s : from + i + 1 + (d - (i + 1)) ≡ from + d = omega arith in
    ap (λ (m : ℕ). (m + (d - (i + 1))) % L) (list_after_lem L ((from + i) % L) (mod-lt (from + i) some) ∙ mod-add-mod (from + i) L 1)
    ∙ mod-add-mod (from + i + 1) L (d - (i + 1)) ∙ rw s e

-- and after itself it is the last one
pub last_round : (L l : ℕ) → l < L → (list_after L l + (L - 1)) % L ≡ l
last_round L l h =
    let s : l + 1 + (L - 1) ≡ L * 1 + l = omega arith in
    ap (λ (m : ℕ). (m + (L - 1)) % L) (list_after_lem L l h) ∙ mod-add-mod (l + 1) L (L - 1) ∙ rw (s, mul-add-mod_self_left L 1 l, mod-eq_of_lt h)
