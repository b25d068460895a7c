-- Whose turn it is has something waiting, and with a packet of a list waiting its turn comes. Assumes nothing.
use Rattle.std.proofs.Common.{◌≡◌, ◌≢◌, ℕ, suc, ◌+◌, ◌-◌, ◌%◌, ◌≤◌, ◌<◌, true, false, List, [], ◌∷◌, length, Some, None, refl, sym, ap, ◌∙◌, subst, arith, mod-lt, lt-ltb}
use Rattle.std.proofs.Math.Decide.{ℕ_discrete}
use Rattle.line.proofs.Laws.{cond_ind}
use Rattle.model.specs.Model.{DaqList, Session, Slave, first_of, runs_in, has_packet, in_stores, waiting_in, has_answer}
use Rattle.model.specs.Calls.{packet_gone, packet_in, or_else, round_in, packet_from, list_after, turn_in}
use Rattle.model.specs.Turn.{Turn}
use Rattle.model.specs.declared.Sender.TheVariants.{Answer, Packet}
use Rattle.lists.proofs.Round.{lists_hold, turn_holds}
use Rattle.model.proofs.Bounded.{either}
use Rattle.views.proofs.TurnLaws as turns
use Rattle.views.proofs.Waits.{rests, Empty, none_waits, first_waits, first_sent, sent_others}
use Rattle.views.proofs.Round.{packet_some, round_finds, Far, nearer}

-- ODT o's packet is the next one of list j: what waits of the list, and what waits of it and of the others once it is sent
pub record Next (v : Slave) (j o : ℕ) : Type 0 where
  pub inside : j < v.session.lists
  pub in_list : o < (v.session.list j).odts
  pub rest : List (List ℕ)
  pub waiting : waiting_in v.session j ≡ packet_from v.session j o ∷ rest
  pub left : waiting_in (packet_gone j o v).session j ≡ rest
  pub others : (l : ℕ) → l ≢ j → waiting_in (packet_gone j o v).session l ≡ waiting_in v.session l

-- what list j has
pub data Has (v : Slave) (j : ℕ) : Turn → Type 0 where
  nothing : waiting_in v.session j ≡ [] → Has v j None
  packet : (o : ℕ) → Next v j o → Has v j (Some (Packet j o))

module _ (v : Slave) (j : ℕ) (q : j < v.session.lists) where
  abbrev c : Session
  c = v.session

  abbrev x : DaqList
  x = c.list j

  next : runs_in c j ≡ true → (d n : ℕ) → d + suc n ≡ x.odts → Empty x 0 d → has_packet (x.odt d) ≡ true → Next v j d
  unfolding packet_from
  next r d n e none a = record {
    inside = q;
    in_list = omega arith;
    rest = in_stores (first_of c j) x (d + 1) n;
    waiting = first_waits c j d n r e none a;
    left = first_sent c j d n r e none;
    others = λ l z. sent_others c j d l z;
  }

  -- what the list's turn says of what waits
  by_turn : (t : Turn) → turns.Has c j t → Has v j t
  by_turn _ (turns.none f) =
      nothing (either (runs_in c j) (λ r. none_waits c.opened (first_of c j) x (λ i h. f r (0 + i) (omega arith))) (λ r. rests c.opened (first_of c j) x r))
  by_turn _ (turns.some d p) =
      packet d (next p.runs d (x.odts - suc d) (left p.in_list) (λ i h. p.first (0 + i) (omega arith)) (lt-ltb 0 (length (x.odt d).store) p.some)) where
        left : d < x.odts → d + suc (x.odts - suc d) ≡ x.odts
        left h = omega arith

  pub has : Has v j (packet_in c j)
  has = by_turn (packet_in c j) (turns.has c j)

-- ---- whose turn it is has something waiting
pub data Fair (v : Slave) : Turn → Type 0 where
  nobody : Fair v None
  answer : has_answer v ≡ true → Fair v (Some Answer)
  list : (j o : ℕ) → Next v j o → Fair v (Some (Packet j o))

fair_has : (v : Slave) (j : ℕ) (t : Turn) → Has v j t → Fair v t
fair_has v j _ (nothing e) = nobody
fair_has v j _ (packet o n) = list j o n

pub round_fair : (v : Slave) → Fair v (round_in v.session)
round_fair v = lists_hold (Fair v) v.session nobody (λ j q. fair_has v j (packet_in v.session j) (has v j q))

pub fair : (v : Slave) → Fair v (turn_in v)
fair v = turn_holds (Fair v) v nobody (λ j q. fair_has v j (packet_in v.session j) (has v j q)) answer

-- ---- while a packet of list l waits, and its turn is `far` lists on: an answer goes, after a frame that was none; or its own packet; or that of a
-- list behind which it is nearer
pub data Moves (v : Slave) (l far : ℕ) : Turn → Type 0 where
  by_answer : has_answer v ≡ true → v.last_answer ≡ false → Moves v l far (Some Answer)
  by_own : (o : ℕ) → Next v l o → Moves v l far (Some (Packet l o))
  by_other : (j o : ℕ) → Next v j o → l ≢ j → (near : ℕ) → near < far → (list_after v.session.lists j + near) % v.session.lists ≡ l → Moves v l far (Some (Packet j o))

or_moves : (v : Slave) (l far : ℕ) (t : Turn) → Moves v l far t → Moves v l far (or_else t (Some Answer))
or_moves v l far _ (by_answer w f) = by_answer w f
or_moves v l far _ (by_own o x) = by_own o x
or_moves v l far _ (by_other j o x n near b e) = by_other j o x n near b e

-- a list that has a packet has a turn
has_some : (v : Slave) (l : ℕ) (p : List ℕ) (ps : List (List ℕ)) → waiting_in v.session l ≡ p ∷ ps → (t : Turn) → Has v l t → t ≢ None
has_some v l p ps e _ (nothing w) n = absurd cc
has_some v l p ps e _ (packet o x) n = packet_some l o n

module _ (v : Slave) (l : ℕ) (p : List ℕ) (ps : List (List ℕ)) (q : l < v.session.lists) (e : waiting_in v.session l ≡ p ∷ ps) (f : Far v.session.lists v.session.round l) where
  abbrev s : Session
  s = v.session

  abbrev L : ℕ
  L = s.lists

  -- a list that the round found, i lists on
  found_moves : (i : ℕ) → i ≤ f.far → (t : Turn) → t ≢ None → Has v ((s.round + i) % L) t → Moves v l f.far t
  found_moves i h _ n (nothing w) = absurd (n refl)
  found_moves i h _ n (packet o x) = elim (ℕ_discrete l ((s.round + i) % L)) [ yes y ↦ own y | no y ↦ other y ] where
    j : ℕ
    j = (s.round + i) % L

    own : l ≡ j → Moves v l f.far (Some (Packet j o))
    own y = subst (λ (m : ℕ). Moves v m f.far (Some (Packet j o))) (sym y) (by_own o x)

    before : l ≢ j → i < f.far
    before y = elim (ℕ_discrete i f.far) [ yes z ↦ absurd (y (sym (ap (λ (m : ℕ). (s.round + m) % L) z ∙ f.turn))) | no z ↦ omega arith ]

    other : l ≢ j → Moves v l f.far (Some (Packet j o))
    other y = by_other j o x y (f.far - (i + 1)) (less (before y)) (nearer L s.round l f.far i (omega arith) f.turn (before y)) where
      less : i < f.far → f.far - (i + 1) < f.far
      less z = omega arith

  -- the next list round
  round_moves : Moves v l f.far (round_in s)
  round_moves =
      let there : packet_in s ((s.round + f.far) % L) ≢ None = rw f.turn (has_some v l p ps e (packet_in s l) (has v l q)) in
      let r = round_finds L (packet_in s) s.round f.far L f.few there in
      found_moves r.steps r.near (round_in s) r.some (rw r.whose (has v ((s.round + r.steps) % L) (mod-lt (s.round + r.steps) (omega arith))))

  pub moves : Moves v l f.far (turn_in v)
  unfolding turn_in
  moves =
      let M : Turn → Type 0 = Moves v l f.far in
      cond_ind M (has_answer v)
      (λ w. cond_ind M v.last_answer (λ _. or_moves v l f.far (round_in s) round_moves) (λ z. by_answer w z))
      (λ _. round_moves)
