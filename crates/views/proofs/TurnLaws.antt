-- Whose turn it is goes by document 01's rule: the answer and the lists by turns, the lists round and round, a list's ODTs in their order; and what a
-- slot leaves goes by whose turn it was. Assumes nothing.
use Rattle.std.proofs.Common.{◌≡◌, ℕ, zero, suc, ◌+◌, ◌%◌, ◌<◌, ◌≤◌, true, false, List, [], length, Some, None, sym, refl, ap, ◌∙◌, subst, mod-lt, arith, ltb-true, le-ltb}
use Rattle.line.specs.Message.{room}
use Rattle.line.proofs.Laws.{cond_ind, false_true}
use Rattle.model.specs.Model.{Odt, DaqList, Session, Slave, runs_in, has_answer, has_packet}
use Rattle.model.specs.Step.{emptied}
use Rattle.model.specs.Calls.{first_packet, packet_in, or_else, round_from, round_in, turn_in, answer_gone, without_packet, packet_gone}
use Rattle.model.specs.Whole.{sent_in, slot_in}
use Rattle.model.specs.Turn.{Turn}
use Rattle.model.specs.declared.Sender.TheVariants.{Answer, Packet}
use Rattle.views.specs.Commands.{TheGenerator, TheWrongKeys, WhetherOpen, TheLocks, TheSeed, TheMta, ThePointer, WhetherFreed, HowManyLists, TheRound, TheLists, AllButBoth}
use Rattle.views.specs.Turns.{NoPacket, NextPacket, NextList, NoList, Goes, answer_first, list_next, answer_else, nobody, AnswerLeft, PacketLeft, Leaves}
use Rattle.views.proofs.Parts.{this_or_other, put_here, put_there}
use Rattle.views.proofs.Round.{Far, far_of, list_after_lem}
use Rattle.views.proofs.Waits.{Empty, no_packet}

-- ---- one list
-- what it has: nothing, or the packet of its first ODT that has one
pub data Has (c : Session) (l : ℕ) : Turn → Type 0 where
  none : NoPacket c l → Has c l None
  some : (o : ℕ) → NextPacket c l o → Has c l (Some (Packet l o))

module _ (c : Session) (l : ℕ) where
  abbrev x : DaqList
  x = c.list l

  -- one ODT more without a packet
  more : (d : ℕ) → Empty x 0 d → has_packet (x.odt d) ≡ false → Empty x 0 (d + 1)
  more d empty a i z =
      this_or_other i d
      (λ e. let m : 0 + i ≡ d = omega arith in subst (λ (o : ℕ). (x.odt o).store ≡ []) (sym m) (no_packet (x.odt d).store a))
      (λ other. empty i (omega arith))

  from : runs_in c l ≡ true → (d n : ℕ) → d + n ≡ x.odts → Empty x 0 d → Has c l (first_packet l x d n)
  unfolding first_packet
  from r d zero e empty = none (λ _ o h. let m : 0 + o ≡ o = omega arith in subst (λ (i : ℕ). (x.odt i).store ≡ []) m (empty o (omega arith)))
  from r d (suc n) e empty =
      cond_ind (Has c l) (has_packet (x.odt d))
      (λ a. some d (record {
        runs = r;
        in_list = omega arith;
        some = ltb-true 0 (length (x.odt d).store) a;
        first = λ i h. let m : 0 + i ≡ i = omega arith in subst (λ (o : ℕ). (x.odt o).store ≡ []) m (empty i h);
      }))
      (λ a. from r (d + 1) n (omega arith) (more d empty a))

  pub has : Has c l (packet_in c l)
  unfolding packet_in
  has =
      cond_ind (Has c l) (runs_in c l) (λ r. from r 0 x.odts (omega arith) (λ i z. absurd (nothing_below i z))) (λ r. none (λ s o h. absurd (false_true (sym r ∙ s))))
    where
      nothing_below : (i : ℕ) → i < 0 → ⊥
      nothing_below i z = omega arith

-- ---- the round: the first of the n lists from l on that has a packet, or none of them has
data Found (c : Session) (l n : ℕ) : Turn → Type 0 where
  nowhere : ((i : ℕ) → i < n → NoPacket c ((l + i) % c.lists)) → Found c l n None
  there : (i o : ℕ) → i < n → ((j : ℕ) → j < i → NoPacket c ((l + j) % c.lists)) → NextPacket c ((l + i) % c.lists) o → Found c l n (Some (Packet ((l + i) % c.lists) o))

module _ (c : Session) where
  abbrev No : ℕ → Type 0
  No m = NoPacket c (m % c.lists)

  step : (l j : ℕ) → l + 1 + j ≡ l + suc j
  step l j = omega arith

  -- what holds of l and of the later ones holds of all
  all_from : (l n : ℕ) → No l → ((j : ℕ) → j < n → No (l + 1 + j)) → (j : ℕ) → j < suc n → No (l + j)
  all_from l n here later zero h = let e : l ≡ l + zero = omega arith in subst No e here
  all_from l n here later (suc j) h = subst No (step l j) (later j (omega arith))

  later_found : (l n : ℕ) (t : Turn) → No l → Found c (l + 1) n t → Found c l (suc n) t
  later_found l n _ here (nowhere f) = nowhere (all_from l n here f)
  later_found l n _ here (there i o h f p) =
      subst (λ (m : ℕ). Found c l (suc n) (Some (Packet (m % c.lists) o))) (sym (step l i))
      (there (suc i) o (omega arith) (all_from l i here f) (subst (λ (m : ℕ). NextPacket c (m % c.lists) o) (step l i) p))

  round_found : (l n : ℕ) → Found c l n (round_from c.lists (packet_in c) l n)
  unfolding round_from
  round_found l zero = nowhere (λ i h. absurd (below i h)) where
    below : (i : ℕ) → i < 0 → ⊥
    below i h = omega arith
  round_found l (suc n) = go (packet_in c (l % c.lists)) (has c (l % c.lists)) (round_found (l + 1) n) where
    here : l ≡ l + 0
    here = omega arith

    below : (j : ℕ) → j < 0 → No (l + j)
    below j h = absurd (let k : j < 0 = h in omega arith)

    go : (t : Turn) → Has c (l % c.lists) t → Found c (l + 1) n (round_from c.lists (packet_in c) (l + 1) n) → Found c l (suc n) (or_else t (round_from c.lists (packet_in c) (l + 1) n))
    go _ (none f) r = later_found l n (round_from c.lists (packet_in c) (l + 1) n) f r
    go _ (some o p) r =
        subst (λ (m : ℕ). Found c l (suc n) (Some (Packet (m % c.lists) o))) (sym here) (there 0 o (omega arith) below (subst (λ (m : ℕ). NextPacket c (m % c.lists) o) here p))

-- ---- from the list with which it begins
module _ (v : Slave) where
  abbrev c : Session
  c = v.session

  no_list_lem : ((i : ℕ) → i < c.lists → NoPacket c ((c.round + i) % c.lists)) → NoList v
  no_list_lem f l h = let w : Far c.lists c.round l = far_of c.lists c.round l h in subst (NoPacket c) w.turn (f w.far w.few)

  next_list : (i o : ℕ) → i < c.lists → ((j : ℕ) → j < i → NoPacket c ((c.round + j) % c.lists)) → NextPacket c ((c.round + i) % c.lists) o
      → NextList v ((c.round + i) % c.lists) o
  next_list i o h f p = record { on = i; few = h; round = refl; on_the_way = f; packet = p }

  -- an answer waits, and the last frame was one: a list's packet, or else the answer
  or_answer : has_answer v ≡ true → v.last_answer ≡ true → (t : Turn) → Found c c.round c.lists t → Goes v (or_else t (Some Answer))
  or_answer w f _ (nowhere n) = answer_else w f (no_list_lem n)
  or_answer w f _ (there i o h n p) = list_next (λ _. f) ((c.round + i) % c.lists) o (next_list i o h n p)

  no_answer : has_answer v ≡ false → (t : Turn) → Found c c.round c.lists t → Goes v t
  no_answer w _ (nowhere n) = nobody w (no_list_lem n)
  no_answer w _ (there i o h n p) = list_next (λ e. absurd (false_true (sym w ∙ e))) ((c.round + i) % c.lists) o (next_list i o h n p)

  pub turn_goes : Goes v (turn_in v)
  unfolding turn_in
  turn_goes =
      let found = round_found c c.round c.lists in
      cond_ind (Goes v) (has_answer v)
      (λ w. cond_ind (Goes v) v.last_answer (λ f. or_answer w f (round_in c) found) (λ f. answer_first w f))
      (λ w. no_answer w (round_in c) found)

-- ---- what a slot leaves
module _ (v : Slave) (l o : ℕ) where
  abbrev w : Slave
  w = packet_gone l o v

  but_round : AllButBoth TheRound TheLists v.session w.session
  but_round TheGenerator n m = refl
  but_round TheWrongKeys n m = refl
  but_round WhetherOpen n m = refl
  but_round TheLocks n m = λ r. refl
  but_round TheSeed n m = refl
  but_round TheMta n m = refl
  but_round ThePointer n m = refl
  but_round WhetherFreed n m = refl
  but_round HowManyLists n m = refl
  but_round TheRound n m = absurd (n refl)
  but_round TheLists n m = absurd (m refl)

  -- list l is as it was, but for that packet
  itself : w.session.list l ≡ without_packet o (v.session.list l)
  itself = put_here l (without_packet o (v.session.list l)) v.session.list

  its_odt : (w.session.list l).odt o ≡ emptied ((v.session.list l).odt o)
  its_odt = ap (λ (x : DaqList). x.odt o) itself ∙ put_here o (emptied ((v.session.list l).odt o)) (v.session.list l).odt

  packet_left : l < v.session.lists → PacketLeft v w l o
  packet_left h = record {
    gone = ap (λ (y : Odt). y.store) its_odt;
    last = refl;
    round = list_after_lem v.session.lists l h;
    entry_counts = ap (λ (y : Odt). y.entries) its_odt;
    entries = λ e. ap (λ (y : Odt). y.entry e) its_odt;
    other_odts = λ k n. ap (λ (x : DaqList). x.odt k) itself ∙ put_there o (emptied ((v.session.list l).odt o)) (v.session.list l).odt k n;
    mode = ap (λ (x : DaqList). x.mode) itself;
    selected = ap (λ (x : DaqList). x.selected) itself;
    started = ap (λ (x : DaqList). x.started) itself;
    odts = ap (λ (x : DaqList). x.odts) itself;
    others = λ j n. put_there l (without_packet o (v.session.list l)) v.session.list j n;
    rest = but_round;
    answer = refl;
    frame = record { place = refl; message = refl; ctr = refl };
  }

module _ (v : Slave) (out : List ℕ) where
  answer_left : AnswerLeft v (answer_gone v)
  answer_left = record { gone = refl; last = refl; session = refl; frame = record { place = refl; message = refl; ctr = refl } }

  -- the list whose turn it is is one that there is
  is_there : (l o : ℕ) → NextList v l o → l < v.session.lists
  is_there l o n = let some : 0 < v.session.lists = omega (arith, n.few) in rw n.round (mod-lt (v.session.round + n.on) some)

  by_turn : (t : Turn) → Goes v t → Leaves t v (sent_in t v out).slave
  unfolding sent_in
  by_turn _ (answer_first a f) = answer_left
  by_turn _ (list_next f l o n) = packet_left v l o (is_there l o n)
  by_turn _ (answer_else a f n) = answer_left
  by_turn _ (nobody a n) = refl

  pub slot_leaves : room ≤ length out → Leaves (turn_in v) v (slot_in v out).slave
  unfolding slot_in
  slot_leaves h = rw (le-ltb (length out) room h) (by_turn (turn_in v) (turn_goes v))
