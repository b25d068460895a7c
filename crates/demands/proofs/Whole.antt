-- What waits of a list leaves whole: every run goes for the list as the ranking asks. Assumes nothing.
use Rattle.std.proofs.Common.{◌≡◌, ℕ, suc, ◌+◌, ◌-◌, ◌*◌, ◌%◌, ◌≤◌, ◌<◌, Bool, true, false, cond, List, [], ◌∷◌, ◌++◌, length, Some, ltb, refl, sym, ap, ◌∙◌, subst, arith, append-nil, inl, inr}
use Rattle.std.proofs.lemmas.Bool.{cases_lt}
use Rattle.line.specs.Message.{room}
use Rattle.line.proofs.Laws.{cond_ind}
use Rattle.state.specs.State.{consistent}
use Rattle.session.specs.Receive.{receive_of}
use Rattle.lists.specs.Event.{event_of}
use Rattle.lists.specs.Slot.{slot_of}
use Rattle.model.specs.Turn.{Turn}
use Rattle.state.proofs.Consistent.{consistent_size}
use Rattle.fields.proofs.Kept.{receive_kept, event_kept, slot_kept}
use Rattle.model.specs.Model.{Session, Slave, first_of, runs_in, waiting_in}
use Rattle.model.specs.Calls.{turn_in, packet_from, packet_for, answer_gone, without_packet, list_after, packet_gone}
use Rattle.model.specs.View.{session_of, view_of}
use Rattle.model.specs.declared.Sender.TheVariants.{Answer, Packet}
use Rattle.model.proofs.Bounded.{either}
use Rattle.views.proofs.Listed.{listed, runs_listed}
use Rattle.views.proofs.Waits.{rests, odts_kept, sampled_empty}
use Rattle.demands.specs.Slave.{ours}
use Rattle.demands.specs.Runs.{Call, Byte, Event, SendingSlot, Elsewhere, sends, frames, slots}
use Rattle.demands.specs.Heard.{stops_at}
use Rattle.demands.specs.Waiting.{waiting_of, sample_of, is_of, packets_in}
use Rattle.demands.specs.Demand3.{Undisturbed, Begins}
use Rattle.views.specs.Events.{takes_sample}
use Rattle.views.proofs.EventLaws.{sampled_if}
use Rattle.demands.specs.Kept.{gains}
use Rattle.demands.specs.Ranking.{Proceeds, all_gone, at_end, answer_first, own_packet, other_list}
use Rattle.demands.proofs.Ranking.{leaves_next, leaves_whole}
use Rattle.views.proofs.Round.{Far, far_of, last_round}
use Rattle.demands.proofs.Deeds.{SameNumbers, SameLists}
use Rattle.demands.proofs.Turns.{Next, Moves, by_answer, by_own, by_other, moves}
use Rattle.demands.proofs.Sends.{next_low, turned, frames_of, slot_shows, slot_stays, slot_sends, slot_silent}
use Rattle.demands.proofs.Carried.{carried_append, carried_alike, carries, carries_none, packet_own, packet_other, of_same, answer_answers, answer_of_none}
use Rattle.demands.proofs.ByteKeeps.{SameSent, byte_waiting, byte_lists, byte_sent}
use Rattle.demands.proofs.Events.{gains_sample_lem, event_waiting, event_numbers, event_sent}
use Rattle.demands.proofs.Soon.{counted, uncounted}

-- ---- a list of which something waits runs
waits_runs : (c : Session) (l : ℕ) (p : List ℕ) (ps : List (List ℕ)) → waiting_in c l ≡ p ∷ ps → runs_in c l ≡ true
waits_runs c l p ps e = either (runs_in c l) (λ r. r) (λ r. let n = rests c.opened (first_of c l) (c.list l) r in absurd cc)

-- ---- what the round sees of list l in a state that has the lists of session c: its turn is `on` lists on
record Seen (c : Session) (l on : ℕ) (last : Bool) (q : List (List ℕ)) (s : List ℕ) : Type 0 where
  fit : consistent s ≡ true
  same : SameNumbers c (session_of s)
  waiting : waiting_of s l ≡ q
  flag : (view_of s).last_answer ≡ last
  few : on < c.lists
  turn : ((session_of s).round + on) % c.lists ≡ l

abbrev Later : Session → ℕ → List Call → Type 0
Later c l cs = (on : ℕ) (last : Bool) (q : List (List ℕ)) (s : List ℕ) → Seen c l on last q s → Undisturbed ours l s cs
    → Proceeds c.lists q (suc on) last (slots cs) (packets_in c l (frames ours s cs))

numbers_then : {c d e : Session} → SameNumbers c d → SameNumbers d e → SameNumbers c e
numbers_then x y = record { lists = y.lists ∙ x.lists; odts = λ l. y.odts l ∙ x.odts l }

-- a call that leaves the lists, the round and the list's packets
seen_on : {c : Session} {l on : ℕ} {last : Bool} {q : List (List ℕ)} {s t : List ℕ}
    → consistent t ≡ true → SameSent (view_of s) (view_of t) → SameLists (session_of s) (session_of t) → waiting_of t l ≡ waiting_of s l → Seen c l on last q s → Seen c l on last q t
seen_on {c} {on = on} k r n w x = record {
  fit = k;
  same = numbers_then x.same n.0;
  waiting = w ∙ x.waiting;
  flag = r.last_answer ∙ x.flag;
  few = x.few;
  turn = ap (λ (m : ℕ). (m + on) % c.lists) n.1 ∙ x.turn;
}

-- ---- a list with packets waiting gains none
no_gain : (s cal meas : List ℕ) (event clock l : ℕ) (p : List ℕ) (ps : List (List ℕ)) → waiting_of s l ≡ p ∷ ps → gains l s (Event cal meas event clock) ≡ []
no_gain s cal meas event clock l p ps e =
    cond_ind (λ (x : List (List ℕ)). x ≡ []) (ltb 1 event) (λ _. refl) (λ _. go (takes_sample (session_of s) event l) refl) where
      go : (t : Bool) → takes_sample (session_of s) event l ≡ t → cond t (sample_of s l clock cal meas) [] ≡ []
      go true z = let n = sampled_empty (session_of s) l event (sampled_if (session_of s) (listed s) event l z) in absurd cc
      go false z = refl

event_seen : (c : Session) (s cal meas : List ℕ) (event clock l on : ℕ) (last : Bool) (p : List ℕ) (ps : List (List ℕ)) → Seen c l on last (p ∷ ps) s
    → Seen c l on last (p ∷ ps) (event_of s cal meas event clock).state
event_seen c s cal meas event clock l on last p ps x =
    seen_on (event_kept s cal meas event clock x.fit) (event_sent s cal meas event clock) (event_numbers s cal meas event clock x.fit)
    (event_waiting s cal meas event clock l x.fit ∙ ap (λ g. waiting_of s l ++ g) (no_gain s cal meas event clock l p ps x.waiting) ∙ append-nil (waiting_of s l)) x

byte_seen : (c : Session) (s cal meas : List ℕ) (b l on : ℕ) (last : Bool) (p : List ℕ) (ps : List (List ℕ)) → Seen c l on last (p ∷ ps) s → stops_at l s cal meas b ≡ false
    → Seen c l on last (p ∷ ps) (receive_of s cal meas b).state
byte_seen c s cal meas b l on last p ps x k =
    seen_on (receive_kept s cal meas b x.fit) (byte_sent s cal meas b x.fit) (byte_lists s cal meas b x.fit l k (waits_runs (session_of s) l p ps x.waiting))
    (byte_waiting s cal meas b x.fit l ∙ ap (λ (t : Bool). cond t [] (waiting_of s l)) k) x

-- ---- a slot with room, by whose turn it is
-- what the run sends of the list: what this slot does, and then the rest
sent_on : (c : Session) (l : ℕ) (s out : List ℕ) (cs : List Call) (t : Turn) (xs : List (List ℕ)) → consistent s ≡ true → room ≤ length out → turn_in (view_of s) ≡ t
    → packets_in c l (frames_of (view_of s).ctr (packet_for t (view_of s))) ≡ xs → packets_in c l (frames ours s (SendingSlot out ∷ cs)) ≡ xs ++ packets_in c l (frames ours (slot_of s out).state cs)
sent_on c l s out cs t xs k r e x =
    carried_append (is_of c l) (sends ours s (SendingSlot out)) (frames ours (slot_of s out).state cs)
    ∙ ap (λ (fs : List (List ℕ)). packets_in c l fs ++ packets_in c l (frames ours (slot_of s out).state cs)) (slot_sends s out k r ∙ ap (λ u. frames_of (view_of s).ctr (packet_for u (view_of s))) e)
    ∙ ap (λ (ys : List (List ℕ)). ys ++ packets_in c l (frames ours (slot_of s out).state cs)) x

module _ (c : Session) (l : ℕ) (cs : List Call) (later : Later c l cs) (s out : List ℕ) (r : room ≤ length out) (k : Undisturbed ours l (slot_of s out).state cs) where
  abbrev v : Slave
  v = view_of s

  abbrev L : ℕ
  L = c.lists

  abbrev sent_of : List (List ℕ)
  sent_of = packets_in c l (frames ours s (SendingSlot out ∷ cs))

  -- an answer went
  by_the_answer : (on : ℕ) (q : List (List ℕ)) → Seen c l on false q s → turn_in v ≡ Some Answer → is_of c l v.answer ≡ false → Proceeds L q (suc on) false (suc (slots cs)) sent_of
  unfolding view_of
  by_the_answer on q x e n =
      let fit : consistent s ≡ true = x.fit in
      let gone : view_of (slot_of s out).state ≡ answer_gone v = slot_shows s out fit r ∙ ap (λ t. turned t v) e in
      let y : Seen c l on true q (slot_of s out).state =
      record {
        fit = slot_kept s out fit;
        same = subst (λ (w : Slave). SameNumbers c w.session) (sym gone) x.same;
        waiting = ap (λ (w : Slave). waiting_in w.session l) gone ∙ x.waiting;
        flag = ap (λ (w : Slave). w.last_answer) gone;
        few = x.few;
        turn = ap (λ (w : Slave). (w.session.round + on) % L) gone ∙ x.turn;
      } in
      subst (λ (z : List (List ℕ)). Proceeds L q (suc on) false (suc (slots cs)) z) (sym (sent_on c l s out cs (Some Answer) [] fit r e (carries_none (is_of c l) v.ctr v.answer n)))
      (answer_first (later on true q (slot_of s out).state y k))

  -- a packet of list j went, and then list l is `near` lists on
  seen_packet : (j o near : ℕ) (q : List (List ℕ)) → SameNumbers c v.session → consistent s ≡ true → turn_in v ≡ Some (Packet j o) → waiting_in (packet_gone j o v).session l ≡ q → near < L
      → (list_after L j + near) % L ≡ l → Seen c l near false q (slot_of s out).state
  unfolding view_of
  seen_packet j o near q same fit e w few t =
      let gone : view_of (slot_of s out).state ≡ packet_gone j o v = slot_shows s out fit r ∙ ap (λ u. turned u v) e in
      let numbers : SameNumbers c (packet_gone j o v).session = record { lists = same.lists; odts = λ i. odts_kept v.session j (without_packet o) refl i ∙ same.odts i } in
      record {
        fit = slot_kept s out fit;
        same = subst (λ (x : Slave). SameNumbers c x.session) (sym gone) numbers;
        waiting = ap (λ (x : Slave). waiting_in x.session l) gone ∙ w;
        flag = ap (λ (x : Slave). x.last_answer) gone;
        few = few;
        turn = ap (λ (x : Slave). (x.session.round + near) % L) gone ∙ ap (λ (n : ℕ). (list_after n j + near) % L) same.lists ∙ t;
      }

  -- a packet of list j is of list l by c's numbers if it is by its own
  module _ (same : SameNumbers c v.session) (j o : ℕ) (n : Next v j o) where
    abbrev p : List ℕ
    p = packet_from v.session j o

    own_passes : is_of c j p ≡ true
    own_passes = sym (of_same c v.session same j p) ∙ packet_own v.session j o (next_low s j o n) n.in_list

    other_fails : (l ≡ j → ⊥) → is_of c l p ≡ false
    other_fails ne = sym (of_same c v.session same l p) ∙ packet_other v.session j o (next_low s j o n) l n.in_list ne

  by_its_own : (on : ℕ) (last : Bool) (o : ℕ) → l < L → SameNumbers c v.session → Next v l o → consistent s ≡ true → turn_in v ≡ Some (Packet l o)
      → Proceeds L (waiting_in v.session l) (suc on) last (suc (slots cs)) sent_of
  by_its_own on last o inside same n fit e =
      let y : Seen c l (L - 1) false n.rest (slot_of s out).state = seen_packet l o (L - 1) n.rest same fit e n.left (omega arith) (last_round L l inside) in
      let whole : suc (L - 1) ≡ L = omega arith in
      let g : Proceeds L n.rest L false (slots cs) (packets_in c l (frames ours (slot_of s out).state cs)) =
      subst (λ (m : ℕ). Proceeds L n.rest m false (slots cs) (packets_in c l (frames ours (slot_of s out).state cs))) whole (later (L - 1) false n.rest (slot_of s out).state y k) in
      rw (n.waiting, sent_on c l s out cs (Some (Packet l o)) (packet_from v.session l o ∷ []) fit r e (carries (is_of c l) v.ctr (packet_from v.session l o) (own_passes same l o n))) (own_packet g)

  by_another : (on : ℕ) (last : Bool) (q : List (List ℕ)) (j o near : ℕ) → Seen c l on last q s → SameNumbers c v.session → Next v j o → (l ≡ j → ⊥) → near < on
      → (list_after L j + near) % L ≡ l → turn_in v ≡ Some (Packet j o) → Proceeds L q (suc on) last (suc (slots cs)) sent_of
  unfolding view_of
  by_another on last q j o near x same n ne b t e =
      let fit : consistent s ≡ true = x.fit in
      let y : Seen c l near false q (slot_of s out).state = seen_packet j o near q same fit e (n.others l ne ∙ x.waiting) (omega (arith, x.few)) t in
      subst (λ (z : List (List ℕ)). Proceeds L q (suc on) last (suc (slots cs)) z)
      (sym (sent_on c l s out cs (Some (Packet j o)) [] fit r e (carries_none (is_of c l) v.ctr (packet_from v.session j o) (other_fails same j o n ne))))
      (other_list (suc near) (omega arith) (omega arith) (later near false q (slot_of s out).state y k))

  by_turn : (on : ℕ) (last : Bool) (q : List (List ℕ)) (t : Turn) → l < L → Seen c l on last q s → SameNumbers c v.session → turn_in v ≡ t → Moves v l on t
      → Proceeds L q (suc on) last (suc (slots cs)) sent_of
  unfolding view_of
  by_turn on last q _ inside x same e (by_answer w f) =
      let n = answer_of_none c l v.answer (answer_answers s (consistent_size s x.fit) w) in
      let g : last ≡ false = sym x.flag ∙ f in
      rw g (by_the_answer on q (rw g at x) e n)
  by_turn on last q _ inside x same e (by_own o n) = rw (← x.waiting) (by_its_own on last o inside same n x.fit e)
  by_turn on last q _ inside x same e (by_other j o n ne near b t) =
      by_another on last q j o near x same n ne b (subst (λ (m : ℕ). (list_after m j + near) % m ≡ l) same.lists t) e

-- ---- every run
goes_so : (c : Session) (l : ℕ) (cs : List Call) → Later c l cs
unfolding view_of
goes_so c l [] on last q s x k = at_end
goes_so c l (Byte cal meas b ∷ cs) on last [] s x k = all_gone
goes_so c l (Byte cal meas b ∷ cs) on last (p ∷ ps) s x k = goes_so c l cs on last (p ∷ ps) (receive_of s cal meas b).state (byte_seen c s cal meas b l on last p ps x k.0) k.1
goes_so c l (Event cal meas event clock ∷ cs) on last [] s x k = all_gone
goes_so c l (Event cal meas event clock ∷ cs) on last (p ∷ ps) s x k = goes_so c l cs on last (p ∷ ps) (event_of s cal meas event clock).state (event_seen c s cal meas event clock l on last p ps x) k
goes_so c l (SendingSlot out ∷ cs) on last [] s x k = all_gone
goes_so c l (SendingSlot out ∷ cs) on last (p ∷ ps) s x k = elim (cases_lt (length out) room) [ inl r ↦ without r (goes_so c l cs) | inr r ↦ with_room r (goes_so c l cs) ] where
  with_room : room ≤ length out → Later c l cs → Proceeds c.lists (p ∷ ps) (suc on) last (slots (SendingSlot out ∷ cs)) (packets_in c l (frames ours s (SendingSlot out ∷ cs)))
  with_room r later =
      let there : l < (session_of s).lists = runs_listed (session_of s) (listed s) l (waits_runs (session_of s) l p ps x.waiting) in
      let many : (session_of s).lists ≡ c.lists = x.same.lists in
      let f : Far (session_of s).lists (session_of s).round l = record { far = on; few = rw many x.few; turn = rw many x.turn } in
      rw (counted out (slots cs) r)
      (by_turn c l cs later s out r k on last (p ∷ ps) (turn_in (view_of s)) (omega (arith, there, many)) x x.same refl (moves (view_of s) l p ps there x.waiting f))

  without : length out < room → Later c l cs → Proceeds c.lists (p ∷ ps) (suc on) last (slots (SendingSlot out ∷ cs)) (packets_in c l (frames ours s (SendingSlot out ∷ cs)))
  without r later =
      let st : (slot_of s out).state ≡ s = slot_stays s out x.fit r in
      rw (uncounted out (slots cs) r, slot_silent s out x.fit r)
      (subst (λ (t : List ℕ). Proceeds c.lists (p ∷ ps) (suc on) last (slots cs) (packets_in c l (frames ours t cs))) (sym st)
      (later on last (p ∷ ps) s x (subst (λ (t : List ℕ). Undisturbed ours l t cs) st k)))
goes_so c l (Elsewhere ∷ cs) on last q s x k = goes_so c l cs on last q s x k

-- ---- so of what waits of a list
module _ (s : List ℕ) (l : ℕ) (cs : List Call) (fit : consistent s ≡ true) (k : Undisturbed ours l s cs) where
  abbrev c : Session
  c = session_of s

  abbrev sent : List (List ℕ)
  sent = packets_in c l (frames ours s cs)

  -- from its place in the round
  proceeds : (p : List ℕ) (ps : List (List ℕ)) → waiting_of s l ≡ p ∷ ps → (on : ℕ) × (on < c.lists) × Proceeds c.lists (p ∷ ps) (suc on) (view_of s).last_answer (slots cs) sent
  proceeds p ps e =
      let f : Far c.lists c.round l = far_of c.lists c.round l (runs_listed c (listed s) l (waits_runs c l p ps e)) in (
        f.far,
        f.few,
        goes_so c l cs f.far (view_of s).last_answer (p ∷ ps) s
            (record { fit = fit; same = record { lists = refl; odts = λ i. refl }; waiting = e; flag = refl; few = f.few; turn = f.turn }) k,
      )

  pub next_leaves : (p : List ℕ) (ps : List (List ℕ)) → waiting_of s l ≡ p ∷ ps → 2 * c.lists ≤ slots cs → Begins (p ∷ []) sent
  next_leaves p ps e h = let g = proceeds p ps e in leaves_next c.lists p ps (suc g.0) (slots cs) (view_of s).last_answer sent g.2 (omega arith) (omega (arith, g.1)) h

  pub leaves_all : 2 * (c.lists * length (waiting_of s l)) ≤ slots cs → Begins (waiting_of s l) sent
  leaves_all h = go (waiting_of s l) refl h where
    go : (q : List (List ℕ)) → waiting_of s l ≡ q → 2 * (c.lists * length q) ≤ slots cs → Begins q sent
    go [] e h = (sent, refl)
    go (p ∷ ps) e h = let g = proceeds p ps e in leaves_whole c.lists (p ∷ ps) (suc g.0) (slots cs) (view_of s).last_answer sent g.2 (omega arith) (omega (arith, g.1)) h

-- a sample is what then waits
pub sample_leaves_lem : (s cal meas : List ℕ) (event clock l : ℕ) (cs : List Call) → consistent s ≡ true → event ≤ 1 → takes_sample (session_of s) event l ≡ true
    → Undisturbed ours l (event_of s cal meas event clock).state cs → 2 * ((session_of s).lists * length (sample_of s l clock cal meas)) ≤ slots cs
    → Begins (sample_of s l clock cal meas) (packets_in (session_of s) l (frames ours (event_of s cal meas event clock).state cs))
sample_leaves_lem s cal meas event clock l cs fit one x k e =
    let t : List ℕ = (event_of s cal meas event clock).state in
    let g : waiting_of t l ≡ sample_of s l clock cal meas = gains_sample_lem s cal meas event clock l fit one x in
    let same : SameNumbers (session_of s) (session_of t) = (event_numbers s cal meas event clock fit).0 in
    let h : 2 * ((session_of t).lists * length (waiting_of t l)) ≤ slots cs = rw (same.lists, g) e in
    subst (λ (ys : List (List ℕ)). Begins (sample_of s l clock cal meas) ys) (carried_alike (is_of (session_of t) l) (is_of (session_of s) l) (of_same (session_of s) (session_of t) same l) (frames ours t cs))
    (subst (λ (q : List (List ℕ)). Begins q (packets_in (session_of t) l (frames ours t cs))) g (leaves_all t l cs (event_kept s cal meas event clock fit) k h))
