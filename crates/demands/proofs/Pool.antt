-- The whole pool can be had: of any way of commands that leads where the model does, and so of the slave. Assumes nothing.
use Rattle.std.proofs.Common.{◌≡◌, ◌≢◌, ℕ, zero, suc, ◌+◌, ◌≤◌, ◌<◌, ◌⊎◌, inl, inr, ⊎_elim, true, false, List, [], ◌∷◌, ◌++◌, map, length, refl, sym, ap, ap₂, ◌∙◌, subst, arith, le-ltb, eq-zero-or-pos}
use Rattle.state.specs.State.{consistent}
use Rattle.words.specs.Command.{command_of}
use Rattle.words.specs.declared.Command.TheVariants as command
use Rattle.words.specs.declared.Resource.TheVariants.{Lists}
use Rattle.model.specs.declared.Deed.{Deed}
use Rattle.model.specs.Judge.{judge_the, judge_by}
use Rattle.model.specs.Model.{byte, Bytes, Odt, DaqList, Session, odts_taken, entries_of, entries_before, entries_taken}
use Rattle.model.specs.Answers.{Done, reply_in}
use Rattle.model.specs.View.{session_of, shown}
use Rattle.session.specs.Receive.{receive_of}
use Rattle.fields.proofs.Kept.{receive_kept}
use Rattle.views.proofs.BytesKept.{receive_bytes}
use Rattle.views.specs.Words.{total}
use Rattle.views.specs.Commands.{two, Way, TheLocks, HowManyLists, FREE_DAQ, ALLOC_DAQ, ALLOC_ODT, ALLOC_ODT_ENTRY}
use Rattle.views.proofs.FaultWords.{odts_sum, entries_sum}
use Rattle.views.proofs.Listed.{unstarted_rests}
use Rattle.views.proofs.Parts.{this_or_other}
use Rattle.views.proofs.Taken.{by_code}
use Rattle.views.proofs.Obeys.{AsModel, obeys}
use Rattle.views.proofs.Due.{lists_done, odts_done, entries_done}
use Rattle.demands.specs.Slave.{ours}
use Rattle.demands.specs.Runs.{run}
use Rattle.demands.specs.Obeyed.{Obeyed}
use Rattle.demands.specs.Pool.{Plan, InPool, Allocated, In, Distinct, EachOnce, HasOdts, OdtAt, HasEntries, Request, SomeOdts, SomeEntries, Asks, asked, GoThrough, WholePool}
use Rattle.demands.proofs.Reached.{run_kept, run_bytes}
use Rattle.demands.proofs.Changes.{PoolKept}
use Rattle.demands.proofs.Between.{run_pool}
use Rattle.demands.proofs.Obeyed.{as_model, heard_obeyed}

-- ---- sums
module _ (f g : ℕ → ℕ) where
  total_most : (n : ℕ) → ((j : ℕ) → j < n → f j ≤ g j) → total n f ≤ total n g
  total_most zero h = omega arith
  total_most (suc n) h = omega (arith, total_most n (λ j p. h j (omega arith)), h n (omega arith))

  -- room for m more in one of them is room in all
  total_room : (n l m : ℕ) → l < n → ((j : ℕ) → j < n → f j ≤ g j) → f l + m ≤ g l → total n f + m ≤ total n g
  total_room zero l m p h r = absurd (omega arith)
  total_room (suc n) l m p h r =
      this_or_other l n
      (λ e. omega (arith, subst (λ (j : ℕ). f j + m ≤ g j) e r, total_most n (λ j q. h j (omega arith))))
      (λ ne. omega (arith, total_room n l m (omega arith) (λ j q. h j (omega arith)) r, h n (omega arith)))

lists_sum : (f : ℕ → DaqList) (n : ℕ) → entries_before f n ≡ total n (λ l. entries_of (f l) (f l).odts)
unfolding entries_before
lists_sum f zero = refl
lists_sum f (suc n) = ap (λ (m : ℕ). m + entries_of (f n) (f n).odts) (lists_sum f n)

no_entries_of : (x : DaqList) → ((o : ℕ) → (x.odt o).entries ≡ 0) → (n : ℕ) → entries_of x n ≡ 0
unfolding entries_of
no_entries_of x h zero = refl
no_entries_of x h (suc n) = ap₂ ◌+◌ (no_entries_of x h n) (h n)

no_entries_lem : (f : ℕ → DaqList) → ((l o : ℕ) → ((f l).odt o).entries ≡ 0) → (n : ℕ) → entries_before f n ≡ 0
unfolding entries_before
no_entries_lem f h zero = refl
no_entries_lem f h (suc n) = ap₂ ◌+◌ (no_entries_lem f h n) (no_entries_of (f n) (h n) (f n).odts)

this_or_that : {P : Type 0} (x y : OdtAt) → (x ≡ y → P) → (x ≢ y → P) → P
this_or_that x y f g =
    this_or_other x.list y.list
    (λ a. this_or_other x.odt y.odt (λ b. f (λ t. record { list = a t; odt = b t })) (λ n. g (λ e. n (ap (λ (z : OdtAt). z.odt) e))))
    (λ n. g (λ e. n (ap (λ (z : OdtAt). z.list) e)))

-- the ODT that a packet names
abbrev named : List ℕ → OdtAt
named p = record { list = two p 2; odt = byte p 4 }

-- what ALLOC_ODT_ENTRY leaves of each list, and of each other ODT
module _ {p cal meas : List ℕ} {c : Session} {o : Done} (law : ALLOC_ODT_ENTRY p c cal meas o) where
  left_started : (l : ℕ) → (o.session.list l).started ≡ (c.list l).started
  left_started l = this_or_other l (two p 2) (λ e. rw e law.started) (λ ne. ap (λ (y : DaqList). y.started) (law.others l ne))

  left_odts : (l : ℕ) → (o.session.list l).odts ≡ (c.list l).odts
  left_odts l = this_or_other l (two p 2) (λ e. rw e law.odts) (λ ne. ap (λ (y : DaqList). y.odts) (law.others l ne))

  left_entries : (x : OdtAt) → x ≢ named p → ((o.session.list x.list).odt x.odt).entries ≡ ((c.list x.list).odt x.odt).entries
  left_entries x ne =
      this_or_other x.list (two p 2)
      (λ e. rw e (ap (λ (y : Odt). y.entries) (law.other_odts x.odt (λ f. ne (λ t. record { list = e t; odt = f t })))))
      (λ nl. ap (λ (y : DaqList). (y.odt x.odt).entries) (law.others x.list nl))

-- a packet with a code has a byte
not_empty : (p : List ℕ) → byte p 0 ≡ 0xD6 → 1 ≤ length p
not_empty [] e = absurd (omega arith)
not_empty (b ∷ p) e = omega arith

-- ---- one command after the other, by R and with any memories, each by a packet that asks what is to be asked; between them what is allocated stays.
-- From session c on each is answered FF, and after the last of them E stands
abbrev Goes : Way → (Session → Type 0) → Session → List Request → Type 0
Goes R E c [] = E c
Goes R E c (a ∷ later) = (d : Session) (p cal meas : List ℕ) (o : Done) → PoolKept c d → Asks p a → R p d cal meas o → (o.answer ≡ 0xFF ∷ []) × Goes R E o.session later

module _ (w : Plan) where
  -- ---- on the way: the lists are there and rest
  record SetOut (c : Session) : Type 0 where
    unlocked : c.unlocked Lists ≡ true
    lists : c.lists ≡ w.lists
    still : (l : ℕ) → (c.list l).started ≡ false

  -- ODTs: those of the lists ls are yet to come
  record Sizing (ls : List ℕ) (c : Session) : Type 0 where
    out : SetOut c
    due : (l : ℕ) → In l ls → (c.list l).odts ≡ 0
    made : (l : ℕ) → l < w.lists → In l ls ⊎ ((c.list l).odts ≡ w.odts l)
    empty : (l o : ℕ) → ((c.list l).odt o).entries ≡ 0

  -- entries: those of the ODTs xs are yet to come
  record Filling (xs : List OdtAt) (c : Session) : Type 0 where
    out : SetOut c
    odts : (l : ℕ) → l < w.lists → (c.list l).odts ≡ w.odts l
    due : (x : OdtAt) → In x xs → ((c.list x.list).odt x.odt).entries ≡ 0
    made : (l o : ℕ) → l < w.lists → o < w.odts l → In (record { list = l; odt = o }) xs ⊎ (((c.list l).odt o).entries ≡ w.entries l o)

  -- meanwhile nothing of that changes
  module _ {c d : Session} (m : PoolKept c d) where
    out_stays : SetOut c → SetOut d
    out_stays s = record { unlocked = m.unlocked s.unlocked; lists = m.lists ∙ s.lists; still = λ l. m.still l (s.still l) }

    sizing_stays : {ls : List ℕ} → Sizing ls c → Sizing ls d
    sizing_stays s = record {
      out = out_stays s.out;
      due = λ l i. m.odts l ∙ s.due l i;
      made = λ l p. ⊎_elim (λ i. inl i) (λ e. inr (m.odts l ∙ e)) (s.made l p);
      empty = λ l o. m.entry_counts l o ∙ s.empty l o;
    }

    filling_stays : {xs : List OdtAt} → Filling xs c → Filling xs d
    filling_stays s = record {
      out = out_stays s.out;
      odts = λ l p. m.odts l ∙ s.odts l p;
      due = λ x i. m.entry_counts x.list x.odt ∙ s.due x i;
      made = λ l o p q. ⊎_elim (λ i. inl i) (λ e. inr (m.entry_counts l o ∙ e)) (s.made l o p q);
    }

  -- all ODTs are there
  filling_from : (xs : List OdtAt) (c : Session) → ((x : OdtAt) → HasEntries w x → In x xs) → Sizing [] c → Filling xs c
  filling_from xs c every s = record {
    out = s.out;
    odts = λ l p. ⊎_elim (λ i. absurd i) (λ e. e) (s.made l p);
    due = λ x i. s.empty x.list x.odt;
    made = λ l o p q. ⊎_elim (λ z. inr (s.empty l o ∙ sym z)) (λ some. inl (every (record { list = l; odt = o }) (p, q, some))) (eq-zero-or-pos (w.entries l o));
  }

  -- and all entries
  allocated : (c : Session) → Filling [] c → Allocated w c
  allocated c s = record { lists = s.out.lists; odts = s.odts; entries = λ l o p q. ⊎_elim (λ i. absurd i) (λ e. e) (s.made l o p q) }

  module _ (R : Way) (way : AsModel R) (pool : InPool w) where
    -- ---- ALLOC_ODT for list l
    odt_room : (l : ℕ) (ls : List ℕ) (c : Session) → l < w.lists → Sizing (l ∷ ls) c → odts_taken c + w.odts l ≤ 16
    odt_room l ls c p s =
        let most : (j : ℕ) → j < w.lists → (c.list j).odts ≤ w.odts j = λ j q. ⊎_elim (λ i. omega (arith, s.due j i)) (λ e. omega arith) (s.made j q) in
        let sum : total w.lists (λ j. (c.list j).odts) + w.odts l ≤ total w.lists w.odts =
        total_room (λ j. (c.list j).odts) w.odts w.lists l (w.odts l) p most (omega (arith, s.due l (inl refl))) in
        rw (s.out.lists, odts_sum c.list w.lists) (omega (arith, sum, pool.odts))

    odt_goes : (p : List ℕ) (ls : List ℕ) (c : Session) (cal meas : List ℕ) (o : Done) → byte p 0 ≡ 0xD4 → 5 ≤ length p → byte p 4 ≡ w.odts (two p 2)
        → HasOdts w (two p 2) → (In (two p 2) ls → ⊥) → Sizing (two p 2 ∷ ls) c → R p c cal meas o → (o.answer ≡ 0xFF ∷ []) × Sizing ls o.session
    odt_goes p ls c cal meas o code long count has once s r =
        let l : ℕ = two p 2 in
        let ff : o.answer ≡ 0xFF ∷ [] =
        odts_done R way p c cal meas o r code (
        record {
          long = long;
          unlocked = s.out.unlocked;
          no_entries = no_entries_lem c.list s.empty c.lists;
          there = omega (arith, has.0, s.out.lists);
          none = s.due l (inl refl);
          still = λ j. s.out.still j;
          some = omega (arith, has.1, count);
          room = omega (arith, count, odt_room l ls c has.0 s);
        }
        ) in
        let law : ALLOC_ODT p c cal meas o = (obeys R way).alloc_odt p c cal meas o r code (ap (λ (a : List ℕ). byte a 0) ff) in (
          ff,
          record {
            out = record { unlocked = law.rest TheLocks (λ e. cc) Lists ∙ s.out.unlocked; lists = law.rest HowManyLists (λ e. cc) ∙ s.out.lists; still = λ j. law.started j ∙ s.out.still j };
            due = λ j i. this_or_other j l (λ e. absurd (once (subst (λ (k : ℕ). In k ls) e i))) (λ ne. law.others j ne ∙ s.due j (inr i));
            made = λ j q. this_or_other j l
                (λ e. inr (subst (λ (k : ℕ). (o.session.list k).odts ≡ w.odts k) (sym e) (law.count ∙ count)))
                (λ ne. ⊎_elim (λ i. ⊎_elim (λ e. absurd (ne e)) (λ k. inl k) i) (λ e. inr (law.others j ne ∙ e)) (s.made j q));
            empty = λ j k. ap (λ (y : Odt). y.entries) (law.nothing j k);
          },
        )

    abbrev odts_asked : List ℕ → List Request
    odts_asked = map (λ l. SomeOdts l (w.odts l))

    abbrev entries_asked : List OdtAt → List Request
    entries_asked = map (λ x. SomeEntries x (w.entries x.list x.odt))

    odts_row : (ls : List ℕ) (later : List Request) → ((l : ℕ) → In l ls → HasOdts w l) → Distinct ls → ((c : Session) → Sizing [] c → Goes R (Allocated w) c later)
        → (c : Session) → Sizing ls c → Goes R (Allocated w) c (odts_asked ls ++ later)
    odts_row [] later has once then c s = then c s
    odts_row (l ∷ ls) later has once then c s = λ d p cal meas o m a r.
        let is : two p 2 ≡ l = a.1 in
        let step : (o.answer ≡ 0xFF ∷ []) × Sizing ls o.session =
        odt_goes p ls d cal meas o a.0 a.3 (a.2 ∙ ap w.odts (sym is)) (subst (HasOdts w) (sym is) (has l (inl refl)))
        (λ i. once.0 (subst (λ (j : ℕ). In j ls) is i)) (subst (λ (j : ℕ). Sizing (j ∷ ls) d) (sym is) (sizing_stays m s)) r in
        (step.0, odts_row ls later (λ j i. has j (inr i)) once.1 then o.session step.1)

    -- ---- ALLOC_ODT_ENTRY for ODT x
    entry_room : (x : OdtAt) (xs : List OdtAt) (c : Session) → HasEntries w x → Filling (x ∷ xs) c → entries_taken c + w.entries x.list x.odt ≤ 128
    entry_room x xs c has s =
        let n : ℕ = w.entries x.list x.odt in
        let have : ℕ → ℕ = λ l. entries_of (c.list l) (c.list l).odts in
        let want : ℕ → ℕ = λ l. total (w.odts l) (w.entries l) in
        let each : (l o : ℕ) → l < w.lists → o < w.odts l → ((c.list l).odt o).entries ≤ w.entries l o =
        λ l o p q. ⊎_elim (λ i. omega (arith, s.due (record { list = l; odt = o }) i)) (λ e. omega (arith, e)) (s.made l o p q) in
        let is : (l : ℕ) → l < w.lists → have l ≡ total (w.odts l) (λ o. ((c.list l).odt o).entries) =
        λ l p. entries_sum (c.list l) (c.list l).odts ∙ ap (λ (k : ℕ). total k (λ o. ((c.list l).odt o).entries)) (s.odts l p) in
        let most : (l : ℕ) → l < w.lists → have l ≤ want l =
        λ l p. rw (is l p) (total_most (λ o. ((c.list l).odt o).entries) (w.entries l) (w.odts l) (λ o q. each l o p q)) in
        let here : have x.list + n ≤ want x.list =
        rw (is x.list has.0) (total_room (λ o. ((c.list x.list).odt o).entries) (w.entries x.list) (w.odts x.list) x.odt n has.1 (λ o q. each x.list o has.0 q) (omega (arith, s.due x (inl refl)))) in
        let sum : total w.lists have + n ≤ total w.lists want = total_room have want w.lists x.list n has.0 most here in
        rw (s.out.lists, lists_sum c.list w.lists) (omega (arith, sum, pool.entries))

    entry_goes : (p : List ℕ) (xs : List OdtAt) (c : Session) (cal meas : List ℕ) (o : Done) → byte p 0 ≡ 0xD3 → 6 ≤ length p → byte p 5 ≡ w.entries (two p 2) (byte p 4)
        → HasEntries w (named p) → (In (named p) xs → ⊥) → Filling (named p ∷ xs) c → R p c cal meas o → (o.answer ≡ 0xFF ∷ []) × Filling xs o.session
    entry_goes p xs c cal meas o code long count has once s r =
        let l : ℕ = two p 2 in
        let ff : o.answer ≡ 0xFF ∷ [] =
        entries_done R way p c cal meas o r code (
        record {
          long = long;
          unlocked = s.out.unlocked;
          there = omega (arith, has.0, s.out.lists);
          in_list = omega (arith, has.1, s.odts l has.0);
          none = s.due (named p) (inl refl);
          some = omega (arith, has.2, count);
          still = unstarted_rests c.opened (c.list l) (s.out.still l);
          room = omega (arith, count, entry_room (named p) xs c has s);
        }
        ) in
        let law : ALLOC_ODT_ENTRY p c cal meas o = (obeys R way).alloc_odt_entry p c cal meas o r code (ap (λ (a : List ℕ). byte a 0) ff) in
        let here : (x : OdtAt) → x ≡ named p → ((o.session.list x.list).odt x.odt).entries ≡ w.entries x.list x.odt =
        λ x e. subst (λ (z : OdtAt). ((o.session.list z.list).odt z.odt).entries ≡ w.entries z.list z.odt) (sym e) (law.count ∙ count) in (
          ff,
          record {
            out = record { unlocked = law.rest TheLocks (λ e. cc) Lists ∙ s.out.unlocked; lists = law.rest HowManyLists (λ e. cc) ∙ s.out.lists; still = λ j. left_started law j ∙ s.out.still j };
            odts = λ j q. left_odts law j ∙ s.odts j q;
            due = λ x i. left_entries law x (λ e. once (subst (λ (z : OdtAt). In z xs) e i)) ∙ s.due x (inr i);
            made = λ j i q h. let x : OdtAt = record { list = j; odt = i } in
                ⊎_elim (λ at. ⊎_elim (λ e. inr (here x e)) (λ later. inl later) at)
                (λ e. this_or_that x (named p) (λ same. inr (here x same)) (λ ne. inr (left_entries law x ne ∙ e))) (s.made j i q h);
          },
        )

    entries_row : (xs : List OdtAt) → ((x : OdtAt) → In x xs → HasEntries w x) → Distinct xs → (c : Session) → Filling xs c → Goes R (Allocated w) c (entries_asked xs)
    entries_row [] has once c s = allocated c s
    entries_row (x ∷ xs) has once c s = λ d p cal meas o m a r.
        let is : named p ≡ x = λ t. record { list = a.1 t; odt = a.2 t } in
        let step : (o.answer ≡ 0xFF ∷ []) × Filling xs o.session =
        entry_goes p xs d cal meas o a.0 a.4 (a.3 ∙ ap (λ (y : OdtAt). w.entries y.list y.odt) (sym is)) (subst (HasEntries w) (sym is) (has x (inl refl)))
        (λ i. once.0 (subst (λ (y : OdtAt). In y xs) is i)) (subst (λ (y : OdtAt). Filling (y ∷ xs) d) (sym is) (filling_stays m s)) r in
        (step.0, entries_row xs (λ y i. has y (inr i)) once.1 o.session step.1)

    -- ---- FREE_DAQ
    free_goes : (p : List ℕ) (c : Session) (cal meas : List ℕ) (o : Done) → byte p 0 ≡ 0xD6 → c.unlocked Lists ≡ true → R p c cal meas o → o.answer ≡ 0xFF ∷ []
    unfolding judge_by judge_the command_of reply_in
    free_goes p c cal meas o code free r =
        ap (λ (x : Done). x.answer) (way.same p c cal meas o r)
        ∙ by_code (λ (d : Deed). reply_in d c cal meas ≡ 0xFF ∷ []) p c 0xD6 command.FreeDaq refl code (length cal) (length meas) (rw (le-ltb (length p) 1 (not_empty p code), free))

    -- ---- ALLOC_DAQ, once they are freed
    lists_go : (p ls : List ℕ) (c : Session) (cal meas : List ℕ) (o : Done) → byte p 0 ≡ 0xD5 → two p 2 ≡ w.lists → 4 ≤ length p → ((l : ℕ) → HasOdts w l → In l ls)
        → c.unlocked Lists ≡ true → c.freed ≡ true → c.lists ≡ 0 → R p c cal meas o → (o.answer ≡ 0xFF ∷ []) × Sizing ls o.session
    lists_go p ls c cal meas o code is long every free freed none r =
        let ff : o.answer ≡ 0xFF ∷ [] =
        lists_done R way p c cal meas o r code (record { long = long; unlocked = free; freed = freed; none = none; some = omega (arith, is, pool.some); room = omega (arith, is, pool.lists) }) in
        let law : ALLOC_DAQ p c cal meas o = (obeys R way).alloc_daq p c cal meas o r code (ap (λ (a : List ℕ). byte a 0) ff) in
        let bare : (l : ℕ) → (o.session.list l).odts ≡ 0 = λ l. ap (λ (y : DaqList). y.odts) (law.nothing l) in (
          ff,
          record {
            out = record { unlocked = law.rest TheLocks (λ e. cc) (λ e. cc) Lists ∙ free; lists = law.count ∙ is; still = λ l. ap (λ (y : DaqList). y.started) (law.nothing l) };
            due = λ l i. bare l;
            made = λ l q. ⊎_elim (λ z. inr (bare l ∙ sym z)) (λ some. inl (every l (q, some))) (eq-zero-or-pos (w.odts l));
            empty = λ l k. ap (λ (y : DaqList). (y.odt k).entries) (law.nothing l);
          },
        )

-- ---- the whole row
goes_through : (R : Way) → AsModel R → (w : Plan) (ls : List ℕ) (xs : List OdtAt) (c : Session) → InPool w → EachOnce (HasOdts w) ls → EachOnce (HasEntries w) xs → c.unlocked Lists ≡ true
    → Goes R (Allocated w) c (asked w ls xs)
goes_through R way w ls xs c pool order order' free = λ d p cal meas o m a r.
    let unlocked : d.unlocked Lists ≡ true = m.unlocked free in
    let ff : o.answer ≡ 0xFF ∷ [] = free_goes w R way pool p d cal meas o a unlocked r in
    let law : FREE_DAQ p d cal meas o = (obeys R way).free_daq p d cal meas o r a (ap (λ (x : List ℕ). byte x 0) ff) in (
      ff,
      λ d' p' cal' meas' o' m' a' r'.
          let step : (o'.answer ≡ 0xFF ∷ []) × Sizing w ls o'.session =
          lists_go w R way pool p' ls d' cal' meas' o' a'.0 a'.1 a'.2 order.every (m'.unlocked (law.locks Lists ∙ unlocked)) (m'.freed ∙ law.freed) (m'.lists ∙ law.none) r' in (
            step.0,
            odts_row w R way pool ls (entries_asked w R way pool xs) order.only order.once
                (λ e s. entries_row w R way pool xs order'.only order'.once e (filling_from w xs e order'.every s)) o'.session step.1,
          ),
    )

-- ---- of the slave: what goes through by what is heard goes through from a state
heard_through : (E : Session → Type 0) (later : List Request) (s : List ℕ) → consistent s ≡ true → Bytes s → Goes (Obeyed ours) E (session_of s) later → GoThrough ours E s later
heard_through E [] s c bs g = g
heard_through E (a ∷ later) s c bs g = λ before cal meas b p quiet lent last heard asks.
    let t : List ℕ = run ours s before in
    let u : List ℕ = (receive_of t cal meas b).state in
    let ct : consistent t ≡ true = run_kept s before c in
    let bt : Bytes t = run_bytes s before bs lent in
    let here = g (session_of t) p cal meas (shown u (receive_of t cal meas b).cal) (run_pool before s c quiet) asks (heard_obeyed t cal meas b p ct bt last.2 heard) in
    (here.0, heard_through E later u (receive_kept t cal meas b ct) (receive_bytes t cal meas b bt last.0 last.1 last.2).0 here.1)

pub whole_pool : WholePool ours
whole_pool w ls xs s pool order order' c bs free = heard_through (Allocated w) (asked w ls xs) s c bs (goes_through (Obeyed ours) as_model w ls xs (session_of s) pool order order' free)
