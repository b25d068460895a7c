-- What waits of a list, by whether it runs and what its ODTs have in store; what a sent packet, a sample and an allocation make of it. Assumes nothing.
use Rattle.std.proofs.Common.{◌≡◌, ℕ, zero, suc, ◌+◌, ◌<◌, ◌≤◌, Bool, true, false, cond, eqb, ltb, ◌≢◌, List, [], ◌∷◌, ◌++◌, length, sym, refl, ap, ◌∙◌, subst, ap₂, append-nil, add-zero, arith, ltb-false, lt-ltb}
use Rattle.std.proofs.lemmas.List.{nil_from_length}
use Rattle.line.proofs.Laws.{cond_ind, false_true}
use Rattle.model.specs.declared.Sampling.{Sampling}
use Rattle.model.specs.declared.Sampling.TheVariants.{Idle, Sampled, Missed}
use Rattle.model.specs.Model.{Odt, DaqList, no_list, Session, first_of, runs_in, some_started, has_packet, some_packet, unsent, in_store, in_stores, waiting, waiting_in, runs}
use Rattle.model.specs.Step.{emptied, at, with_odts, alloc_entries, without_lists, with_new_lists, each_list}
use Rattle.model.specs.Calls.{without_packet, sampling_in, contents_in, sampled, packet_with, sample_from, sample_in}
use Rattle.model.specs.Whole.{sampled_as, is_sampled, sampled_in}
use Rattle.model.proofs.Fits.{runs_same}
use Rattle.views.proofs.Parts.{this_or_other, put_by, put_here, put_there}
use Rattle.views.proofs.Listed.{Listed, before_same, neither, unstarted_rests, all_unstarted}

-- ---- by the stores
module _ (first : ℕ) (x z : DaqList) where
  stores_same : (o n : ℕ) → ((i : ℕ) → o ≤ i → i < o + n → (x.odt i).store ≡ (z.odt i).store) → in_stores first x o n ≡ in_stores first z o n
  unfolding in_stores
  stores_same o zero h = refl
  stores_same o (suc n) h =
      ap₂ (λ (ps qs : List (List ℕ)). ps ++ qs) (ap (λ (bs : List ℕ). cond (ltb 0 (length bs)) (((first + o) ∷ bs) ∷ []) []) (h o (omega arith) (omega arith)))
      (stores_same (o + 1) n (λ i p q. h i (omega arith) (omega arith)))

  pub waits_alike : (o p : Bool) → runs o x ≡ runs p z → x.odts ≡ z.odts → ((i : ℕ) → i < z.odts → (x.odt i).store ≡ (z.odt i).store) → waiting o first x ≡ waiting p first z
  unfolding waiting
  waits_alike o p run many stores =
      ap₂ (λ (b : Bool) (ps : List (List ℕ)). cond b ps []) run (ap (in_stores first x 0) many ∙ stores_same 0 z.odts (λ i _ h. stores i (omega arith)))

-- ---- nothing waits of a list that does not run
pub rests : (o : Bool) (first : ℕ) (x : DaqList) → runs o x ≡ false → waiting o first x ≡ []
unfolding waiting
rests o first x e = ap (λ (b : Bool). cond b (in_stores first x 0 x.odts) []) e

-- ODTs with nothing in store are passed over
abbrev pub Empty : DaqList → ℕ → ℕ → Type 0
Empty x o d = (i : ℕ) → i < d → (x.odt (o + i)).store ≡ []

skipped : (first : ℕ) (x : DaqList) (o d n : ℕ) → Empty x o d → in_stores first x o (d + n) ≡ in_stores first x (o + d) n
unfolding in_stores
skipped first x o zero n z = let e : o + 0 ≡ o = omega arith in let f : 0 + n ≡ n = omega arith in rw (e, f)
skipped first x o (suc d) n z =
    let here : (x.odt o).store ≡ [] = rw add-zero at (z 0 (omega arith)) in
    let there : o + 1 + d ≡ o + suc d = omega arith in
    let some : suc d + n ≡ suc (d + n) = omega arith in
    rw some (ap (λ (bs : List ℕ). cond (ltb 0 (length bs)) (((first + o) ∷ bs) ∷ []) [] ++ in_stores first x (o + 1) (d + n)) here
    ∙ skipped first x (o + 1) d n (λ i h. subst (λ (j : ℕ). (x.odt j).store ≡ []) (further i) (z (suc i) (omega arith))) ∙ rw there) where
      further : (i : ℕ) → o + suc i ≡ o + 1 + i
      further i = omega arith

-- nothing waits of a list with nothing in store
pub none_waits : (o : Bool) (first : ℕ) (x : DaqList) → Empty x 0 x.odts → waiting o first x ≡ []
unfolding waiting in_stores
none_waits o first x z =
    let none : in_stores first x 0 x.odts ≡ [] = rw add-zero at (skipped first x 0 x.odts 0 z) in
    cond_ind (λ (ps : List (List ℕ)). ps ≡ []) (runs o x) (λ _. none) (λ _. refl)

-- ---- one list changed, which keeps its ODTs: every list's first ODT has the number that it had
module _ (c : Session) (j : ℕ) (f : DaqList → DaqList) (many : (f (c.list j)).odts ≡ (c.list j).odts) where
  pub odts_kept : (i : ℕ) → ((at j f c).list i).odts ≡ (c.list i).odts
  odts_kept i = put_by (λ (x : DaqList). x.odts ≡ (c.list i).odts) j (f (c.list j)) c.list i (λ e. many ∙ ap (λ (k : ℕ). (c.list k).odts) (sym e)) (λ _. refl)

  pub first_kept : (l : ℕ) → first_of (at j f c) l ≡ first_of c l
  first_kept l = before_same (at j f c).list c.list odts_kept l

  -- another list's packets wait as they did
  pub others_wait : (l : ℕ) → l ≢ j → waiting_in (at j f c) l ≡ waiting_in c l
  others_wait l n = ap₂ (waiting c.opened) (first_kept l) (put_there j (f (c.list j)) c.list l n)

  pub own_waits : waiting_in (at j f c) j ≡ waiting c.opened (first_of c j) (f (c.list j))
  own_waits = ap₂ (waiting c.opened) (first_kept j) (put_here j (f (c.list j)) c.list)

-- ---- a packet is sent: the other lists' packets wait as they did
pub sent_others : (c : Session) (j d l : ℕ) → l ≢ j → waiting_in (at j (without_packet d) c) l ≡ waiting_in c l
sent_others c j d l n = others_wait c j (without_packet d) refl l n

module _ (x : DaqList) (d : ℕ) where
  store_gone : ((without_packet d x).odt d).store ≡ []
  store_gone = ap (λ (y : Odt). y.store) (put_here d (emptied (x.odt d)) x.odt)

  store_kept : (o : ℕ) → o ≢ d → ((without_packet d x).odt o).store ≡ (x.odt o).store
  store_kept o n = ap (λ (y : Odt). y.store) (put_there d (emptied (x.odt d)) x.odt o n)

-- the first packet of a list, that of its ODT d, goes; those of later ODTs stay
module _ (c : Session) (l d n : ℕ) (run : runs_in c l ≡ true) (there : d + suc n ≡ (c.list l).odts) (none : Empty (c.list l) 0 d) where
  abbrev x : DaqList
  x = c.list l

  abbrev number : ℕ
  number = first_of c l

  abbrev left : List (List ℕ)
  left = in_stores number x (d + 1) n

  first_in : (z : DaqList) → Empty z 0 d → in_stores number z 0 x.odts ≡ in_store (number + d) (z.odt d) ++ in_stores number z (d + 1) n
  unfolding in_stores
  first_in z e = subst (λ (m : ℕ). in_stores number z 0 m ≡ in_store (number + d) (z.odt d) ++ in_stores number z (d + 1) n) there (skipped number z 0 d (suc n) e ∙ from)
    where
      from : in_stores number z (0 + d) (suc n) ≡ in_store (number + d) (z.odt d) ++ in_stores number z (d + 1) n
      from = let e : 0 + d ≡ d = omega arith in rw e refl

  pub first_waits : has_packet (x.odt d) ≡ true → waiting_in c l ≡ ((number + d) ∷ (x.odt d).store) ∷ left
  unfolding waiting
  first_waits some =
      ap (λ (b : Bool). cond b (in_stores number x 0 x.odts) []) run ∙ first_in x none
      ∙ ap (λ (b : Bool). cond b (((number + d) ∷ (x.odt d).store) ∷ []) [] ++ left) some

  pub first_sent : waiting_in (at l (without_packet d) c) l ≡ left
  unfolding waiting
  first_sent =
      let z : DaqList = without_packet d x in
      let still : Empty z 0 d = λ i h. store_kept x d (0 + i) (omega arith) ∙ none i h in
      own_waits c l (without_packet d) refl
      ∙ ap (λ (b : Bool). cond b (in_stores number z 0 x.odts) []) (runs_same z x c.opened refl refl ∙ run)
      ∙ first_in z still
      ∙ ap₂ (λ (bs : List ℕ) (ps : List (List ℕ)). cond (ltb 0 (length bs)) (((number + d) ∷ bs) ∷ []) [] ++ ps) (store_gone x d)
      (stores_same number z x (d + 1) n (λ i p q. store_kept x d i (omega arith)))

-- ---- a sample: what is captured of a list that runs waits
packet_waits : (k : ℕ) (bs : List ℕ) → cond (ltb 0 (length bs)) ((k ∷ bs) ∷ []) [] ≡ packet_with k bs
packet_waits k [] = refl
packet_waits k (b ∷ bs) = rw (lt-ltb 0 (length (b ∷ bs)) (omega arith))

module _ (first clock : ℕ) (cal meas : List ℕ) (x : DaqList) where
  abbrev with_sample : DaqList
  with_sample = sampled clock cal meas x

  captured_store : (o : ℕ) → o < x.odts → (with_sample.odt o).store ≡ contents_in o clock cal meas (x.odt o)
  captured_store o h = rw (lt-ltb o x.odts h)

  captured_in : (o n : ℕ) → o + n ≤ x.odts → in_stores first with_sample o n ≡ sample_from first x clock cal meas o n
  unfolding in_stores sample_from
  captured_in o zero h = refl
  captured_in o (suc n) h =
      let k : ℕ = first + o in
      ap₂ (λ (ps qs : List (List ℕ)). ps ++ qs)
      (ap (λ (bs : List ℕ). cond (ltb 0 (length bs)) ((k ∷ bs) ∷ []) []) (captured_store o (omega arith)) ∙ packet_waits k (contents_in o clock cal meas (x.odt o)))
      (captured_in (o + 1) n (omega arith))

pub sampled_waits : (o : Bool) (first clock : ℕ) (cal meas : List ℕ) (x : DaqList) → runs o x ≡ true
    → waiting o first (sampled clock cal meas x) ≡ sample_from first x clock cal meas 0 x.odts
unfolding waiting
sampled_waits o first clock cal meas x run =
    let z : DaqList = sampled clock cal meas x in
    ap (λ (b : Bool). cond b (in_stores first z 0 x.odts) [])
    (runs_same z x o refl refl ∙ run) ∙ captured_in first clock cal meas x 0 x.odts (omega arith)

-- ---- a list that an event samples runs, and has nothing unsent
pub sampled_free : (c : Session) (l event : ℕ) → sampling_in c l event ≡ Sampled → (runs_in c l ≡ true) × (unsent (c.list l) ≡ false)
unfolding sampling_in
sampled_free c l event =
    let x : DaqList = c.list l in
    let P : Sampling → Type 0 = λ (y : Sampling). y ≡ Sampled → (runs_in c l ≡ true) × (unsent x ≡ false) in
    cond_ind P (eqb x.mode (event + 1))
    (λ _. cond_ind P (runs_in c l)
    (λ r. cond_ind P (unsent x) (λ _ f. absurd (false_true (ap is_sampled f))) (λ u _. (r, u)))
    (λ _ f. absurd (false_true (ap is_sampled f))))
    (λ _ f. absurd (false_true (ap is_sampled f)))

pub no_packet : (bs : List ℕ) → ltb 0 (length bs) ≡ false → bs ≡ []
no_packet bs e = let none : length bs ≤ 0 = ltb-false 0 (length bs) e in nil_from_length bs (omega arith)

none_stored : (x : DaqList) (n : ℕ) → some_packet x n ≡ false → Empty x 0 n
unfolding some_packet
none_stored x zero e i h = absurd (omega arith)
none_stored x (suc n) e i h =
    let none = neither (some_packet x n) (has_packet (x.odt n)) e in
    this_or_other i n
    (λ same. let m : 0 + i ≡ n = omega arith in subst (λ (o : ℕ). (x.odt o).store ≡ []) (sym m) (no_packet (x.odt n).store none.1))
    (λ other. none_stored x n none.0 i (omega arith))

pub sampled_empty : (c : Session) (l event : ℕ) → sampling_in c l event ≡ Sampled → waiting_in c l ≡ []
sampled_empty c l event e = none_waits c.opened (first_of c l) (c.list l) (none_stored (c.list l) (c.list l).odts (sampled_free c l event e).1)

-- so after an event what waited of a list waits, and the sample that it took
module _ (c : Session) (event clock : ℕ) (cal meas : List ℕ) where
  sampled_odts : (y : Sampling) (x : DaqList) → (sampled_as y clock cal meas x).odts ≡ x.odts
  unfolding sampled_as
  sampled_odts Idle x = refl
  sampled_odts Sampled x = refl
  sampled_odts Missed x = refl

  pub event_odts : (l : ℕ) → ((sampled_in c event clock cal meas).list l).odts ≡ (c.list l).odts
  event_odts l = sampled_odts (sampling_in c l event) (c.list l)

  pub event_waits : (l : ℕ) → waiting_in (sampled_in c event clock cal meas) l ≡ waiting_in c l ++ cond (is_sampled (sampling_in c l event)) (sample_in c l clock cal meas) []
  unfolding sampled_as
  event_waits l =
      ap (λ (n : ℕ). waiting c.opened n (sampled_as (sampling_in c l event) clock cal meas x)) (before_same (sampled_in c event clock cal meas).list c.list event_odts l)
      ∙ go (sampling_in c l event) refl where
        x : DaqList
        x = c.list l

        go : (y : Sampling) → sampling_in c l event ≡ y
            → waiting c.opened (first_of c l) (sampled_as y clock cal meas x) ≡ waiting_in c l ++ cond (is_sampled y) (sample_in c l clock cal meas) []
        go Idle e = sym (append-nil (waiting_in c l))
        go Sampled e = rw (sampled_empty c l event e) (sampled_waits c.opened (first_of c l) clock cal meas x (sampled_free c l event e).0)
        go Missed e = sym (append-nil (waiting_in c l))

-- ---- the pool: nothing waits of a list that there is not
unlisted_waits : (o : Bool) (first : ℕ) → waiting o first no_list ≡ []
unlisted_waits o first = rests o first no_list (unstarted_rests o no_list refl)

module _ (c : Session) (l : ℕ) where
  pub freed_waits : waiting_in (without_lists c) l ≡ []
  freed_waits = unlisted_waits c.opened (first_of (without_lists c) l)

  -- lists are allocated where there were none
  pub listed_waits : Listed c → (n : ℕ) → c.lists ≡ 0 → waiting_in (with_new_lists n c) l ≡ waiting_in c l
  listed_waits has n e =
      unlisted_waits c.opened (first_of (with_new_lists n c) l) ∙ sym (ap (waiting c.opened (first_of c l)) (has l (omega arith)) ∙ unlisted_waits c.opened (first_of c l))

  -- ODTs where no list was started
  pub odts_wait : Listed c → some_started c c.lists ≡ false → (j n : ℕ) → waiting_in (each_list (with_odts j n) c) l ≡ waiting_in c l
  odts_wait has e j n =
      let off : (c.list l).started ≡ false = all_unstarted c has e l in
      rests c.opened (first_of (each_list (with_odts j n) c) l) (with_odts j n l (c.list l)) (unstarted_rests c.opened (with_odts j n l (c.list l)) off)
      ∙ sym (rests c.opened (first_of c l) (c.list l) (unstarted_rests c.opened (c.list l) off))

-- entries, of a list that does not run and does not then
pub entries_wait : (c : Session) (l j o n : ℕ) → runs_in c j ≡ false → waiting_in (at j (alloc_entries o n) c) l ≡ waiting_in c l
entries_wait c l j o n r =
    let x : DaqList = alloc_entries o n (c.list j) in
    this_or_other l j
    (λ same. rw same (own_waits c j (alloc_entries o n) refl ∙ rests c.opened (first_of c j) x (runs_same x (c.list j) c.opened refl refl ∙ r) ∙ sym (rests c.opened (first_of c j) (c.list j) r)))
    (λ other. others_wait c j (alloc_entries o n) refl l other)
