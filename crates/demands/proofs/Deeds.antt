-- What a deed does to the packets that wait: those of a list that it stops or frees, or whose session it ends or renews, are gone; all others wait as they
-- did. While a list runs, every other deed leaves how many lists and ODTs there are. Assumes nothing.
use Rattle.std.proofs.Common.{◌≡◌, ◌≢◌, ℕ, Bool, true, false, cond, List, [], eqb, refl, sym, ap, ◌∙◌, arith, eqb-true}
use Rattle.std.proofs.lemmas.Bool.{false≢true, eqb-false}
use Rattle.line.proofs.Laws.{cond_ind}
use Rattle.model.specs.Model.{no_entry, DaqList, no_list, Session, first_of, runs, runs_in, waiting, waiting_in}
use Rattle.model.specs.Step.{at, each_list, stop_it, clear, set_mode, set_entry, switch, select, start_if_selected, stop_if_selected, alloc_entries, step_in}
use Rattle.model.specs.declared.Deed.{Deed}
use Rattle.model.specs.declared.Deed.TheVariants.{Refuse, RefuseSize, WrongKey, Connect, Disconnect, Status, Synch, NoSeed, GiveSeed, Unlock, SetMta, Upload, Checksum, Download, ClearList, SetPointer, ClearEntry, WriteEntry, SetMode, Stop, Start, KeepRunning, Select, StopAll, StartSelected, StopSelected, ProcessorInfo, ResolutionInfo, FreeLists, AllocLists, AllocOdts, AllocEntries}
use Rattle.model.proofs.Fits.{runs_same}
use Rattle.views.proofs.Parts.{this_or_other}
use Rattle.views.proofs.Listed.{Listed, before_same, unstarted_rests, all_unstarted, runs_listed}
use Rattle.views.proofs.Waits.{waits_alike, rests, none_waits, odts_kept, others_wait, own_waits, freed_waits, listed_waits, odts_wait, entries_wait}
use Rattle.demands.specs.Heard.{stops}
use Rattle.demands.proofs.Judged.{Found}

-- ---- of one list, whose first ODT has a number: nothing waits if it was not started, or was just switched; its selection is no matter
module _ (o : Bool) (first : ℕ) (x : DaqList) where
  unstarted : x.started ≡ false → waiting o first x ≡ []
  unstarted e = rests o first x (unstarted_rests o x e)

  switched : (on : Bool) → waiting o first (switch on x) ≡ []
  switched on = none_waits o first (switch on x) (λ i h. refl)

  selected : (on : Bool) → waiting o first (select on x) ≡ waiting o first x
  selected on = waits_alike first (select on x) x o o (runs_same (select on x) x o refl refl) refl (λ i h. refl)

-- what is deselected after a change waits as after the change alone
deselected : (o : Bool) (first : ℕ) (x : DaqList) (w : List (List ℕ)) → waiting o first x ≡ w → waiting o first (select false x) ≡ w
deselected o first x w e = selected o first x false ∙ e

module _ (o : Bool) (first : ℕ) (x : DaqList) where
  -- of one that is started unless it runs, what waited waits
  started : waiting o first (start_if_selected o x) ≡ waiting o first x
  started =
      let P : DaqList → Type 0 = λ (y : DaqList). waiting o first y ≡ waiting o first x in
      deselected o first (cond x.selected (cond (runs o x) x (switch true x)) x) (waiting o first x)
      (cond_ind P x.selected (λ _. cond_ind P (runs o x) (λ _. refl) (λ r. switched o first x true ∙ sym (rests o first x r))) (λ _. refl))

  stopped : x.selected ≡ false → waiting o first (stop_if_selected x) ≡ waiting o first x
  stopped e =
      deselected o first (cond x.selected (switch false x) x) (waiting o first x)
      (cond_ind (λ (y : DaqList). waiting o first y ≡ waiting o first x) x.selected (λ t. cc) (λ _. refl))

  dropped : x.selected ≡ true → waiting o first (stop_if_selected x) ≡ []
  dropped e =
      deselected o first (cond x.selected (switch false x) x) []
      (cond_ind (λ (y : DaqList). waiting o first y ≡ []) x.selected (λ _. switched o first x false) (λ f. cc))

-- neither changes how many ODTs there are
started_odts : (o : Bool) (x : DaqList) → (start_if_selected o x).odts ≡ x.odts
started_odts o x =
    let P : DaqList → Type 0 = λ (y : DaqList). y.odts ≡ x.odts in
    cond_ind P x.selected (λ _. cond_ind P (runs o x) (λ _. refl) (λ _. refl)) (λ _. refl)

stopped_odts : (x : DaqList) → (stop_if_selected x).odts ≡ x.odts
stopped_odts x = cond_ind (λ (y : DaqList). y.odts ≡ x.odts) x.selected (λ _. refl) (λ _. refl)

-- ---- of list j changed, which keeps its ODTs, and of every other
module _ (c : Session) (j l : ℕ) (f : DaqList → DaqList) (many : (f (c.list j)).odts ≡ (c.list j).odts) where
  changed : (w : List (List ℕ)) → (l ≡ j → waiting c.opened (first_of c j) (f (c.list j)) ≡ w) → (l ≢ j → waiting_in c l ≡ w) → waiting_in (at j f c) l ≡ w
  changed w here there =
      this_or_other l j (λ e. ap (waiting_in (at j f c)) e ∙ own_waits c j f many ∙ here e) (λ n. others_wait c j f many l n ∙ there n)

  -- so that what waits of it stays
  kept : waiting c.opened (first_of c j) (f (c.list j)) ≡ waiting_in c j → waiting_in (at j f c) l ≡ waiting_in c l
  kept e = changed (waiting_in c l) (λ same. e ∙ ap (waiting_in c) (sym same)) (λ _. refl)

  -- as when it does not run and is not started then
  resting : runs_in c j ≡ false → (f (c.list j)).started ≡ false → waiting_in (at j f c) l ≡ waiting_in c l
  resting r e = kept (unstarted c.opened (first_of c j) (f (c.list j)) e ∙ sym (rests c.opened (first_of c j) (c.list j) r))

  other : eqb l j ≡ false → waiting_in (at j f c) l ≡ waiting_in c l
  other e = changed (waiting_in c l) (λ same. absurd (eqb-false l j e same)) (λ _. refl)

  own : eqb l j ≡ true → waiting c.opened (first_of c j) (f (c.list j)) ≡ [] → waiting_in (at j f c) l ≡ []
  own e gone = changed [] (λ _. gone) (λ not. absurd (not (eqb-true l j e)))

-- of every list changed, each of which keeps its ODTs
each_waits : (c : Session) (f : DaqList → DaqList) (l : ℕ) → ((x : DaqList) → (f x).odts ≡ x.odts) → waiting_in (each_list (λ i. f) c) l ≡ waiting c.opened (first_of c l) (f (c.list l))
each_waits c f l many =
    ap (λ (n : ℕ). waiting c.opened n (f (c.list l))) (before_same (λ i. f (c.list i)) c.list (λ i. many (c.list i)) l)

-- ---- a deed that does not stop list l
pub step_waiting : (d : Deed) (p : List ℕ) (c : Session) (l : ℕ) → Listed c → Found d p c → stops l d c ≡ false → waiting_in (step_in d c) l ≡ waiting_in c l
unfolding step_in
step_waiting (Refuse r) p c l has found e = refl
step_waiting RefuseSize p c l has found e = refl
step_waiting WrongKey p c l has found e = cc
step_waiting Connect p c l has found e = cc
step_waiting Disconnect p c l has found e = cc
step_waiting Status p c l has found e = refl
step_waiting Synch p c l has found e = refl
step_waiting NoSeed p c l has found e = refl
step_waiting (GiveSeed r) p c l has found e = refl
step_waiting (Unlock r) p c l has found e = refl
step_waiting (SetMta x a) p c l has found e = refl
step_waiting (Upload x a m) p c l has found e = refl
step_waiting (Checksum x a m) p c l has found e = refl
step_waiting (Download from a m) p c l has found e = refl
step_waiting (ClearList j) p c l has found e = resting c j l clear refl found refl
step_waiting (SetPointer j o i) p c l has found e = refl
step_waiting (ClearEntry j o i) p c l has found e = resting c j l (set_entry o i no_entry) refl found refl
step_waiting (WriteEntry j o i m x a) p c l has found e = resting c j l (set_entry o i (record { size = m; extension = x; address = a })) refl found.still refl
step_waiting (SetMode j event) p c l has found e = resting c j l (set_mode event) refl found refl
step_waiting (Stop j) p c l has found e = other c j l (switch false) refl e
step_waiting (Start j) p c l has found e = kept c j l (switch true) refl (switched c.opened (first_of c j) (c.list j) true ∙ sym (rests c.opened (first_of c j) (c.list j) found.still))
step_waiting (KeepRunning j) p c l has found e = refl
step_waiting (Select j) p c l has found e = kept c j l (select true) refl (selected c.opened (first_of c j) (c.list j) true)
step_waiting StopAll p c l has found e = cc
step_waiting StartSelected p c l has found e = each_waits c (start_if_selected c.opened) l (started_odts c.opened) ∙ started c.opened (first_of c l) (c.list l)
step_waiting StopSelected p c l has found e = each_waits c stop_if_selected l stopped_odts ∙ stopped c.opened (first_of c l) (c.list l) e
step_waiting ProcessorInfo p c l has found e = refl
step_waiting ResolutionInfo p c l has found e = refl
step_waiting FreeLists p c l has found e = cc
step_waiting (AllocLists n) p c l has found e = listed_waits c l has n found
step_waiting (AllocOdts j n) p c l has found e = odts_wait c l has found j n
step_waiting (AllocEntries j o n) p c l has found e = entries_wait c l j o n found.still

-- ---- a deed that does
pub step_stops : (d : Deed) (c : Session) (l : ℕ) → stops l d c ≡ true → waiting_in (step_in d c) l ≡ []
unfolding step_in
step_stops (Refuse r) c l e = cc
step_stops RefuseSize c l e = cc
step_stops WrongKey c l e = unstarted false (first_of (step_in WrongKey c) l) no_list refl
step_stops Connect c l e = unstarted true (first_of (step_in Connect c) l) no_list refl
step_stops Disconnect c l e = unstarted false (first_of (step_in Disconnect c) l) no_list refl
step_stops Status c l e = cc
step_stops Synch c l e = cc
step_stops NoSeed c l e = cc
step_stops (GiveSeed r) c l e = cc
step_stops (Unlock r) c l e = cc
step_stops (SetMta x a) c l e = cc
step_stops (Upload x a m) c l e = cc
step_stops (Checksum x a m) c l e = cc
step_stops (Download from a m) c l e = cc
step_stops (ClearList j) c l e = cc
step_stops (SetPointer j o i) c l e = cc
step_stops (ClearEntry j o i) c l e = cc
step_stops (WriteEntry j o i m x a) c l e = cc
step_stops (SetMode j event) c l e = cc
step_stops (Stop j) c l e = own c j l (switch false) refl e (switched c.opened (first_of c j) (c.list j) false)
step_stops (Start j) c l e = cc
step_stops (KeepRunning j) c l e = cc
step_stops (Select j) c l e = cc
step_stops StopAll c l e = unstarted c.opened (first_of (step_in StopAll c) l) (stop_it (c.list l)) refl
step_stops StartSelected c l e = cc
step_stops StopSelected c l e = each_waits c stop_if_selected l stopped_odts ∙ dropped c.opened (first_of c l) (c.list l) e
step_stops ProcessorInfo c l e = cc
step_stops ResolutionInfo c l e = cc
step_stops FreeLists c l e = freed_waits c l
step_stops (AllocLists n) c l e = cc
step_stops (AllocOdts j n) c l e = cc
step_stops (AllocEntries j o n) c l e = cc

-- ---- d has as many lists as c, and each as many ODTs: every packet has the number that it has in c
pub record SameNumbers (c d : Session) : Type 0 where
  pub lists : d.lists ≡ c.lists
  pub odts : (l : ℕ) → (d.list l).odts ≡ (c.list l).odts

-- and the round begins as in c
abbrev pub SameLists : Session → Session → Type 0
SameLists c d = SameNumbers c d × (d.round ≡ c.round)

pub lists_stay : {c : Session} → SameLists c c
lists_stay = (record { lists = refl; odts = λ l. refl }, refl)

lists_at_lem : (c : Session) (j : ℕ) (f : DaqList → DaqList) → (f (c.list j)).odts ≡ (c.list j).odts → SameLists c (at j f c)
lists_at_lem c j f many = (record { lists = refl; odts = odts_kept c j f many }, refl)

-- where a list runs, lists are there, and one was started
pub step_lists : (d : Deed) (p : List ℕ) (c : Session) (l : ℕ) → Listed c → Found d p c → stops l d c ≡ false → runs_in c l ≡ true → SameLists c (step_in d c)
unfolding step_in
step_lists (Refuse r) p c l has found e run = lists_stay
step_lists RefuseSize p c l has found e run = lists_stay
step_lists WrongKey p c l has found e run = cc
step_lists Connect p c l has found e run = cc
step_lists Disconnect p c l has found e run = cc
step_lists Status p c l has found e run = lists_stay
step_lists Synch p c l has found e run = lists_stay
step_lists NoSeed p c l has found e run = lists_stay
step_lists (GiveSeed r) p c l has found e run = (record { lists = refl; odts = λ i. refl }, refl)
step_lists (Unlock r) p c l has found e run = (record { lists = refl; odts = λ i. refl }, refl)
step_lists (SetMta x a) p c l has found e run = (record { lists = refl; odts = λ i. refl }, refl)
step_lists (Upload x a m) p c l has found e run = (record { lists = refl; odts = λ i. refl }, refl)
step_lists (Checksum x a m) p c l has found e run = (record { lists = refl; odts = λ i. refl }, refl)
step_lists (Download from a m) p c l has found e run = (record { lists = refl; odts = λ i. refl }, refl)
step_lists (ClearList j) p c l has found e run = lists_at_lem c j clear refl
step_lists (SetPointer j o i) p c l has found e run = (record { lists = refl; odts = λ i. refl }, refl)
step_lists (ClearEntry j o i) p c l has found e run = (record { lists = refl; odts = odts_kept c j (set_entry o i no_entry) refl }, refl)
step_lists (WriteEntry j o i m x a) p c l has found e run = (record { lists = refl; odts = odts_kept c j (set_entry o i (record { size = m; extension = x; address = a })) refl }, refl)
step_lists (SetMode j event) p c l has found e run = lists_at_lem c j (set_mode event) refl
step_lists (Stop j) p c l has found e run = lists_at_lem c j (switch false) refl
step_lists (Start j) p c l has found e run = lists_at_lem c j (switch true) refl
step_lists (KeepRunning j) p c l has found e run = lists_stay
step_lists (Select j) p c l has found e run = lists_at_lem c j (select true) refl
step_lists StopAll p c l has found e run = cc
step_lists StartSelected p c l has found e run = (record { lists = refl; odts = λ i. started_odts c.opened (c.list i) }, refl)
step_lists StopSelected p c l has found e run = (record { lists = refl; odts = λ i. stopped_odts (c.list i) }, refl)
step_lists ProcessorInfo p c l has found e run = lists_stay
step_lists ResolutionInfo p c l has found e run = lists_stay
step_lists FreeLists p c l has found e run = cc
step_lists (AllocLists n) p c l has found e run = absurd (omega (arith, found, runs_listed c has l run))
step_lists (AllocOdts j n) p c l has found e run = absurd (false≢true (sym (unstarted_rests c.opened (c.list l) (all_unstarted c has found l)) ∙ run))
step_lists (AllocEntries j o n) p c l has found e run = lists_at_lem c j (alloc_entries o n) refl
