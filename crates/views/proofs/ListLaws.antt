-- E3 to DD, D6 to D3: what a command that is answered FF makes of the lists and the pointer. Assumes nothing.
use Rattle.std.proofs.Common.{◌≡◌, ℕ, suc, ◌+◌, ◌<◌, Bool, true, false, cond, eqb, ltb, leb, ◌≢◌, List, [], ◌∷◌, length, sym, refl, ap, ◌∙◌, subst, ap₂, arith, ltb-false, eq-eqb, ne_eqb, eqb-true, leb-false}
use Rattle.std.proofs.Math.Path.{fun_ext}
use Rattle.std.proofs.lemmas.Bool.{eqb-false}
use Rattle.line.proofs.Laws.{cond_ind}
use Rattle.line.proofs.Stuffed.{false_true}
use Rattle.state.specs.Layout.{lists, all_odts, all_entries, events, entry_most}
use Rattle.state.specs.Bytes.{u16_at, u32_at}
use Rattle.state.specs.Memory.{pick, inside_of}
use Rattle.words.specs.Command.{command_of}
use Rattle.words.specs.declared.Command.TheVariants as command
use Rattle.words.specs.declared.Extension.{Extension}
use Rattle.words.specs.declared.Pointer.{Pointer}
use Rattle.words.specs.declared.Pointer.TheVariants.{Unset as NoEntry, At as Points}
use Rattle.words.specs.declared.Reason.TheVariants.{Sequence, OutOfRange, ListRuns, NotInside, CannotStart, PoolFull}
use Rattle.model.specs.Judge.{extension_from, clear_deed, pointer_deed, write_block, write_deed, mode_deed, start_deed, start_stop_deed, synch_deed, alloc_lists_deed, alloc_odts_deed, alloc_entries_deed, judge_the, pointed_in, startable, all_startable, judge_in}
use Rattle.model.specs.declared.Deed.{Deed}
use Rattle.model.specs.declared.Deed.TheVariants.{ClearEntry, WriteEntry, Stop, Start, KeepRunning, Select, StopAll, StartSelected, StopSelected}
use Rattle.model.specs.Step.{next_entry, entries_there, with_pointer, with_lists, with_entry, set_entry, clear, set_mode, switch, select, stop_it, start_if_selected, stop_if_selected, with_odts, with_entries, alloc_entries, with_new_lists, step_in}
use Rattle.model.specs.Answers.{written, reply_in, done_by, writes}
use Rattle.model.specs.Model.{byte, put, Entry, no_entry, Odt, DaqList, Session, odts_taken, entries_taken, fits, runs, runs_in, some_started}
use Rattle.model.proofs.Bounded.{either}
use Rattle.model.proofs.Fits.{fits_same, runs_same, fit_runs}
use Rattle.lists.proofs.Counting.{all_stays}
use Rattle.views.specs.Commands.{two, four, extension_number, TheGenerator, TheWrongKeys, WhetherOpen, TheLocks, TheSeed, TheMta, ThePointer, WhetherFreed, HowManyLists, TheRound, TheLists, AllBut, AllButBoth, CLEAR_DAQ_LIST, SET_DAQ_PTR, WRITE_DAQ, SET_DAQ_LIST_MODE, Switched, Unswitched, START_STOP_DAQ_LIST, START_STOP_SYNCH, FREE_DAQ, ALLOC_DAQ, ALLOC_ODT, ALLOC_ODT_ENTRY}
use Rattle.views.proofs.Parts.{put_by, put_here, put_there}
use Rattle.views.proofs.Verdict.{no_more, at_least}
use Rattle.views.proofs.Listed.{Listed, odts_listed, not_started}
use Rattle.views.proofs.Taken.{four_is, named_by, fe_ff, Taken, unless, provided, branch, judged, Leads}

-- ---- what is left
but_pointer : (c : Session) (x : Pointer) → AllBut ThePointer c (with_pointer c x)
but_pointer c x TheGenerator n = refl
but_pointer c x TheWrongKeys n = refl
but_pointer c x WhetherOpen n = refl
but_pointer c x TheLocks n = λ r. refl
but_pointer c x TheSeed n = refl
but_pointer c x TheMta n = refl
but_pointer c x ThePointer n = absurd (n refl)
but_pointer c x WhetherFreed n = refl
but_pointer c x HowManyLists n = refl
but_pointer c x TheRound n = refl
but_pointer c x TheLists n = λ l. refl

but_lists : (c : Session) (f : ℕ → DaqList) → AllBut TheLists c (with_lists c f)
but_lists c f TheGenerator n = refl
but_lists c f TheWrongKeys n = refl
but_lists c f WhetherOpen n = refl
but_lists c f TheLocks n = λ r. refl
but_lists c f TheSeed n = refl
but_lists c f TheMta n = refl
but_lists c f ThePointer n = refl
but_lists c f WhetherFreed n = refl
but_lists c f HowManyLists n = refl
but_lists c f TheRound n = refl
but_lists c f TheLists n = absurd (n refl)

but_both : (c : Session) (f : ℕ → DaqList) (x : Pointer) → AllButBoth ThePointer TheLists c (with_pointer (with_lists c f) x)
but_both c f x TheGenerator n m = refl
but_both c f x TheWrongKeys n m = refl
but_both c f x WhetherOpen n m = refl
but_both c f x TheLocks n m = λ r. refl
but_both c f x TheSeed n m = refl
but_both c f x TheMta n m = refl
but_both c f x ThePointer n m = absurd (n refl)
but_both c f x WhetherFreed n m = refl
but_both c f x HowManyLists n m = refl
but_both c f x TheRound n m = refl
but_both c f x TheLists n m = absurd (m refl)

-- ---- E1 WRITE_DAQ
module _ (l o e : ℕ) (x : Entry) (d : ℕ → DaqList) where
  abbrev entered : ℕ → DaqList
  entered = put l (set_entry o e x (d l)) d

  entry_here : ((entered l).odt o).entry e ≡ x
  unfolding put
  entry_here = rw (eq-eqb l l refl, eq-eqb o o refl, eq-eqb e e refl)

  entry_there : (m n i : ℕ) → (m ≡ l → n ≡ o → i ≢ e) → ((entered m).odt n).entry i ≡ ((d m).odt n).entry i
  entry_there m n i other =
      put_by (λ (y : DaqList). (y.odt n).entry i ≡ ((d m).odt n).entry i) l (set_entry o e x (d l)) d m
      (λ a. put_by (λ (y : Odt). y.entry i ≡ ((d m).odt n).entry i) o (with_entry e x ((d l).odt o)) (d l).odt n
      (λ b. put_by (λ (y : Entry). y ≡ ((d m).odt n).entry i) e x ((d l).odt o).entry i
      (λ z. absurd (other a b z)) (λ _. ap₂ (λ (m n : ℕ). ((d m).odt n).entry i) (sym a) (sym b))) (λ _. ap (λ (m : ℕ). ((d m).odt n).entry i) (sym a))) (λ _. refl)

  entry_mode : (m : ℕ) → (entered m).mode ≡ (d m).mode
  entry_mode m = put_by (λ (y : DaqList). y.mode ≡ (d m).mode) l (set_entry o e x (d l)) d m (λ a. ap (λ (j : ℕ). (d j).mode) (sym a)) (λ _. refl)

  entry_selected : (m : ℕ) → (entered m).selected ≡ (d m).selected
  entry_selected m = put_by (λ (y : DaqList). y.selected ≡ (d m).selected) l (set_entry o e x (d l)) d m (λ a. ap (λ (j : ℕ). (d j).selected) (sym a)) (λ _. refl)

  entry_stopped : (entered l).started ≡ false
  unfolding put
  entry_stopped = rw (eq-eqb l l refl)

  entry_started : (m : ℕ) → m ≢ l → (entered m).started ≡ (d m).started
  entry_started m n = put_by (λ (y : DaqList). y.started ≡ (d m).started) l (set_entry o e x (d l)) d m (λ a. absurd (n a)) (λ _. refl)

  entry_odts : (m : ℕ) → (entered m).odts ≡ (d m).odts
  entry_odts m = put_by (λ (y : DaqList). y.odts ≡ (d m).odts) l (set_entry o e x (d l)) d m (λ a. ap (λ (j : ℕ). (d j).odts) (sym a)) (λ _. refl)

  -- what an ODT has beside its entries
  entry_beside : {A : Type 0} (f : Odt → A) → f (with_entry e x ((d l).odt o)) ≡ f ((d l).odt o) → (m n : ℕ) → f ((entered m).odt n) ≡ f ((d m).odt n)
  entry_beside f same m n =
      put_by (λ (y : DaqList). f (y.odt n) ≡ f ((d m).odt n)) l (set_entry o e x (d l)) d m
      (λ a. put_by (λ (y : Odt). f y ≡ f ((d m).odt n)) o (with_entry e x ((d l).odt o)) (d l).odt n
      (λ b. same ∙ ap₂ (λ (m n : ℕ). f ((d m).odt n)) (sym a) (sym b)) (λ _. ap (λ (m : ℕ). f ((d m).odt n)) (sym a))) (λ _. refl)

-- the pointer
next_is : (n l o e : ℕ) → e + 1 ≢ n → next_entry n l o e ≡ Points l o (e + 1)
unfolding next_entry
next_is n l o e not = rw (ne_eqb (e + 1) n not)

last_is : (n l o e : ℕ) → e + 1 ≡ n → next_entry n l o e ≡ NoEntry
unfolding next_entry
last_is n l o e is = rw (eq-eqb (e + 1) n is)

module _ (p : List ℕ) (c : Session) (cal meas : List ℕ) where
  -- an entry x that is written: what the packet says, or none
  wrote : (l o e : ℕ) (x : Entry) (d : Deed) → c.pointer ≡ Points l o e
      → step_in d c ≡ with_pointer (with_lists c (put l (set_entry o e x (c.list l)) c.list)) (next_entry (entries_there c l o) l o e)
      → written d p cal ≡ cal → reply_in d c cal meas ≡ 0xFF ∷ [] → (ext : Extension) → byte p 3 ≡ extension_number ext
      → (byte p 2 ≢ 0 → x ≡ record { size = byte p 2; extension = ext; address = four p 4 }) → (byte p 2 ≡ 0 → x ≡ no_entry)
      → WRITE_DAQ p c cal meas (done_by d p c cal meas)
  wrote l o e x d at step mem ans ext name some none =
      let n : ℕ = entries_there c l o in
      subst (λ (q : Session). WRITE_DAQ p c cal meas (record { session = q; memory = written d p cal; answer = reply_in d c cal meas })) (sym step)
      (record {
        list = l;
        odt = o;
        entry = e;
        pointed = at;
        extension = ext;
        named = name;
        here = λ n. entry_here l o e x c.list ∙ some n;
        zeroed = λ z. entry_here l o e x c.list ∙ none z;
        others = entry_there l o e x c.list;
        modes = entry_mode l o e x c.list;
        selected = entry_selected l o e x c.list;
        stopped = entry_stopped l o e x c.list;
        started = entry_started l o e x c.list;
        odts = entry_odts l o e x c.list;
        entry_counts = entry_beside l o e x c.list (λ (y : Odt). y.entries) refl;
        samples = entry_beside l o e x c.list (λ (y : Odt). y.store) refl;
        next = next_is n l o e;
        last = last_is n l o e;
        rest = but_both c (put l (set_entry o e x (c.list l)) c.list) (next_entry n l o e);
        memory = mem;
        answer = ans;
      })

  write_block_lem : (l o e len : ℕ) → c.pointer ≡ Points l o e → ltb 1 (byte p 3) ≡ false
      → Taken p c cal meas (write_block l o e (byte p 2) (extension_from (byte p 3)) (u32_at p 4) len) → Leads WRITE_DAQ p c cal meas (write_block l o e (byte p 2) (extension_from (byte p 3)) (u32_at p 4) len)
  unfolding write_block step_in writes reply_in
  write_block_lem l o e len at few =
      let ext : Extension = extension_from (byte p 3) in
      branch p c cal meas (Leads WRITE_DAQ p c cal meas) (eqb (byte p 2) 0)
      (λ z _. wrote l o e no_entry (ClearEntry l o e) at refl refl refl ext (named_by (byte p 3) few) (λ some. absurd (some (eqb-true (byte p 2) 0 z))) (λ _. refl))
      (λ z. provided p c cal meas (Leads WRITE_DAQ p c cal meas) (inside_of (u32_at p 4) (byte p 2) len) NotInside
      (λ _ _. wrote l o e (record { size = byte p 2; extension = ext; address = u32_at p 4 }) (WriteEntry l o e (byte p 2) ext (u32_at p 4)) at refl refl refl ext (named_by (byte p 3) few)
      (λ _. ap (λ (a : ℕ). record { size = byte p 2; extension = ext; address = a }) (four_is p 4)) (λ none. absurd (eqb-false (byte p 2) 0 z none))))

  write_at : (q : Pointer) (r : Bool) (nc nm : ℕ) → c.pointer ≡ q → Taken p c cal meas (write_deed q r (byte p 1) (byte p 2) (byte p 3) (u32_at p 4) nc nm)
      → Leads WRITE_DAQ p c cal meas (write_deed q r (byte p 1) (byte p 2) (byte p 3) (u32_at p 4) nc nm)
  unfolding write_deed reply_in
  write_at NoEntry r nc nm at = λ t. absurd (fe_ff t)
  write_at (Points l o e) r nc nm at =
      let P : Deed → Type 0 = Leads WRITE_DAQ p c cal meas in
      provided p c cal meas P (eqb (byte p 1) 0xFF) OutOfRange (λ _.
      unless p c cal meas P (ltb entry_most (byte p 2)) OutOfRange (λ _.
      unless p c cal meas P (ltb 1 (byte p 3)) OutOfRange (λ few.
      unless p c cal meas P r ListRuns (λ _.
      write_block_lem l o e (pick (extension_from (byte p 3)) nc nm) at few))))

  pub write_daq_lem : byte p 0 ≡ 0xE1 → Taken p c cal meas (judge_in p c (length cal) (length meas)) → Leads WRITE_DAQ p c cal meas (judge_in p c (length cal) (length meas))
  unfolding judge_the command_of
  write_daq_lem code =
      judged p c cal meas (Leads WRITE_DAQ p c cal meas) 0xE1 command.WriteDaq refl code (write_at c.pointer (pointed_in c.pointer c) (length cal) (length meas) refl)

  -- ---- E2 SET_DAQ_PTR
  pub set_daq_ptr_lem : byte p 0 ≡ 0xE2 → Taken p c cal meas (judge_in p c (length cal) (length meas)) → Leads SET_DAQ_PTR p c cal meas (judge_in p c (length cal) (length meas))
  unfolding judge_the command_of pointer_deed u16_at step_in writes reply_in
  set_daq_ptr_lem code =
      let P : Deed → Type 0 = Leads SET_DAQ_PTR p c cal meas in
      let l : ℕ = two p 2 in
      judged p c cal meas P 0xE2 command.SetDaqPtr refl code
      (unless p c cal meas P (leb c.lists l) OutOfRange (λ list.
      unless p c cal meas P (leb (c.list l).odts (byte p 4)) OutOfRange (λ odt.
      unless p c cal meas P (leb ((c.list l).odt (byte p 4)).entries (byte p 5)) OutOfRange (λ entry _.
      record {
        there = leb-false c.lists l list;
        in_list = leb-false (c.list l).odts (byte p 4) odt;
        in_odt = leb-false ((c.list l).odt (byte p 4)).entries (byte p 5) entry;
        pointer = refl;
        rest = but_pointer c (Points l (byte p 4) (byte p 5));
        memory = refl;
        answer = refl;
      }))))

  -- ---- E3 CLEAR_DAQ_LIST
  pub clear_daq_list_lem : byte p 0 ≡ 0xE3 → Taken p c cal meas (judge_in p c (length cal) (length meas)) → Leads CLEAR_DAQ_LIST p c cal meas (judge_in p c (length cal) (length meas))
  unfolding judge_the command_of clear_deed u16_at step_in writes reply_in
  clear_daq_list_lem code =
      let P : Deed → Type 0 = Leads CLEAR_DAQ_LIST p c cal meas in
      let l : ℕ = two p 2 in
      let x : DaqList = clear (c.list l) in
      let is : put l x c.list l ≡ x = put_here l x c.list in
      judged p c cal meas P 0xE3 command.ClearDaqList refl code
      (unless p c cal meas P (leb c.lists l) OutOfRange (λ list.
      unless p c cal meas P (runs_in c l) ListRuns (λ _ _.
      record {
        there = leb-false c.lists l list;
        entries = λ k e. ap (λ (y : DaqList). (y.odt k).entry e) is;
        mode = ap (λ (y : DaqList). y.mode) is;
        selected = ap (λ (y : DaqList). y.selected) is;
        stopped = ap (λ (y : DaqList). y.started) is;
        odts = ap (λ (y : DaqList). y.odts) is;
        entry_counts = λ k. ap (λ (y : DaqList). (y.odt k).entries) is;
        others = put_there l x c.list;
        rest = but_lists c (put l x c.list);
        memory = refl;
        answer = refl;
      })))

  -- ---- E0 SET_DAQ_LIST_MODE
  pub set_daq_list_mode_lem : byte p 0 ≡ 0xE0 → Taken p c cal meas (judge_in p c (length cal) (length meas)) → Leads SET_DAQ_LIST_MODE p c cal meas (judge_in p c (length cal) (length meas))
  unfolding judge_the command_of mode_deed u16_at step_in writes reply_in
  set_daq_list_mode_lem code =
      let P : Deed → Type 0 = Leads SET_DAQ_LIST_MODE p c cal meas in
      let l : ℕ = two p 2 in
      let x : DaqList = set_mode (two p 4) (c.list l) in
      let is : put l x c.list l ≡ x = put_here l x c.list in
      judged p c cal meas P 0xE0 command.SetDaqListMode refl code
      (provided p c cal meas P (eqb (byte p 1) 0x10) OutOfRange (λ _.
      unless p c cal meas P (leb c.lists l) OutOfRange (λ list.
      unless p c cal meas P (leb events (two p 4)) OutOfRange (λ _.
      provided p c cal meas P (eqb (byte p 6) 1) OutOfRange (λ _.
      provided p c cal meas P (eqb (byte p 7) 0) OutOfRange (λ _.
      unless p c cal meas P (runs_in c l) ListRuns (λ _ _.
      record {
        there = leb-false c.lists l list;
        mode = ap (λ (y : DaqList). y.mode) is;
        selected = ap (λ (y : DaqList). y.selected) is;
        stopped = ap (λ (y : DaqList). y.started) is;
        has = ap (λ (y : DaqList). y.odts) is;
        odts = λ k. ap (λ (y : DaqList). y.odt k) is;
        others = put_there l x c.list;
        rest = but_lists c (put l x c.list);
        memory = refl;
        answer = refl;
      })))))))

-- ---- whether a list then runs
runs_on : (x y : DaqList) (opened : Bool) → Switched true x y → opened ≡ true → fits x ≡ true → runs opened y ≡ true
runs_on x y opened w o f = fit_runs y opened o w.started (fits_same y x (λ k h. w.entry_counts k) (λ k h. fun_ext (w.entries k)) w.mode w.has ∙ f)

runs_still : (x y : DaqList) (opened : Bool) → Unswitched x y → runs opened x ≡ true → runs opened y ≡ true
runs_still x y opened w r =
    runs_same y x opened w.has w.started ∙ r

runs_off : (x y : DaqList) (opened : Bool) → Switched false x y → runs opened y ≡ false
unfolding runs
runs_off x y opened w =
    ap (λ (b : Bool). cond opened (cond b (ltb 0 y.odts) false) false) w.started ∙ cond_ind (λ (b : Bool). b ≡ false) opened (λ _. refl) (λ _. refl)

-- of lists that all run or can be started, each that is selected and does not run can
one_not : (c : Session) (l : ℕ) → startable c l ≡ false → all_startable c (suc l) ≡ false
unfolding all_startable
one_not c l e = rw e (cond_ind (λ (b : Bool). b ≡ false) (all_startable c l) (λ _. refl) (λ _. refl))

pub each_fits_lem : (c : Session) (l : ℕ) → all_startable c c.lists ≡ true → l < c.lists → (c.list l).selected ≡ true → runs_in c l ≡ false → fits (c.list l) ≡ true
each_fits_lem c l all there s r =
    either (fits (c.list l)) (λ f. f)
    (λ f. absurd (false_true (sym (all_stays c (suc l) c.lists (omega arith) (one_not c l (ap₂ (λ (a b : Bool). cond a b true) s (ap₂ (λ (a b : Bool). cond a true b) r f)))) ∙ all)))

-- ---- DE START_STOP_DAQ_LIST
switched : (on : Bool) (l : ℕ) (d : ℕ → DaqList) → Switched on (d l) (put l (switch on (d l)) d l)
switched on l d =
    subst (Switched on (d l)) (sym (put_here l (switch on (d l)) d)) (record { mode = refl; started = refl; has = refl; entry_counts = λ k. refl; entries = λ k e. refl; dropped = λ k. refl })

module _ (p : List ℕ) (c : Session) (cal meas : List ℕ) where
  abbrev list : ℕ
  list = two p 2

  abbrev Switches : Deed → Type 0
  Switches = Leads START_STOP_DAQ_LIST p c cal meas

  stops_list : list < c.lists → byte p 1 ≡ 0 → Switches (Stop list)
  unfolding step_in writes reply_in
  stops_list there' m =
      let is : put list (switch false (c.list list)) c.list list ≡ switch false (c.list list) = put_here list (switch false (c.list list)) c.list in
      record {
        there = there';
        stops = λ _. switched false list c.list;
        starts = λ e. absurd (omega arith);
        keeps = λ e. absurd (omega arith);
        switches = λ _. ap (λ (y : DaqList). y.selected) is;
        selects = λ e. absurd (omega arith);
        stays = λ e. absurd (omega arith);
        running = λ _ e. absurd (omega arith);
        resting = λ _. runs_off (c.list list) (put list (switch false (c.list list)) c.list list) c.opened (switched false list c.list);
        others = put_there list (switch false (c.list list)) c.list;
        rest = but_lists c (put list (switch false (c.list list)) c.list);
        memory = refl;
        answer = refl;
      }

  starts_list : list < c.lists → byte p 1 ≡ 1 → runs_in c list ≡ false → fits (c.list list) ≡ true → Switches (Start list)
  unfolding step_in writes reply_in
  starts_list there' m idle fit =
      let is : put list (switch true (c.list list)) c.list list ≡ switch true (c.list list) = put_here list (switch true (c.list list)) c.list in
      record {
        there = there';
        stops = λ e. absurd (omega arith);
        starts = λ _ _. switched true list c.list;
        keeps = λ _ r. absurd (false_true (sym idle ∙ r));
        switches = λ _. ap (λ (y : DaqList). y.selected) is;
        selects = λ e. absurd (omega arith);
        stays = λ e. absurd (omega arith);
        running = λ open' _. runs_on (c.list list) (put list (switch true (c.list list)) c.list list) c.opened (switched true list c.list) open' fit;
        resting = λ e. absurd (omega arith);
        others = put_there list (switch true (c.list list)) c.list;
        rest = but_lists c (put list (switch true (c.list list)) c.list);
        memory = refl;
        answer = refl;
      }

  keeps_list : list < c.lists → byte p 1 ≡ 1 → runs_in c list ≡ true → Switches (KeepRunning list)
  unfolding step_in writes reply_in
  keeps_list there' m runs' =
      record {
        there = there';
        stops = λ e. absurd (omega arith);
        starts = λ _ idle. absurd (false_true (sym idle ∙ runs'));
        keeps = λ _ _. refl;
        switches = λ _. refl;
        selects = λ e. absurd (omega arith);
        stays = λ e. absurd (omega arith);
        running = λ _ _. runs';
        resting = λ e. absurd (omega arith);
        others = λ l n. refl;
        rest = but_lists c c.list;
        memory = refl;
        answer = refl;
      }

  selects_list : list < c.lists → byte p 1 ≢ 0 → byte p 1 ≢ 1 → ltb 2 (byte p 1) ≡ false → Switches (Select list)
  unfolding step_in writes reply_in
  selects_list there' n m few =
      let is : put list (select true (c.list list)) c.list list ≡ select true (c.list list) = put_here list (select true (c.list list)) c.list in
      record {
        there = there';
        stops = λ e. absurd (n e);
        starts = λ e. absurd (m e);
        keeps = λ e. absurd (m e);
        switches = λ e. absurd (omega (arith, ltb-false 2 (byte p 1) few));
        selects = λ _. ap (λ (y : DaqList). y.selected) is;
        stays = λ _. subst (Unswitched (c.list list)) (sym is) (record { mode = refl; started = refl; has = refl; odts = λ k. refl });
        running = λ _ e. absurd (m e);
        resting = λ e. absurd (n e);
        others = put_there list (select true (c.list list)) c.list;
        rest = but_lists c (put list (select true (c.list list)) c.list);
        memory = refl;
        answer = refl;
      }

  pub start_stop_daq_list_lem : byte p 0 ≡ 0xDE → Taken p c cal meas (judge_in p c (length cal) (length meas)) → Switches (judge_in p c (length cal) (length meas))
  unfolding judge_the command_of start_stop_deed start_deed u16_at
  start_stop_daq_list_lem code =
      judged p c cal meas Switches 0xDE command.StartStopDaqList refl code
      (unless p c cal meas Switches (ltb 2 (byte p 1)) OutOfRange (λ few.
      unless p c cal meas Switches (leb c.lists list) OutOfRange (λ is.
      let there : list < c.lists = leb-false c.lists list is in
      branch p c cal meas Switches (eqb (byte p 1) 0) (λ m _. stops_list there (eqb-true (byte p 1) 0 m)) (λ n.
      branch p c cal meas Switches (eqb (byte p 1) 1)
      (λ m. branch p c cal meas Switches (runs_in c list) (λ r _. keeps_list there (eqb-true (byte p 1) 1 m) r) (λ idle.
      provided p c cal meas Switches (fits (c.list list)) CannotStart (λ fit _. starts_list there (eqb-true (byte p 1) 1 m) idle fit)))
      (λ m _. selects_list there (eqb-false (byte p 1) 0 n) (eqb-false (byte p 1) 1 m) few)))))

-- ---- DD START_STOP_SYNCH
module _ (x : DaqList) where
  abbrev started_if : Bool → Bool → DaqList
  started_if s r = select false (cond s (cond r x (switch true x)) x)

  abbrev stopped_if : Bool → DaqList
  stopped_if s = select false (cond s (switch false x) x)

  started_if_lem : (s r : Bool) → s ≡ true → r ≡ false → Switched true x (started_if s r)
  started_if_lem s r e f =
      subst (λ (b : Bool). Switched true x (started_if b r)) (sym e) (subst (λ (b : Bool). Switched true x (started_if true b)) (sym f) (record { mode = refl; started = refl; has = refl; entry_counts = λ k. refl; entries = λ k i. refl; dropped = λ k. refl }))

  kept_if : (s r : Bool) → s ≡ true → r ≡ true → Unswitched x (started_if s r)
  kept_if s r e f =
      subst (λ (b : Bool). Unswitched x (started_if b r)) (sym e) (subst (λ (b : Bool). Unswitched x (started_if true b)) (sym f) (record { mode = refl; started = refl; has = refl; odts = λ k. refl }))

  unstarted_if : (s r : Bool) → s ≡ false → Unswitched x (started_if s r)
  unstarted_if s r e = subst (λ (b : Bool). Unswitched x (started_if b r)) (sym e) (record { mode = refl; started = refl; has = refl; odts = λ k. refl })

  stopped_if_lem : (s : Bool) → s ≡ true → Switched false x (stopped_if s)
  stopped_if_lem s e = subst (λ (b : Bool). Switched false x (stopped_if b)) (sym e) (record { mode = refl; started = refl; has = refl; entry_counts = λ k. refl; entries = λ k i. refl; dropped = λ k. refl })

  unstopped_if : (s : Bool) → s ≡ false → Unswitched x (stopped_if s)
  unstopped_if s e = subst (λ (b : Bool). Unswitched x (stopped_if b)) (sym e) (record { mode = refl; started = refl; has = refl; odts = λ k. refl })

module _ (p : List ℕ) (c : Session) (cal meas : List ℕ) where
  abbrev Synchs : Deed → Type 0
  Synchs = Leads START_STOP_SYNCH p c cal meas

  all_stop : byte p 1 ≡ 0 → Synchs StopAll
  unfolding step_in writes reply_in
  all_stop m = record {
    stops_all = λ _ l. record { mode = refl; started = refl; has = refl; entry_counts = λ k. refl; entries = λ k e. refl; dropped = λ k. refl };
    starts = λ e. absurd (omega arith);
    keeps = λ e. absurd (omega arith);
    stops = λ e. absurd (omega arith);
    others = λ n. absurd (n m);
    running = λ _ e. absurd (omega arith);
    resting_all = λ _ l. runs_off (c.list l) (stop_it (c.list l)) c.opened (record { mode = refl; started = refl; has = refl; entry_counts = λ k. refl; entries = λ k e. refl; dropped = λ k. refl });
    resting = λ e. absurd (omega arith);
    deselected = λ l. refl;
    rest = but_lists c (λ l. stop_it (c.list l));
    memory = refl;
    answer = refl;
  }

  -- a list that was selected runs, whether it ran before or could be started and is started now
  started_runs : (l : ℕ) → c.opened ≡ true → (c.list l).selected ≡ true → (runs_in c l ≡ false → fits (c.list l) ≡ true) → runs c.opened (start_if_selected c.opened (c.list l)) ≡ true
  started_runs l open' s f =
      let x : DaqList = c.list l in
      either (runs_in c l)
      (λ r. runs_still x (start_if_selected c.opened x) c.opened (kept_if x x.selected (runs_in c l) s r) r)
      (λ r. runs_on x (start_if_selected c.opened x) c.opened (started_if_lem x x.selected (runs_in c l) s r) open' (f r))

  selected_start : byte p 1 ≡ 1 → all_startable c c.lists ≡ true → Synchs StartSelected
  unfolding step_in writes reply_in
  selected_start m all = record {
    stops_all = λ e. absurd (omega arith);
    starts = λ _ l s r. started_if_lem (c.list l) (c.list l).selected (runs_in c l) s r;
    keeps = λ _ l s r. kept_if (c.list l) (c.list l).selected (runs_in c l) s r;
    stops = λ e. absurd (omega arith);
    others = λ _ l s. unstarted_if (c.list l) (c.list l).selected (runs_in c l) s;
    running = λ open' _ l there s. started_runs l open' s (each_fits_lem c l all there s);
    resting_all = λ e. absurd (omega arith);
    resting = λ e. absurd (omega arith);
    deselected = λ l. refl;
    rest = but_lists c (λ l. start_if_selected c.opened (c.list l));
    memory = refl;
    answer = refl;
  }

  selected_stop : byte p 1 ≢ 0 → byte p 1 ≢ 1 → Synchs StopSelected
  unfolding step_in writes reply_in
  selected_stop n m = record {
    stops_all = λ e. absurd (n e);
    starts = λ e. absurd (m e);
    keeps = λ e. absurd (m e);
    stops = λ _ l s. stopped_if_lem (c.list l) (c.list l).selected s;
    others = λ _ l s. unstopped_if (c.list l) (c.list l).selected s;
    running = λ _ e. absurd (m e);
    resting_all = λ e. absurd (n e);
    resting = λ _ l s. runs_off (c.list l) (stop_if_selected (c.list l)) c.opened (stopped_if_lem (c.list l) (c.list l).selected s);
    deselected = λ l. refl;
    rest = but_lists c (λ l. stop_if_selected (c.list l));
    memory = refl;
    answer = refl;
  }

  pub start_stop_synch_lem : byte p 0 ≡ 0xDD → Taken p c cal meas (judge_in p c (length cal) (length meas)) → Synchs (judge_in p c (length cal) (length meas))
  unfolding judge_the command_of synch_deed
  start_stop_synch_lem code =
      judged p c cal meas Synchs 0xDD command.StartStopSynch refl code
      (unless p c cal meas Synchs (ltb 2 (byte p 1)) OutOfRange (λ _.
      branch p c cal meas Synchs (eqb (byte p 1) 0) (λ m _. all_stop (eqb-true (byte p 1) 0 m)) (λ n.
      branch p c cal meas Synchs (eqb (byte p 1) 1)
      (λ m. provided p c cal meas Synchs (all_startable c c.lists) CannotStart (λ all _. selected_start (eqb-true (byte p 1) 1 m) all))
      (λ m _. selected_stop (eqb-false (byte p 1) 0 n) (eqb-false (byte p 1) 1 m)))))

-- ---- D6 FREE_DAQ to D3 ALLOC_ODT_ENTRY
but_new : (c : Session) (n : ℕ) → AllButBoth HowManyLists TheLists c (with_new_lists n c)
but_new c n TheGenerator a b = refl
but_new c n TheWrongKeys a b = refl
but_new c n WhetherOpen a b = refl
but_new c n TheLocks a b = λ r. refl
but_new c n TheSeed a b = refl
but_new c n TheMta a b = refl
but_new c n ThePointer a b = refl
but_new c n WhetherFreed a b = refl
but_new c n HowManyLists a b = absurd (a refl)
but_new c n TheRound a b = refl
but_new c n TheLists a b = absurd (b refl)

module _ (p : List ℕ) (c : Session) (cal meas : List ℕ) where
  pub free_daq_lem : byte p 0 ≡ 0xD6 → Taken p c cal meas (judge_in p c (length cal) (length meas)) → Leads FREE_DAQ p c cal meas (judge_in p c (length cal) (length meas))
  unfolding judge_the command_of step_in writes reply_in
  free_daq_lem code =
      judged p c cal meas (Leads FREE_DAQ p c cal meas) 0xD6 command.FreeDaq refl code
      (λ _. record {
        freed = refl;
        none = refl;
        nothing = λ l. refl;
        pointer = refl;
        round = refl;
        generator = refl;
        wrong_keys = refl;
        opened = refl;
        locks = λ r. refl;
        seed = refl;
        mta = refl;
        memory = refl;
        answer = refl;
      })

  pub alloc_daq_lem : byte p 0 ≡ 0xD5 → Taken p c cal meas (judge_in p c (length cal) (length meas)) → Leads ALLOC_DAQ p c cal meas (judge_in p c (length cal) (length meas))
  unfolding judge_the command_of alloc_lists_deed u16_at step_in writes reply_in
  alloc_daq_lem code =
      let P : Deed → Type 0 = Leads ALLOC_DAQ p c cal meas in
      let n : ℕ = two p 2 in
      judged p c cal meas P 0xD5 command.AllocDaq refl code
      (provided p c cal meas P c.freed Sequence (λ freed.
      unless p c cal meas P (ltb 0 c.lists) Sequence (λ none.
      unless p c cal meas P (eqb n 0) OutOfRange (λ some.
      unless p c cal meas P (ltb lists n) PoolFull (λ few _.
      record {
        freed = freed;
        none = no_more c.lists none;
        some = at_least n (eqb-false n 0 some);
        most = ltb-false lists n few;
        count = refl;
        nothing = λ l. refl;
        rest = but_new c n;
        memory = refl;
        answer = refl;
      })))))

  pub alloc_odt_lem : byte p 0 ≡ 0xD4 → Taken p c cal meas (judge_in p c (length cal) (length meas)) → Leads ALLOC_ODT p c cal meas (judge_in p c (length cal) (length meas))
  unfolding judge_the command_of alloc_odts_deed u16_at step_in writes reply_in
  alloc_odt_lem code =
      let P : Deed → Type 0 = Leads ALLOC_ODT p c cal meas in
      let l : ℕ = two p 2 in
      let n : ℕ = byte p 4 in
      judged p c cal meas P 0xD4 command.AllocOdt refl code
      (unless p c cal meas P (eqb c.lists 0) Sequence (λ _.
      unless p c cal meas P (ltb 0 (entries_taken c)) Sequence (λ unused.
      unless p c cal meas P (ltb 0 (c.list l).odts) Sequence (λ none.
      unless p c cal meas P (some_started c c.lists) Sequence (λ still.
      unless p c cal meas P (leb c.lists l) OutOfRange (λ list.
      unless p c cal meas P (eqb n 0) OutOfRange (λ some.
      unless p c cal meas P (ltb all_odts (odts_taken c + n)) PoolFull (λ room _.
      record {
        there = leb-false c.lists l list;
        none = no_more (c.list l).odts none;
        no_entries = no_more (entries_taken c) unused;
        still = not_started c c.lists still;
        some = at_least n (eqb-false n 0 some);
        most = ltb-false all_odts (odts_taken c + n) room;
        count = ap (λ (b : Bool). cond b n (c.list l).odts) (eq-eqb l l refl);
        others = λ i other. ap (λ (b : Bool). cond b n (c.list i).odts) (ne_eqb i l other);
        nothing = λ i k. refl;
        modes = λ i. refl;
        selected = λ i. refl;
        started = λ i. refl;
        rest = but_lists c (λ i. with_odts l n i (c.list i));
        memory = refl;
        answer = refl;
      }))))))))

  pub alloc_odt_entry_lem : Listed c → byte p 0 ≡ 0xD3 → Taken p c cal meas (judge_in p c (length cal) (length meas)) → Leads ALLOC_ODT_ENTRY p c cal meas (judge_in p c (length cal) (length meas))
  unfolding judge_the command_of alloc_entries_deed u16_at step_in writes reply_in
  alloc_odt_entry_lem has code =
      let P : Deed → Type 0 = Leads ALLOC_ODT_ENTRY p c cal meas in
      let l : ℕ = two p 2 in
      let o : ℕ = byte p 4 in
      let n : ℕ = byte p 5 in
      let x : DaqList = alloc_entries o n (c.list l) in
      let is : put l x c.list l ≡ x = put_here l x c.list in
      let here : (put l x c.list l).odt o ≡ with_entries n ((c.list l).odt o) = ap (λ (y : DaqList). y.odt o) is ∙ put_here o (with_entries n ((c.list l).odt o)) (c.list l).odt in
      judged p c cal meas P 0xD3 command.AllocOdtEntry refl code
      (unless p c cal meas P (eqb (odts_taken c) 0) Sequence (λ _.
      unless p c cal meas P (ltb 0 ((c.list l).odt o).entries) Sequence (λ none.
      unless p c cal meas P (leb (c.list l).odts o) OutOfRange (λ odt.
      unless p c cal meas P (eqb n 0) OutOfRange (λ some.
      unless p c cal meas P (runs_in c l) ListRuns (λ still.
      unless p c cal meas P (ltb all_entries (entries_taken c + n)) PoolFull (λ room _.
      record {
        there = odts_listed c has l o (leb-false (c.list l).odts o odt);
        in_list = leb-false (c.list l).odts o odt;
        none = no_more ((c.list l).odt o).entries none;
        still = still;
        some = at_least n (eqb-false n 0 some);
        most = ltb-false all_entries (entries_taken c + n) room;
        count = ap (λ (y : Odt). y.entries) here;
        empty = λ e. ap (λ (y : Odt). y.entry e) here;
        sample = ap (λ (y : Odt). y.store) here;
        other_odts = λ k other. ap (λ (y : DaqList). y.odt k) is ∙ put_there o (with_entries n ((c.list l).odt o)) (c.list l).odt k other;
        mode = ap (λ (y : DaqList). y.mode) is;
        selected = ap (λ (y : DaqList). y.selected) is;
        started = ap (λ (y : DaqList). y.started) is;
        odts = ap (λ (y : DaqList). y.odts) is;
        others = put_there l x c.list;
        rest = but_lists c (put l x c.list);
        memory = refl;
        answer = refl;
      })))))))
