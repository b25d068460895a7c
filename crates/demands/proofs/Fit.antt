-- Every list that was started fits, in every state that a life from power-up leads to. Assumes nothing.
use Rattle.std.proofs.Common.{◌≡◌, ◌≢◌, ℕ, zero, suc, ◌≤◌, ◌<◌, Bool, true, false, cond, List, [], ◌∷◌, length, eqb, ltb, leb, refl, sym, ap, ap₂, ◌∙◌, subst, arith, eqb-true, ne_eqb, leb-true, lt-ltb, ltb-true, ltb-false, lit≤, lit<, Option}
use Rattle.std.proofs.Math.Path.{fun_ext}
use Rattle.std.proofs.lemmas.Bool.{false≢true, eqb-false}
use Rattle.line.proofs.Laws.{cond_ind}
use Rattle.state.specs.Layout.{size, odt_most, phase_at}
use Rattle.state.specs.Pool.{phase_of, list_count}
use Rattle.state.specs.State.{consistent}
use Rattle.state.proofs.Consistent.{consistent_size}
use Rattle.session.specs.PowerUp.{powered}
use Rattle.session.specs.Receive.{Step, receive_of}
use Rattle.judge.specs.Doable.{Doable}
use Rattle.model.specs.declared.Deed.{Deed}
use Rattle.model.specs.declared.Deed.TheVariants.{Refuse, RefuseSize, WrongKey, Connect, Disconnect, Status, Synch, NoSeed, GiveSeed, Unlock, SetMta, Upload, Checksum, Download, ClearList, SetPointer, ClearEntry, WriteEntry, SetMode, Stop, Start, KeepRunning, Select, StopAll, StartSelected, StopSelected, ProcessorInfo, ResolutionInfo, FreeLists, AllocLists, AllocOdts, AllocEntries}
use Rattle.model.specs.Model.{no_entry, Odt, DaqList, no_list, Session, sizes_of, bytes_in, all_bytes, each_fits, fits, runs, runs_in}
use Rattle.model.specs.Step.{at, clear, set_mode, set_entry, switch, select, start_if_selected, stop_if_selected, with_odts, alloc_entries, step_in}
use Rattle.model.specs.View.{session_of}
use Rattle.model.proofs.Bounded.{either}
use Rattle.model.proofs.Fits.{fits_same, fits_has}
use Rattle.model.proofs.Shown.{no_list_lem}
use Rattle.lists.proofs.Counting.{fit_stays}
use Rattle.fields.proofs.Kept.{power_consistent}
use Rattle.views.specs.Locked.{SettingsKept}
use Rattle.views.proofs.Parts.{put_by}
use Rattle.views.proofs.Listed.{Listed, listed, all_unstarted}
use Rattle.views.proofs.Calls.{powered_nought}
use Rattle.views.proofs.ListLaws.{each_fits_lem}
use Rattle.views.proofs.SampleLaws.{sizes_are}
use Rattle.demands.specs.Slave.{ours}
use Rattle.demands.specs.Life.{Device, Moment, PowerOn, Hears, OnEvent, Serves, after_moment, lived}
use Rattle.demands.specs.Fit.{SomeByte, Fit, AllFit}
use Rattle.demands.proofs.Judged.{Found}
use Rattle.demands.proofs.Received.{Reads, rests, acts, received}
use Rattle.demands.proofs.ReadBy.{read_session}
use Rattle.demands.proofs.ByteKeeps.{done_steps}
use Rattle.demands.proofs.Numbering.{power_up_is}
use Rattle.demands.proofs.ListsLocked.{lists_locked_lem}
use Rattle.demands.proofs.Life.{moment_kept}

-- ---- what is kept: each list that was started could be
abbrev Sound : DaqList → Type 0
Sound x = x.started ≡ true → fits x ≡ true

abbrev AllSound : Session → Type 0
AllSound c = (l : ℕ) → Sound (c.list l)

-- one that was not started
off : (x : DaqList) → x.started ≡ false → Sound x
off x e s = cc

none : (l : ℕ) → Sound no_list
none l = off no_list refl

-- one whose packets or selection changed
switched_fits : (on : Bool) (x : DaqList) → fits (switch on x) ≡ fits x
switched_fits on x = fits_same (switch on x) x (λ o h. refl) (λ o h. refl) refl refl

selected_fits : (on : Bool) (x : DaqList) → fits (select on x) ≡ fits x
selected_fits on x = fits_same (select on x) x (λ o h. refl) (λ o h. refl) refl refl

selected_sound : (on : Bool) (x : DaqList) → Sound x → Sound (select on x)
selected_sound on x w s = selected_fits on x ∙ w s

started_sound : (o : Bool) (x : DaqList) → Sound x → (x.selected ≡ true → runs o x ≡ false → fits x ≡ true) → Sound (start_if_selected o x)
started_sound o x w fit =
    selected_sound false (cond x.selected (cond (runs o x) x (switch true x)) x)
    (cond_ind Sound x.selected (λ s. cond_ind Sound (runs o x) (λ _. w) (λ r _. switched_fits true x ∙ fit s r)) (λ _. w))

stopped_sound : (x : DaqList) → Sound x → Sound (stop_if_selected x)
stopped_sound x w =
    selected_sound false (cond x.selected (switch false x) x) (cond_ind Sound x.selected (λ _. off (switch false x) refl) (λ _. w))

-- one of them changed
changed : (c : Session) (j : ℕ) (f : DaqList → DaqList) → AllSound c → Sound (f (c.list j)) → AllSound (at j f c)
changed c j f all here l = put_by Sound j (f (c.list j)) c.list l (λ _. here) (λ _. all l)

-- one that has an ODT and does not run in an open session was not started
still_off : (c : Session) (j : ℕ) → c.opened ≡ true → 0 < (c.list j).odts → runs_in c j ≡ false → (c.list j).started ≡ false
unfolding runs
still_off c j o h r =
    either (c.list j).started
    (λ s. absurd (false≢true (sym r ∙ ap₂ (λ (a b : Bool). cond a (cond b (ltb 0 (c.list j).odts) false) false) o s ∙ lt-ltb 0 (c.list j).odts h)))
    (λ s. s)

-- ---- a deed that is done in an open session
module _ (p : List ℕ) (c : Session) (n nc nm : ℕ) (has : Listed c) (open' : c.opened ≡ true) (all : AllSound c) where
  -- a list that is there and selected, or is not there
  each_starts : Found StartSelected p c → (l : ℕ) → (c.list l).selected ≡ true → runs_in c l ≡ false → fits (c.list l) ≡ true
  each_starts ready l s r =
      either (ltb l c.lists) (λ b. each_fits_lem c l ready (ltb-true l c.lists b) s r)
      (λ b. absurd (false≢true (sym (ap (λ (x : DaqList). x.selected) (has l (ltb-false l c.lists b))) ∙ s)))

  step_sound : (d : Deed) → Doable d c n nc nm → Found d p c → AllSound (step_in d c)
  unfolding step_in
  step_sound (Refuse r) can found = all
  step_sound RefuseSize can found = all
  step_sound WrongKey can found = none
  step_sound Connect can found = none
  step_sound Disconnect can found = none
  step_sound Status can found = all
  step_sound Synch can found = all
  step_sound NoSeed can found = all
  step_sound (GiveSeed r) can found = all
  step_sound (Unlock r) can found = all
  step_sound (SetMta e a) can found = all
  step_sound (Upload e a m) can found = all
  step_sound (Checksum e a m) can found = all
  step_sound (Download from a m) can found = all
  step_sound (ClearList j) can found = changed c j clear all (off (clear (c.list j)) refl)
  step_sound (SetPointer j o e) can found = all
  step_sound (ClearEntry j o e) can found = changed c j (set_entry o e no_entry) all (off (set_entry o e no_entry (c.list j)) refl)
  step_sound (WriteEntry j o e m x a) can found =
      changed c j (set_entry o e (record { size = m; extension = x; address = a })) all (off (set_entry o e (record { size = m; extension = x; address = a }) (c.list j)) refl)
  step_sound (SetMode j event) can found = changed c j (set_mode event) all (off (set_mode event (c.list j)) refl)
  step_sound (Stop j) can found = changed c j (switch false) all (off (switch false (c.list j)) refl)
  step_sound (Start j) can found = changed c j (switch true) all (λ _. switched_fits true (c.list j) ∙ found.fit)
  step_sound (KeepRunning j) can found = all
  step_sound (Select j) can found = changed c j (select true) all (selected_sound true (c.list j) (all j))
  step_sound StopAll can found = λ l. selected_sound false (switch false (c.list l)) (off (switch false (c.list l)) refl)
  step_sound StartSelected can found = λ l. started_sound c.opened (c.list l) (all l) (each_starts found l)
  step_sound StopSelected can found = λ l. stopped_sound (c.list l) (all l)
  step_sound ProcessorInfo can found = all
  step_sound ResolutionInfo can found = all
  step_sound FreeLists can found = none
  step_sound (AllocLists m) can found = none
  step_sound (AllocOdts j m) can found = λ l. off (with_odts j m l (c.list l)) (all_unstarted c has found l)
  step_sound (AllocEntries j o m) can found =
      changed c j (alloc_entries o m) all (off (alloc_entries o m (c.list j)) (still_off c j open' (omega (arith, can.1)) found.still))

-- ---- a received byte
module _ (s cal meas : List ℕ) (b : ℕ) (c : consistent s ≡ true) (all : AllSound (session_of s)) where
  sound_by : {o : Step} {x : Option Deed} → Reads s cal meas b o x → AllSound (session_of o.state)
  unfolding step_in
  sound_by (rests r n few) = subst AllSound (sym (read_session s b c)) all
  sound_by (acts d p w) = λ l. subst (λ (f : ℕ → DaqList). Sound (f l)) (sym (done_steps s cal meas b c d p w).list) (go (session_of s).opened refl l) where
    go : (x : Bool) → (session_of s).opened ≡ x → AllSound (step_in d (session_of s))
    go true e = step_sound p (session_of s) (length p) (length cal) (length meas) (listed s) e all d w.can w.found
    go false e = subst (λ (y : Deed). AllSound (step_in y (session_of s))) (sym (w.closed e).0) none

  byte_sound : AllSound (session_of (receive_of s cal meas b).state)
  byte_sound = sound_by (received s cal meas b c)

-- ---- an event and a slot leave the settings
kept_sound : (c d : Session) → SettingsKept c d → AllSound c → AllSound d
kept_sound c d w all l s =
    fits_same (d.list l) (c.list l) (λ o h. w.entry_counts l o) (λ o h. fun_ext (w.entries l o)) (w.modes l) (w.odts l) ∙ all l (sym (w.started l) ∙ s)

-- ---- power-up
power_lists : (start : ℕ) → list_count (powered start) ≡ 0
unfolding phase_of
power_lists start = rw (powered_nought start phase_at (lit≤ tt) (lit< tt))

power_sound : (start : ℕ) → AllSound (session_of (powered start))
power_sound start l = subst Sound (sym (no_list_lem (powered start) l (omega (arith, power_lists start)))) (none l)

-- ---- a life
moment_sound : (h : Device) (m : Moment) → consistent h.state ≡ true → length h.state ≡ size → AllSound (session_of h.state) → AllSound (session_of (after_moment ours h m).state)
moment_sound h (PowerOn start) c e all = subst (λ (s : List ℕ). AllSound (session_of s)) (sym (power_up_is h.state start e)) (power_sound start)
moment_sound h (Hears meas b) c e all = byte_sound h.state h.cal meas b c all
moment_sound h (OnEvent meas event clock) c e all = kept_sound _ _ (lists_locked_lem.event h.state h.cal meas event clock) all
moment_sound h (Serves out) c e all = kept_sound _ _ (lists_locked_lem.slot h.state out) all

life_sound : (h : Device) (ms : List Moment) → consistent h.state ≡ true → AllSound (session_of h.state) → AllSound (session_of (lived ours h ms).state)
life_sound h [] c all = all
life_sound h (m ∷ ms) c all = life_sound (after_moment ours h m) ms (moment_kept h m c) (moment_sound h m c (consistent_size h.state c) all)

-- ---- what could be started, in the law's words
second : (a b : Bool) → cond a false b ≡ true → (a ≡ false) × (b ≡ true)
second true b e = cc
second false b e = (refl, e)

-- of an ODT's first n entries one has bytes, if they have some
record SomeEntry (y : Odt) (n : ℕ) : Type 0 where
  entry : ℕ
  inside : entry < n
  some : 1 ≤ (y.entry entry).size

some_entry : (y : Odt) (n : ℕ) → 1 ≤ sizes_of y n → SomeEntry y n
unfolding sizes_of
some_entry y zero h = absurd (omega arith)
some_entry y (suc n) h =
    either (eqb (y.entry n).size 0)
    (λ z. let w : SomeEntry y n = some_entry y n (omega (arith, h, eqb-true (y.entry n).size 0 z)) in record { entry = w.entry; inside = omega (arith, w.inside); some = w.some })
    (λ z. let more : (y.entry n).size ≢ 0 = eqb-false (y.entry n).size 0 z in record { entry = n; inside = omega arith; some = omega (arith, more) })

-- and of a list's first n ODTs
some_byte : (x : DaqList) (n : ℕ) → n ≤ x.odts → 1 ≤ all_bytes x n → SomeByte x
unfolding all_bytes
some_byte x zero few h = absurd (omega arith)
some_byte x (suc n) few h =
    either (eqb (bytes_in (x.odt n)) 0)
    (λ z. some_byte x n (omega arith) (omega (arith, h, eqb-true (bytes_in (x.odt n)) 0 z)))
    (λ z. let more : bytes_in (x.odt n) ≢ 0 = eqb-false (bytes_in (x.odt n)) 0 z in
    let w : SomeEntry (x.odt n) (x.odt n).entries = some_entry (x.odt n) (x.odt n).entries (omega (arith, more)) in
    record { odt = n; in_list = omega arith; entry = w.entry; in_odt = w.inside; some = w.some })

-- none of them is too long
next_unfit : (x : DaqList) (j : ℕ) → leb (bytes_in (x.odt j)) (odt_most j) ≡ false → each_fits x (suc j) ≡ false
unfolding each_fits
next_unfit x j e = rw e (cond_ind (λ (b : Bool). b ≡ false) (each_fits x j) (λ _. refl) (λ _. refl))

each_fits_one : (x : DaqList) (n j : ℕ) → each_fits x n ≡ true → j < n → bytes_in (x.odt j) ≤ odt_most j
each_fits_one x n j e h =
    either (leb (bytes_in (x.odt j)) (odt_most j)) (λ b. leb-true (bytes_in (x.odt j)) (odt_most j) b)
    (λ b. absurd (false≢true (sym (fit_stays x (suc j) n (omega arith) (next_unfit x j b)) ∙ e)))

later_most : (o : ℕ) → odt_most (suc o) ≡ 63
later_most o = ap (λ (b : Bool). cond b 61 63) (ne_eqb (suc o) 0 (omega arith))

fit_of_lem : (x : DaqList) → fits x ≡ true → Fit x
unfolding fits
fit_of_lem x e =
    let unset = second (eqb x.mode 0) (cond (eqb (all_bytes x x.odts) 0) false (each_fits x x.odts)) e in
    let bare = second (eqb (all_bytes x x.odts) 0) (each_fits x x.odts) unset.1 in
    let more : all_bytes x x.odts ≢ 0 = eqb-false (all_bytes x x.odts) 0 bare.0 in
    record {
      mode = eqb-false x.mode 0 unset.0;
      bytes = some_byte x x.odts (omega arith) (omega (arith, more));
      first = omega (arith, each_fits_one x x.odts 0 bare.1 (ltb-true 0 x.odts (fits_has x e)), sizes_are (x.odt 0) (x.odt 0).entries);
      later = λ o h. omega (arith, each_fits_one x x.odts (suc o) bare.1 h, later_most o, sizes_are (x.odt (suc o)) (x.odt (suc o)).entries);
    }

pub all_fit : AllFit ours
all_fit h start ms e l s =
    let is : (after_moment ours h (PowerOn start)).state ≡ powered start = power_up_is h.state start e in
    let on : Device = after_moment ours h (PowerOn start) in
    let sound : AllSound (session_of on.state) = subst (λ (t : List ℕ). AllSound (session_of t)) (sym is) (power_sound start) in
    fit_of_lem ((session_of (lived ours on ms).state).list l) (life_sound on ms (rw is (power_consistent start)) sound l s)
