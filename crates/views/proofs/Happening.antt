-- What an event in bytes shows is the event whole: the lists are taken one after the other, and each comes out as if it were taken by itself.
-- Assumes nothing.
use Rattle.std.proofs.Common.{◌≡◌, ℕ, zero, suc, ◌+◌, ◌<◌, ◌≤◌, Bool, true, cond, eqb, ltb, leb, List, length, sym, refl, ap, ◌∙◌, ap₂, arith, ltb-false, ltb-true, le-ltb, lt-ltb, ne_eqb}
use Rattle.std.proofs.Math.Path.{fun_ext}
use Rattle.std.proofs.lemmas.Bool.{lt-leb}
use Rattle.line.proofs.Laws.{cond_ind}
use Rattle.state.specs.Layout.{size, events, sample_at}
use Rattle.state.specs.Pool.{list_count}
use Rattle.state.specs.State.{consistent}
use Rattle.state.proofs.Consistent.{consistent_size}
use Rattle.words.specs.Values.{event_done}
use Rattle.lists.specs.Event.{sampling_of, sampled_state, tally, Happened, event_of}
use Rattle.fields.proofs.Frames.{Only}
use Rattle.fields.proofs.Readers.{apart, list_count_reads}
use Rattle.fields.proofs.Captures.{only_tally}
use Rattle.model.specs.declared.Sampling.{Sampling}
use Rattle.model.specs.declared.Sampling.TheVariants.{Idle, Sampled, Missed}
use Rattle.model.specs.Model.{put, DaqList, Session, Slave, runs, unsent}
use Rattle.model.specs.Step.{with_session, with_lists, at}
use Rattle.model.specs.Calls.{sampling_in}
use Rattle.model.specs.View.{session_of, view_of}
use Rattle.model.proofs.Bounded.{either}
use Rattle.model.proofs.Shown.{no_list_lem}
use Rattle.model.specs.Whole.{AfterEvent, sampled_as, is_sampled, is_missed, how_many, sampled_in, event_in}
use Rattle.views.specs.Shown.{event_shown}
use Rattle.views.proofs.Parts.{put_by}
use Rattle.views.proofs.Calls.{view_captured}

-- ---- what an event is to a list depends on that list alone
sampling_own : (c d : Session) (l event : ℕ) → c.opened ≡ d.opened → c.list l ≡ d.list l → sampling_in c l event ≡ sampling_in d l event
unfolding sampling_in
sampling_own c d l event =
    ap₂ (λ (o : Bool) (x : DaqList). cond (eqb x.mode (event + 1)) (cond (runs o x) (cond (unsent x) Missed Sampled) Idle) Idle)

-- ---- the first n lists have had their turn: those as in f, the others as in g
module _ (f g : ℕ → DaqList) where
  abbrev first : ℕ → ℕ → DaqList
  first n l = cond (ltb l n) (f l) (g l)

  first_none : first 0 ≡ g
  first_none = fun_ext (λ l. rw (le-ltb l 0 (omega arith)))

  -- list n, whose turn is next, is as it was
  first_at : (n : ℕ) → first n n ≡ g n
  first_at n = rw (le-ltb n n (omega arith))

  first_next : (n : ℕ) → put n (f n) (first n) ≡ first (suc n)
  first_next n =
      fun_ext (λ l. put_by (λ (x : DaqList). x ≡ first (suc n) l) n (f n) (first n) l
      (λ e. rw (e, lt-ltb n (suc n) (omega arith)))
      (λ e. either (ltb l n)
      (λ b. let h : l < n = ltb-true l n b in rw (b, lt-ltb l (suc n) (omega arith)))
      (λ b. let h : n ≤ l = ltb-false l n b in rw (b, le-ltb l (suc n) (omega arith)))))

  -- there are n, and behind them nothing changes
  first_all : (n : ℕ) → ((l : ℕ) → n ≤ l → g l ≡ f l) → first n ≡ f
  first_all n h = fun_ext (λ l. either (ltb l n) (λ b. rw b) (λ b. rw b (h l (ltb-false l n b))))

put_same : (i : ℕ) (x : DaqList) (g : ℕ → DaqList) → x ≡ g i → put i x g ≡ g
put_same i x g e = fun_ext (λ j. put_by (λ (y : DaqList). y ≡ g j) i x g j (λ q. e ∙ ap g (sym q)) (λ _. refl))

-- ---- one list's turn
module _ (s : List ℕ) (l clock : ℕ) (cal meas : List ℕ) (h : length s ≡ size) (there : l < list_count s) where
  unchanged : view_of s ≡ with_session (view_of s) (at l (λ x. x) (session_of s))
  unfolding view_of
  unchanged = ap (λ (g : ℕ → DaqList). with_session (view_of s) (with_lists (session_of s) g)) (sym (put_same l ((session_of s).list l) (session_of s).list refl))

  view_turn : (x : Sampling) → view_of (sampled_state x s l clock cal meas) ≡ with_session (view_of s) (at l (sampled_as x clock cal meas) (session_of s))
  unfolding sampled_state sampled_as
  view_turn Idle = unchanged
  view_turn Sampled = view_captured s l clock cal meas h there
  view_turn Missed = unchanged

-- ---- one after the other
module _ (s : List ℕ) (event clock : ℕ) (cal meas : List ℕ) (h : length s ≡ size) where
  abbrev now : Session
  now = session_of s

  abbrev sampling : ℕ → Sampling
  sampling l = sampling_in now l event

  abbrev turned : ℕ → DaqList
  turned l = sampled_as (sampling l) clock cal meas (now.list l)

  -- when the first n have had their turn: the state, and what it shows
  abbrev state : ℕ → List ℕ
  state n = (tally s event clock cal meas n).state

  abbrev SoFar : ℕ → Type 0
  SoFar n = view_of (state n) ≡ with_session (view_of s) (with_lists now (first turned now.list n))

  turn_by : (n : ℕ) → SoFar n → sampling_of (state n) n event ≡ sampling n
  unfolding view_of
  turn_by n e =
      sampling_own (session_of (state n)) now n event (ap (λ (v : Slave). v.session.opened) e) (ap (λ (v : Slave). v.session.list n) e ∙ first_at turned now.list n)

  so_far : (n : ℕ) → n ≤ list_count s → SoFar n
  unfolding tally view_of
  so_far zero p = ap (λ (g : ℕ → DaqList). with_session (view_of s) (with_lists now g)) (sym (first_none turned now.list))
  so_far (suc n) p =
      let e : SoFar n = so_far n (omega arith) in
      let x : Sampling = sampling_of (state n) n event in
      let w : Only (sample_at 0) size s (state n) = only_tally s event clock cal meas n (omega arith) in
      view_turn (state n) n clock cal meas (w.long ∙ h) (rw (list_count_reads (apart tt w)) p) x
      ∙ ap (λ (v : Slave). with_session v (at n (sampled_as x clock cal meas) v.session)) e
      ∙ ap₂ (λ (x : Sampling) (y : DaqList). with_session (view_of s) (with_lists now (put n (sampled_as x clock cal meas y) (first turned now.list n)))) (turn_by n e) (first_at turned now.list n)
      ∙ ap (λ (g : ℕ → DaqList). with_session (view_of s) (with_lists now g)) (first_next turned now.list n)

  pub event_turn : (n : ℕ) → n ≤ list_count s → sampling_of (state n) n event ≡ sampling n
  event_turn n p = turn_by n (so_far n p)

  count_sampled : (n : ℕ) → n ≤ list_count s → (tally s event clock cal meas n).sampled ≡ how_many (λ l. is_sampled (sampling l)) n
  unfolding tally
  count_sampled zero p = refl
  count_sampled (suc n) p = rw (count_sampled n (omega arith), event_turn n (omega arith))

  count_missed : (n : ℕ) → n ≤ list_count s → (tally s event clock cal meas n).missed ≡ how_many (λ l. is_missed (sampling l)) n
  unfolding tally
  count_missed zero p = refl
  count_missed (suc n) p = rw (count_missed n (omega arith), event_turn n (omega arith))

  -- to a list that there is not an event is nothing
  unlisted : (l : ℕ) → list_count s ≤ l → sampling l ≡ Idle
  unfolding sampling_in
  unlisted l p = rw (no_list_lem s l p, ne_eqb 0 (event + 1) (omega arith))

  view_tally : view_of (state (list_count s)) ≡ with_session (view_of s) (sampled_in now event clock cal meas)
  unfolding sampled_as
  view_tally =
      so_far (list_count s) (omega arith)
      ∙ ap (λ (g : ℕ → DaqList). with_session (view_of s) (with_lists now g)) (first_all turned now.list (list_count s) (λ l p. rw (unlisted l p)))

pub view_event : (s cal meas : List ℕ) (event clock : ℕ) → consistent s ≡ true → event_shown (event_of s cal meas event clock) ≡ event_in event clock (view_of s) cal meas
unfolding event_of event_in view_of session_of
view_event s cal meas event clock c =
    let h : length s ≡ size = consistent_size s c in
    rw c
    (cond_ind (λ (o : Happened). event_shown o ≡ event_in event clock (view_of s) cal meas) (leb events event) (λ b. rw b)
    (λ b. rw b (λ i. record {
      evented = event_done (count_sampled s event clock cal meas h (list_count s) (omega arith) i) (count_missed s event clock cal meas h (list_count s) (omega arith) i);
      slave = view_tally s event clock cal meas h i;
    })))

-- what it makes of the session
pub event_session : (s cal meas : List ℕ) (event clock : ℕ) → consistent s ≡ true → event < events → session_of (event_of s cal meas event clock).state ≡ sampled_in (session_of s) event clock cal meas
unfolding event_in view_of
event_session s cal meas event clock c h = ap (λ (o : AfterEvent). o.slave.session) (view_event s cal meas event clock c) ∙ rw (lt-leb events event h)
