-- An event samples and misses the lists that it should, counts them, and changes nothing but the stores of those sampled. Assumes nothing.
use Rattle.std.proofs.Common.{◌≡◌, ◌≢◌, ℕ, ◌*◌, ◌≤◌, ◌<◌, Bool, true, false, cond, List, [], ◌++◌, ltb, leb, refl, sym, ap, ◌∙◌, subst, arith, append-nil, lt-ltb, le-ltb, ltb-true, ltb-false, lit≤}
use Rattle.state.specs.Layout.{events, place_at, sample_size, sample_at, session_at}
use Rattle.state.specs.Pool.{list_count, first_odt, odt_count, odt_total}
use Rattle.state.specs.State.{consistent}
use Rattle.lists.specs.Event.{captured, tally, Happened, happened, event_of}
use Rattle.model.specs.Model.{Session, waiting_in}
use Rattle.model.specs.Step.{with_lists}
use Rattle.model.specs.Calls.{sampling_in}
use Rattle.model.specs.Whole.{AfterEvent, counted_in, event_in}
use Rattle.model.specs.View.{lists_of, session_of, view_of}
use Rattle.model.specs.declared.Sampling.TheVariants.{Sampled}
use Rattle.line.proofs.Laws.{cond_ind}
use Rattle.views.proofs.Listed.{listed, runs_listed}
use Rattle.state.proofs.Consistent.{consistent_size}
use Rattle.fields.proofs.Frames.{Only, only_none, only_wider}
use Rattle.fields.proofs.Readers.{Same, apart, same_block, answer_reads}
use Rattle.fields.proofs.Captures.{only_event}
use Rattle.views.proofs.Parts.{in_lists}
use Rattle.views.proofs.Waits.{sampled_free, sampled_empty, event_odts, event_waits}
use Rattle.views.proofs.Happening.{view_event, event_session}
use Rattle.demands.specs.Slave.{ours}
use Rattle.demands.specs.Runs.{Event}
use Rattle.demands.specs.Waiting.{SameOutside, waiting_of, sample_of}
use Rattle.demands.specs.AsDefined.{stores_of}
use Rattle.views.specs.Events.{takes_sample}
use Rattle.views.proofs.EventLaws.{sampled_is, sampled_if}
use Rattle.demands.specs.Kept.{gains}
use Rattle.demands.proofs.Deeds.{SameLists, lists_stay}
use Rattle.demands.proofs.ByteKeeps.{SameSent, sent_reads}
use Rattle.demands.proofs.Unchanged.{all_but}
use Rattle.demands.proofs.EventSteps.{SameStore, all_only, unsampled_store, sampled_store}

pub event_low : (event : ℕ) → event ≤ 1 → event < events
event_low event h = omega arith

-- ---- an event takes the lists, or is none
taken : (s cal meas : List ℕ) (event clock : ℕ) → consistent s ≡ true → event ≤ 1 → event_of s cal meas event clock ≡ happened (tally s event clock cal meas (list_count s))
unfolding event_of
taken s cal meas event clock c h = rw (c, le-ltb 1 event h)

refused : (s cal meas : List ℕ) (event clock : ℕ) → consistent s ≡ true → 1 < event → (event_of s cal meas event clock).state ≡ s
unfolding event_of
refused s cal meas event clock c h = rw (c, lt-ltb 1 event h)

-- ---- what it counts, and what it makes of the session
pub tells_counts_lem : (s cal meas : List ℕ) (event clock : ℕ) → consistent s ≡ true → event ≤ 1 → (ours.event s cal meas event clock).evented ≡ counted_in (session_of s) event
unfolding event_in view_of
tells_counts_lem s cal meas event clock c h = ap (λ (o : AfterEvent). o.evented) (view_event s cal meas event clock c) ∙ rw (le-ltb 1 event h)

-- ---- a list keeps what waits, and gains what the event gives it
pub event_waiting : (s cal meas : List ℕ) (event clock l : ℕ) → consistent s ≡ true → waiting_of (event_of s cal meas event clock).state l ≡ waiting_of s l ++ gains l s (Event cal meas event clock)
event_waiting s cal meas event clock l c = go (ltb 1 event) refl where
  go : (t : Bool) → ltb 1 event ≡ t
      → waiting_of (event_of s cal meas event clock).state l ≡ waiting_of s l ++ cond t [] (cond (takes_sample (session_of s) event l) (sample_of s l clock cal meas) [])
  go true e = rw (refused s cal meas event clock c (ltb-true 1 event e)) (sym (append-nil (waiting_of s l)))
  go false e = ap (λ (x : Session). waiting_in x l) (event_session s cal meas event clock c (event_low event (ltb-false 1 event e))) ∙ event_waits (session_of s) event clock cal meas l
      ∙ ap (λ (t : Bool). waiting_of s l ++ cond t (sample_of s l clock cal meas) []) (sampled_is (session_of s) (listed s) event l)

pub gains_sample_lem : (s cal meas : List ℕ) (event clock l : ℕ) → consistent s ≡ true → event ≤ 1 → takes_sample (session_of s) event l ≡ true
    → waiting_of (ours.event s cal meas event clock).state l ≡ sample_of s l clock cal meas
gains_sample_lem s cal meas event clock l c h t =
    let e : sampling_in (session_of s) l event ≡ Sampled = sampled_if (session_of s) (listed s) event l t in
    event_waiting s cal meas event clock l c ∙ rw (sampled_empty (session_of s) l event e, le-ltb 1 event h, t)

-- ---- what it stores: as if a list that is sampled alone were captured
-- a list that is sampled is there
sampled_there : (s : List ℕ) (event l : ℕ) → sampling_in (session_of s) l event ≡ Sampled → l < list_count s
unfolding session_of
sampled_there s event l e = runs_listed (session_of s) (listed s) l (sampled_free (session_of s) l event e).0

-- the bytes of its store
same_stores : (s t u : List ℕ) (l : ℕ) → SameStore s l t u → stores_of u s l ≡ stores_of t s l
same_stores s t u l w = same_block (sample_at (first_odt s l)) (odt_count s l * sample_size) (omega arith) (omega arith) w

pub stores : (s cal meas : List ℕ) (event clock l : ℕ) → consistent s ≡ true → event ≤ 1 → sampling_in (session_of s) l event ≡ Sampled
    → stores_of (ours.event s cal meas event clock).state s l ≡ stores_of (captured s l clock cal meas) s l
stores s cal meas event clock l c h e =
    rw (taken s cal meas event clock c h) (same_stores s (captured s l clock cal meas) _ l (sampled_store s event clock cal meas (consistent_size s c) l (sampled_there s event l e) e))

-- ---- what it leaves
-- the store of a list that is not sampled
kept_store : (s cal meas : List ℕ) (event clock l : ℕ) → consistent s ≡ true → l < list_count s → sampling_in (session_of s) l event ≢ Sampled → SameStore s l s (event_of s cal meas event clock).state
kept_store s cal meas event clock l c q n = go (ltb 1 event) refl where
  go : (t : Bool) → ltb 1 event ≡ t → SameStore s l s (event_of s cal meas event clock).state
  go true e = rw (refused s cal meas event clock c (ltb-true 1 event e)) (record { long = refl; byte = λ j p r. refl })
  go false e = rw (taken s cal meas event clock c (ltb-false 1 event e)) (unsampled_store s event clock cal meas (consistent_size s c) l q n)

pub others : (s cal meas : List ℕ) (event clock l : ℕ) → consistent s ≡ true → l < list_count s → sampling_in (session_of s) l event ≢ Sampled
    → stores_of (ours.event s cal meas event clock).state s l ≡ stores_of s s l
others s cal meas event clock l c q n = same_stores s s _ l (kept_store s cal meas event clock l c q n)

pub stores_only : (s cal meas : List ℕ) (event clock : ℕ) → SameOutside (sample_at 0) (sample_at (odt_total s)) s (ours.event s cal meas event clock).state
unfolding event_of
stores_only s cal meas event clock =
    let P : Happened → Type 0 = λ (o : Happened). Only (sample_at 0) (sample_at (odt_total s)) s o.state in
    all_but (cond_ind P (consistent s)
    (λ c. cond_ind P (leb events event) (λ _. only_none) (λ _. all_only s event clock cal meas (consistent_size s c))) (λ _. only_none))

-- among them the reader and the answer
pub event_back : (s cal meas : List ℕ) (event clock : ℕ) → Same place_at session_at s (event_of s cal meas event clock).state
event_back s cal meas event clock = apart tt (only_event s cal meas event clock)

pub event_answer : (s cal meas : List ℕ) (event clock : ℕ) → (view_of (event_of s cal meas event clock).state).answer ≡ (view_of s).answer
unfolding view_of
event_answer s cal meas event clock = answer_reads (apart tt (only_event s cal meas event clock))

pub event_sent : (s cal meas : List ℕ) (event clock : ℕ) → SameSent (view_of s) (view_of (event_of s cal meas event clock).state)
event_sent s cal meas event clock = let w = only_event s cal meas event clock in sent_reads (apart tt w) (apart tt w)

-- how many lists and ODTs there are, and with which list the round begins
pub event_numbers : (s cal meas : List ℕ) (event clock : ℕ) → consistent s ≡ true → SameLists (session_of s) (session_of (event_of s cal meas event clock).state)
event_numbers s cal meas event clock c = go (ltb 1 event) refl where
  go : (t : Bool) → ltb 1 event ≡ t → SameLists (session_of s) (session_of (event_of s cal meas event clock).state)
  go true e = rw (refused s cal meas event clock c (ltb-true 1 event e)) lists_stay
  go false e =
      subst (SameLists (session_of s)) (sym (event_session s cal meas event clock c (event_low event (ltb-false 1 event e))))
      (record { lists = refl; odts = event_odts (session_of s) event clock cal meas }, refl)

-- of the session the lists alone
pub event_lists : (s cal meas : List ℕ) (event clock : ℕ) → session_of (event_of s cal meas event clock).state ≡ with_lists (session_of s) (lists_of (event_of s cal meas event clock).state)
event_lists s cal meas event clock = in_lists (only_wider (lit≤ tt) (lit≤ tt) (only_event s cal meas event clock))
