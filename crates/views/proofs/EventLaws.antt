-- An event samples the lists that run on it and have no unsent packet, misses those that have one, and tells how many; so of the model. Assumes nothing.
use Rattle.std.proofs.Common.{◌≡◌, ℕ, zero, suc, ◌+◌, ◌<◌, Bool, true, false, cond, not, ◌&&◌, eqb, ltb, List, length, sym, refl, ap, ◌∙◌, subst, ap₂, lt-ltb}
use Rattle.std.proofs.lemmas.Bool.{lt-leb}
use Rattle.line.proofs.Laws.{cond_ind}
use Rattle.state.specs.Layout.{events}
use Rattle.words.specs.Values.{event_done}
use Rattle.model.specs.declared.Sampling.{Sampling}
use Rattle.model.specs.declared.Sampling.TheVariants.{Idle, Sampled, Missed}
use Rattle.model.specs.Model.{Odt, DaqList, Session, Slave, some_packet, unsent, runs_in}
use Rattle.model.specs.Calls.{sampling_in, contents_in, with_packet}
use Rattle.model.specs.Whole.{is_sampled, is_missed, how_many, counted_in, sampled_as, sampled_in, event_in}
use Rattle.views.specs.Commands.{TheGenerator, TheWrongKeys, WhetherOpen, TheLocks, TheSeed, TheMta, ThePointer, WhetherFreed, HowManyLists, TheRound, TheLists, AllBut}
use Rattle.views.specs.Words.{any, total}
use Rattle.views.specs.Samples.{CapturedList}
use Rattle.views.specs.Events.{on_event, still_unsent, takes_sample, misses_sample, how_many_of, EventLeaves}
use Rattle.views.proofs.FaultWords.{or_is, running_is}
use Rattle.views.proofs.Listed.{Listed, runs_listed}
use Rattle.views.proofs.SampleLaws.{samples_from}

-- ---- the words of the law
unsent_is : (x : DaqList) → unsent x ≡ still_unsent x
unfolding some_packet
unsent_is x = go x.odts where
  go : (n : ℕ) → some_packet x n ≡ any n (λ o. ltb 0 (length (x.odt o).store))
  go zero = refl
  go (suc n) = ap (λ (a : Bool). cond a true (ltb 0 (length (x.odt n).store))) (go n) ∙ or_is (any n (λ o. ltb 0 (length (x.odt o).store))) (ltb 0 (length (x.odt n).store))

module _ (c : Session) (listed : Listed c) (number : ℕ) where
  -- a list that runs is there
  on_event_is : (l : ℕ) → on_event c number l ≡ (runs_in c l && eqb (c.list l).mode (number + 1))
  on_event_is l = ap (λ (r : Bool). ltb l c.lists && (r && eqb (c.list l).mode (number + 1))) (sym (running_is c l)) ∙ go (runs_in c l) refl where
    go : (r : Bool) → runs_in c l ≡ r → (ltb l c.lists && (r && eqb (c.list l).mode (number + 1))) ≡ (r && eqb (c.list l).mode (number + 1))
    go true e = rw (lt-ltb l c.lists (runs_listed c listed l e)) refl
    go false e = and_no (ltb l c.lists) where
      and_no : (a : Bool) → (a && false) ≡ false
      and_no true = refl
      and_no false = refl

  sampling_is : (l : ℕ) → sampling_in c l number ≡ cond (takes_sample c number l) Sampled (cond (misses_sample c number l) Missed Idle)
  unfolding sampling_in
  sampling_is l =
      go (eqb (c.list l).mode (number + 1)) (runs_in c l) (unsent (c.list l))
      ∙ ap₂ (λ (on left : Bool). cond (on && not left) Sampled (cond (on && left) Missed Idle)) (sym (on_event_is l)) (unsent_is (c.list l)) where
        go : (e r u : Bool) → cond e (cond r (cond u Missed Sampled) Idle) Idle ≡ cond ((r && e) && not u) Sampled (cond ((r && e) && u) Missed Idle)
        go true true true = refl
        go true true false = refl
        go true false u = refl
        go false true u = refl
        go false false u = refl

  -- ---- the counts
  total_is : (f g : ℕ → Bool) → ((l : ℕ) → f l ≡ g l) → (n : ℕ) → how_many f n ≡ total n (λ l. cond (g l) 1 0)
  total_is f g e zero = refl
  total_is f g e (suc n) = ap₂ (λ (k : ℕ) (t : Bool). k + cond t 1 0) (total_is f g e n) (e n)

  pub sampled_is : (l : ℕ) → is_sampled (sampling_in c l number) ≡ takes_sample c number l
  sampled_is l = ap is_sampled (sampling_is l) ∙ go (takes_sample c number l) (misses_sample c number l) where
    go : (t m : Bool) → is_sampled (cond t Sampled (cond m Missed Idle)) ≡ t
    go true m = refl
    go false true = refl
    go false false = refl

  pub sampled_if : (l : ℕ) → takes_sample c number l ≡ true → sampling_in c l number ≡ Sampled
  sampled_if l t = sampling_is l ∙ ap (λ (b : Bool). cond b Sampled (cond (misses_sample c number l) Missed Idle)) t

  missed_is : (l : ℕ) → is_missed (sampling_in c l number) ≡ misses_sample c number l
  missed_is l = ap is_missed (sampling_is l) ∙ go (on_event c number l) (still_unsent (c.list l)) where
    go : (on left : Bool) → is_missed (cond (on && not left) Sampled (cond (on && left) Missed Idle)) ≡ (on && left)
    go true true = refl
    go true false = refl
    go false left = refl

  counted_is : counted_in c number ≡ event_done (how_many_of c (takes_sample c number)) (how_many_of c (misses_sample c number))
  counted_is = ap₂ event_done (total_is _ _ sampled_is c.lists) (total_is _ _ missed_is c.lists)

  -- ---- what is left
  module _ (clock : ℕ) (cal meas : List ℕ) where
    abbrev left : ℕ → DaqList
    left l = sampled_as (sampling_in c l number) clock cal meas (c.list l)

    -- what an event keeps of a list, of each of whose ODTs it keeps all but the packet
    kept : {A : Type 0} (f : DaqList → A) → ((x : DaqList) (g : ℕ → Odt) → f (record { mode = x.mode; selected = x.selected; started = x.started; odts = x.odts; odt = g }) ≡ f x) → (l : ℕ) → f (left l) ≡ f (c.list l)
    unfolding sampled_as
    kept f e l = go (sampling_in c l number) where
      go : (z : Sampling) → f (sampled_as z clock cal meas (c.list l)) ≡ f (c.list l)
      go Idle = refl
      go Sampled = e (c.list l) _
      go Missed = refl

    kept_odt : {A : Type 0} (f : Odt → A) → ((y : Odt) (bs : List ℕ) → f (with_packet bs y) ≡ f y) → (l o : ℕ) → f ((left l).odt o) ≡ f ((c.list l).odt o)
    unfolding sampled_as
    kept_odt f e l o = go (sampling_in c l number) where
      go : (z : Sampling) → f ((sampled_as z clock cal meas (c.list l)).odt o) ≡ f ((c.list l).odt o)
      go Idle = refl
      go Sampled = cond_ind (λ (y : Odt). f y ≡ f ((c.list l).odt o)) (ltb o (c.list l).odts) (λ _. e ((c.list l).odt o) (contents_in o clock cal meas ((c.list l).odt o))) (λ _. refl)
      go Missed = refl

    rest_kept : AllBut TheLists c (sampled_in c number clock cal meas)
    rest_kept TheGenerator n = refl
    rest_kept TheWrongKeys n = refl
    rest_kept WhetherOpen n = refl
    rest_kept TheLocks n = λ r. refl
    rest_kept TheSeed n = refl
    rest_kept TheMta n = refl
    rest_kept ThePointer n = refl
    rest_kept WhetherFreed n = refl
    rest_kept HowManyLists n = refl
    rest_kept TheRound n = refl
    rest_kept TheLists n = absurd (n refl)

    pub event_leaves_in : EventLeaves number clock cal meas c (sampled_in c number clock cal meas) (counted_in c number)
    unfolding sampled_as
    event_leaves_in = record {
      told = counted_is;
      taken = λ l t. subst (λ (z : Sampling). CapturedList clock cal meas (c.list l) (sampled_as z clock cal meas (c.list l))) (sym (sampling_is l ∙ ap (λ (b : Bool). cond b Sampled (cond (misses_sample c number l) Missed Idle)) t)) (samples_from clock cal meas (c.list l));
      old = λ l t. ap (λ (z : Sampling). sampled_as z clock cal meas (c.list l)) (sampling_is l ∙ ap (λ (b : Bool). cond b Sampled (cond (misses_sample c number l) Missed Idle)) t) ∙ stays (misses_sample c number l) (c.list l);
      settings = record {
        pointer = refl;
        freed = refl;
        lists = refl;
        modes = kept (λ x. x.mode) (λ x g. refl);
        selected = kept (λ x. x.selected) (λ x g. refl);
        started = kept (λ x. x.started) (λ x g. refl);
        odts = kept (λ x. x.odts) (λ x g. refl);
        entry_counts = kept_odt (λ y. y.entries) (λ y bs. refl);
        entries = λ l o e. kept_odt (λ y. y.entry e) (λ y bs. refl) l o;
      };
      rest = rest_kept;
    } where
      stays : (m : Bool) (x : DaqList) → sampled_as (cond m Missed Idle) clock cal meas x ≡ x
      stays true x = refl
      stays false x = refl

-- ---- an event that is 0 or 1
pub event_leaves : (v : Slave) (number clock : ℕ) (cal meas : List ℕ) → Listed v.session → number < events
    → EventLeaves number clock cal meas v.session (event_in number clock v cal meas).slave.session (event_in number clock v cal meas).evented
unfolding event_in
event_leaves v number clock cal meas listed few = rw (lt-leb events number few) (event_leaves_in v.session listed number clock cal meas)
