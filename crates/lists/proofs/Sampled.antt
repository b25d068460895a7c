-- What an event is to a list that there is, test by test; and whether the list runs. Assumes nothing.
use Rattle.std.proofs.Common.{◌≡◌, ℕ, ◌+◌, ◌<◌, Bool, true, false, cond, ltb, ◌≢◌, List, sym, refl, ap, ◌∙◌, lt-ltb, eq-eqb, ne_eqb}
use Rattle.state.specs.Layout.{running_at}
use Rattle.state.specs.Pool.{list_count, odt_count}
use Rattle.state.specs.State.{open_of, flag_of}
use Rattle.state.specs.Lists.{mode_of}
use Rattle.lists.specs.Lists.{runs_of}
use Rattle.lists.specs.Event.{sampling_of}
use Rattle.model.specs.Model.{unsent}
use Rattle.model.specs.View.{session_of}
use Rattle.model.proofs.Shown.{runs_at, sampling_at}
use Rattle.model.specs.declared.Sampling.TheVariants.{Idle, Sampled, Missed}

-- by whether it was started, in a session that is open, and whether it has an ODT
pub runs_by : (s : List ℕ) (l : ℕ) → l < list_count s → (on : Bool) → on ≡ cond (open_of s) (flag_of s (running_at l)) false → runs_of s l ≡ cond on (ltb 0 (odt_count s l)) false
runs_by s l there on e = runs_at s l there ∙ go (open_of s) (flag_of s (running_at l)) (ltb 0 (odt_count s l)) ∙ ap (λ (b : Bool). cond b (ltb 0 (odt_count s l)) false) (sym e) where
  go : (a b c : Bool) → cond a (cond b c false) false ≡ cond (cond a b false) c false
  go true b c = refl
  go false b c = refl

-- a list without ODTs does not run; one that has some runs if it was started
pub none_runs : (s : List ℕ) (l : ℕ) → l < list_count s → odt_count s l ≡ 0 → runs_of s l ≡ false
none_runs s l there e = runs_at s l there ∙ rw e (go (open_of s) (flag_of s (running_at l))) where
  go : (a b : Bool) → cond a (cond b (ltb 0 0) false) false ≡ false
  go true true = refl
  go true false = refl
  go false b = refl

pub some_runs_lem : (s : List ℕ) (l : ℕ) → l < list_count s → 0 < odt_count s l → (on : Bool) → on ≡ cond (open_of s) (flag_of s (running_at l)) false → runs_of s l ≡ on
some_runs_lem s l there h on e = runs_by s l there on e ∙ rw (lt-ltb 0 (odt_count s l) h) (go on) where
  go : (b : Bool) → cond b true false ≡ b
  go true = refl
  go false = refl

-- what an event is to it
module _ (s : List ℕ) (l event : ℕ) (there : l < list_count s) where
  pub other_mode : mode_of s l ≢ event + 1 → sampling_of s l event ≡ Idle
  other_mode n = sampling_at s l there event ∙ rw (ne_eqb (mode_of s l) (event + 1) n)

  module _ (its : mode_of s l ≡ event + 1) where
    asks : sampling_of s l event ≡ cond (runs_of s l) (cond (unsent ((session_of s).list l)) Missed Sampled) Idle
    asks = sampling_at s l there event ∙ rw (eq-eqb (mode_of s l) (event + 1) its)

    pub at_rest : runs_of s l ≡ false → sampling_of s l event ≡ Idle
    at_rest e = asks ∙ rw e

    pub still_unsent_lem : runs_of s l ≡ true → unsent ((session_of s).list l) ≡ true → sampling_of s l event ≡ Missed
    still_unsent_lem e u = asks ∙ rw (e, u)

    pub is_sampled_lem : runs_of s l ≡ true → unsent ((session_of s).list l) ≡ false → sampling_of s l event ≡ Sampled
    is_sampled_lem e u = asks ∙ rw (e, u)
