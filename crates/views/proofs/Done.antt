-- A deed that is done, its answer waiting: what the bytes then show. Assumes nothing.
use Rattle.std.proofs.Common.{◌≡◌, ℕ, List, length, ap, ◌∙◌}
use Rattle.state.specs.Layout.{size}
use Rattle.state.specs.State.{generator_of, wrong_keys_of}
use Rattle.judge.specs.Doable.{Doable}
use Rattle.model.specs.declared.Deed.{Deed}
use Rattle.session.specs.Perform.{effect, reply, after}
use Rattle.model.specs.Answers.{written, reply_in, done_by}
use Rattle.fields.proofs.Effects.{effected, answering}
use Rattle.model.specs.Model.{Slave}
use Rattle.model.specs.Step.{step}
use Rattle.model.specs.Calls.{with_answer}
use Rattle.model.specs.View.{session_of, view_of, shown}
use Rattle.views.proofs.Fit.{Fit}
use Rattle.views.proofs.Effect.{view_effect}
use Rattle.views.proofs.Calls.{view_answered}

module _ (d : Deed) (s cal meas : List ℕ) (n : ℕ) (h : length s ≡ size) (can : Doable d (session_of s) n (length cal) (length meas)) (fit : Fit d (generator_of s) (wrong_keys_of s)) where
  pub view_after : view_of (after d s cal meas) ≡ with_answer (step d (view_of s)) (reply_in d (session_of s) cal meas)
  view_after =
      view_answered (effect d s) (reply d s cal meas) ((effected d s n (length cal) (length meas) can).range.long ∙ h) (answering d s cal meas n can)
      ∙ ap (λ (v : Slave). with_answer v (reply d s cal meas)) (view_effect d s n (length cal) (length meas) h can fit)

  pub shown_after : (p : List ℕ) → shown (after d s cal meas) (written d p cal) ≡ done_by d p (session_of s) cal meas
  unfolding view_of
  shown_after p = λ i. record { session = (view_after i).session; memory = written d p cal; answer = (view_after i).answer }
