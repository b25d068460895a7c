-- A good message, told by the three things that decide about it. Assumes nothing.
use Rattle.std.proofs.Common.{Ok, ℕ, ◌≡◌, refl, Bool, true, false, cond, List, length}
use Rattle.state.specs.State.{open_of, waits}
use Rattle.model.specs.declared.Deed.{Deed}
use Rattle.model.specs.declared.Deed.TheVariants.{Connect}
use Rattle.model.specs.Heed.{Dropped, Obeyed, Ignored, good_connect, heeding_in}
use Rattle.model.specs.View.{session_of}
use Rattle.look.specs.Look.{judge_of}
use Rattle.session.specs.Receive.{only, obeyed, heeded_by, heeded}
use Rattle.words.specs.declared.Heard.TheVariants.{Unread, Silent}

module _ (p s cal meas : List ℕ) where
  by_three : (d : Deed) (w o g : Bool)
      → heeded_by (cond w Dropped (cond o (Obeyed d) (cond g (Obeyed Connect) Ignored))) p s cal meas
      ≡ cond w (only (Ok Unread) s cal) (cond o (obeyed d p s cal meas) (cond g (obeyed Connect p s cal meas) (only (Ok Silent) s cal)))
  by_three d true o g = refl
  by_three d false true g = refl
  by_three d false false true = refl
  by_three d false false false = refl

  pub heeded_is : heeded p s cal meas
      ≡ cond (waits s) (only (Ok Unread) s cal)
      (cond (open_of s) (obeyed (judge_of p s (length cal) (length meas)) p s cal meas)
      (cond (good_connect p) (obeyed Connect p s cal meas)
      (only (Ok Silent) s cal)))
  unfolding heeded heeding_in session_of
  heeded_is = by_three (judge_of p s (length cal) (length meas)) (waits s) (open_of s) (good_connect p)
