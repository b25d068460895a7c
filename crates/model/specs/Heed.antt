-- What a good message is to the slave.
use Rattle.std.specs.Prelude.{ℕ, Bool, false, cond, List, eqb, ltb, length, get_or}
use Rattle.model.specs.declared.Deed.{Deed}
use Rattle.model.specs.declared.Deed.TheVariants.{Connect}
use Rattle.model.specs.Model.{Session}
use Rattle.model.specs.Judge.{judge_in}

-- dropped unread; a command, done with its answer; or silence
pub data Heeding : Type 0 where
  Dropped : Heeding
  Obeyed : (d : Deed) → Heeding
  Ignored : Heeding

-- CONNECT with its two bytes, and mode 0
unfoldable pub good_connect : List ℕ → Bool
good_connect p = cond (eqb (get_or p 0 0) 0xFF) (cond (ltb (length p) 2) false (eqb (get_or p 1 0) 0)) false

-- with packet p: while an answer waits it is dropped, in an open session it is a command; with no session open only a good CONNECT is heeded
unfoldable pub heeding_in : Bool → List ℕ → Session → ℕ → ℕ → Heeding
heeding_in waiting p c nc nm =
    cond waiting Dropped
    (cond c.opened (Obeyed (judge_in p c nc nm))
    (cond (good_connect p) (Obeyed Connect)
    Ignored))
