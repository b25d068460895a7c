-- What power-up leaves, in document 01's words.
use Rattle.std.specs.Prelude.{ℕ, ◌≡◌, ◌≢◌, false, []}
use Rattle.line.specs.declared.Place.TheVariants.{Outside}
use Rattle.model.specs.Model.{Slave}
use Rattle.views.specs.Commands.{Fresh}

-- no session is open; the generator has its start, of which 0 becomes the default; no key was wrong; the CTR is 0, the last frame
-- counts as no answer; no answer waits, and the reader waits for SYNC
pub record PowerUpLeaves (start : ℕ) (v : Slave) : Type 0 where
  pub closed : v.session.opened ≡ false
  pub fresh : Fresh v.session v.session
  pub started : start ≢ 0 → v.session.generator ≡ start
  pub default : start ≡ 0 → v.session.generator ≡ 0x2545F491
  pub wrong_keys : v.session.wrong_keys ≡ 0
  pub ctr : v.ctr ≡ 0
  pub last_answer : v.last_answer ≡ false
  pub answer : v.answer ≡ []
  pub place : v.place ≡ Outside
