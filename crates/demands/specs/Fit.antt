-- Every list that was started could be started, in every state that a life from power-up leads to: the one thing that is said of such states alone. In bytes
-- that no call leads to it need not be so, and nothing else rests on it.
use Rattle.std.specs.Prelude.{ℕ, suc, ◌≤◌, ◌<◌, ◌≡◌, ◌≢◌, true, List, ◌∷◌, length}
use Rattle.state.specs.Layout.{size}
use Rattle.model.specs.Model.{DaqList}
use Rattle.model.specs.View.{session_of}
use Rattle.views.specs.Samples.{sizes_before}
use Rattle.demands.specs.Slave.{AnySlave}
use Rattle.demands.specs.Life.{Device, Moment, PowerOn, lived}

-- some entry of a list is above size 0
pub record SomeByte (x : DaqList) : Type 0 where
  pub odt : ℕ
  pub in_list : odt < x.odts
  pub entry : ℕ
  pub in_odt : entry < (x.odt odt).entries
  pub some : 1 ≤ ((x.odt odt).entry entry).size

-- its mode is set, it has some byte, its first ODT has at most 61 bytes, and each later one at most 63: a packet takes all of them
pub record Fit (x : DaqList) : Type 0 where
  pub mode : x.mode ≢ 0
  pub bytes : SomeByte x
  pub first : sizes_before (x.odt 0) (x.odt 0).entries ≤ 61
  pub later : (o : ℕ) → suc o < x.odts → sizes_before (x.odt (suc o)) (x.odt (suc o)).entries ≤ 63

-- after a power-up and whatever follows it
abbrev pub AllFit : AnySlave → Type 0
AllFit v =
    (h : Device) (start : ℕ) (ms : List Moment) → length h.state ≡ size
    → (l : ℕ) → ((session_of (lived v h (PowerOn start ∷ ms)).state).list l).started ≡ true → Fit ((session_of (lived v h (PowerOn start ∷ ms)).state).list l)
