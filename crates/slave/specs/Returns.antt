-- What each C function returns and leaves: what the session's call comes to, as one number.
use Rattle.std.specs.Prelude.{ℕ, ◌+◌, ◌*◌, ◌≡◌, List}
use Rattle.words.specs.Number.{received_c, evented_c, slotted_c, powered_up_c}
use Rattle.session.specs.Receive.{Step}
use Rattle.session.specs.Slice.{Slice}
use Rattle.lists.specs.Event.{Happened}
use Rattle.lists.specs.Slot.{Slot}
use Rattle.session.specs.PowerUp.{Power}

pub record PowersUpC (p : Power) (r : ℕ) (s : List ℕ) : Type 0 where
  pub result : r ≡ powered_up_c p.powered_up
  pub state : s ≡ p.state

pub record ReceivesC (o : Step) (r : ℕ) (s cal : List ℕ) : Type 0 where
  pub result : r ≡ received_c o.received
  pub state : s ≡ o.state
  pub memory : cal ≡ o.cal

-- the bytes taken stand above the number's 32 bits
pub record TakesC (o : Slice) (r : ℕ) (s cal : List ℕ) : Type 0 where
  pub result : r ≡ received_c o.received + 4294967296 * o.taken
  pub state : s ≡ o.state
  pub memory : cal ≡ o.cal

pub record HappensC (h : Happened) (r : ℕ) (s : List ℕ) : Type 0 where
  pub result : r ≡ evented_c h.evented
  pub state : s ≡ h.state

pub record SendsC (o : Slot) (r : ℕ) (s out : List ℕ) : Type 0 where
  pub result : r ≡ slotted_c o.slotted
  pub state : s ≡ o.state
  pub bytes : out ≡ o.out
