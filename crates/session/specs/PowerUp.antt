-- Power-up: it judges the size alone, writes every byte and reads none.
use Rattle.std.specs.Prelude.{ℕ, ◌≡◌, cond, List, eqb, length, replicate, Ok, Err}
use Rattle.state.specs.Layout.{mark, mark_at, size}
use Rattle.state.specs.Bytes.{put32}
use Rattle.state.specs.Generator.{start_of}
use Rattle.state.specs.State.{set_generator}
use Rattle.words.specs.Values.{PoweredUp, no_state}

-- all else is 0
unfoldable pub powered : ℕ → List ℕ
powered start = set_generator (put32 (replicate size 0) mark_at mark) (start_of start)

pub record Power : Type 0 where
  pub powered_up : PoweredUp
  pub state : List ℕ

unfoldable pub power_up_of : List ℕ → ℕ → Power
power_up_of s start =
    cond (eqb (length s) size)
    (record { powered_up = Ok tt; state = powered start })
    (record { powered_up = Err no_state; state = s })

-- a function that answers r and leaves s does what p says
pub record Powers (p : Power) (r : PoweredUp) (s : List ℕ) : Type 0 where
  pub result : r ≡ p.powered_up
  pub state : s ≡ p.state
