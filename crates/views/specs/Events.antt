-- What an event is to each list, and what it leaves, in document 01's words: each running list of that event takes a sample at once, unless it still has
-- unsent packets: then the old stays and this one is missed. The call tells how many lists sampled and how many missed.
use Rattle.std.specs.Prelude.{ℕ, ◌+◌, ◌≡◌, Bool, true, false, cond, not, ◌&&◌, List, eqb, ltb, length}
use Rattle.words.specs.Values.{Evented, event_done}
use Rattle.model.specs.Model.{DaqList, Session}
use Rattle.views.specs.Words.{any, total, running}
use Rattle.views.specs.Commands.{TheLists, AllBut}
use Rattle.views.specs.Locked.{SettingsKept}
use Rattle.views.specs.Samples.{CapturedList}

-- list l is there, it runs, and its mode names that event
abbrev pub on_event : Session → ℕ → ℕ → Bool
on_event c number l = ltb l c.lists && (running c l && eqb (c.list l).mode (number + 1))

-- a packet of some ODT of it is still unsent
abbrev pub still_unsent : DaqList → Bool
still_unsent x = any x.odts (λ o. ltb 0 (length (x.odt o).store))

abbrev pub takes_sample : Session → ℕ → ℕ → Bool
takes_sample c number l = on_event c number l && not (still_unsent (c.list l))

abbrev pub misses_sample : Session → ℕ → ℕ → Bool
misses_sample c number l = on_event c number l && still_unsent (c.list l)

-- how many of the lists pass a test
abbrev pub how_many_of : Session → (ℕ → Bool) → ℕ
how_many_of c test = total c.lists (λ l. cond (test l) 1 0)

-- an event that is 0 or 1, in session c, tells e and leaves d
pub record EventLeaves (number clock : ℕ) (cal meas : List ℕ) (c d : Session) (e : Evented) : Type 0 where
  pub told : e ≡ event_done (how_many_of c (takes_sample c number)) (how_many_of c (misses_sample c number))
  pub taken : (l : ℕ) → takes_sample c number l ≡ true → CapturedList clock cal meas (c.list l) (d.list l)
  pub old : (l : ℕ) → takes_sample c number l ≡ false → d.list l ≡ c.list l
  pub settings : SettingsKept c d
  pub rest : AllBut TheLists c d
