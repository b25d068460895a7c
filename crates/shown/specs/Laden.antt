-- A state in which L lists run, its bytes written straight to where the layout has them. The demands are over every consistent state, so no command need
-- have made it.
use Rattle.std.specs.Prelude.{ℕ, zero, suc, ◌+◌, List, [], ◌∷◌, ◌++◌}
use Rattle.std.proofs.lemmas.List.Edits.{sets}
use Rattle.state.specs.Layout.{open_at, phase_at, odts_at, counts_at, mode_at, entries_at}
use Rattle.session.specs.PowerUp.{powered}

-- state s with bytes written, each time from a place on
abbrev pub writing : List (ℕ × List ℕ) → List ℕ → List ℕ
writing [] s = s
writing (w ∷ ws) s = writing ws (sets s w.0 w.1)

-- for each of L lists the same bytes
abbrev pub for_each : ℕ → List ℕ → List ℕ
for_each zero bs = []
for_each (suc L) bs = bs ++ for_each L bs

-- a session is open, with L lists, and the round begins with list 0. Each has two ODTs, the second with an entry, the first byte of the measured values;
-- its event is 0, it is not selected, and it was started
unfoldable pub laden : ℕ → List ℕ
laden L =
    writing
    ((open_at, 1 ∷ [])
    ∷ (phase_at, (L + 1) ∷ [])
    ∷ (odts_at, for_each L (2 ∷ []))
    ∷ (counts_at, for_each L (0 ∷ 1 ∷ []))
    ∷ (mode_at 0, for_each L (1 ∷ 0 ∷ 1 ∷ []))
    ∷ (entries_at 0, for_each L (0x30 ∷ 0 ∷ []))
    ∷ [])
    (powered 1)
