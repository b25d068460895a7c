-- How a run goes for one list, whatever the others do: what the bound of a sample rests on.
use Rattle.std.specs.Prelude.{ℕ, suc, ◌≤◌, ◌<◌, Bool, true, false, List, [], ◌∷◌}

-- how a run of n counted slots proceeds for one of L lists, by the packets of it that wait, how many lists on its turn is (1 to L), and whether the
-- last frame was an answer; and which of its packets the run sends. An answer goes after none; or its own next packet goes; or another list's,
-- and its turn is nearer. What comes after its last packet, or after the last slot, does not matter.
pub data Proceeds (L : ℕ) : List (List ℕ) → ℕ → Bool → ℕ → List (List ℕ) → Type 0 where
  all_gone : {far n : ℕ} {last : Bool} {sent : List (List ℕ)} → Proceeds L [] far last n sent
  at_end : {q : List (List ℕ)} {far : ℕ} {last : Bool} {sent : List (List ℕ)} → Proceeds L q far last 0 sent
  answer_first : {q : List (List ℕ)} {far n : ℕ} {sent : List (List ℕ)} → Proceeds L q far true n sent → Proceeds L q far false (suc n) sent
  own_packet : {p : List ℕ} {q : List (List ℕ)} {far n : ℕ} {last : Bool} {sent : List (List ℕ)} → Proceeds L q L false n sent
      → Proceeds L (p ∷ q) far last (suc n) (p ∷ sent)
  other_list : {q : List (List ℕ)} {far n : ℕ} {last : Bool} {sent : List (List ℕ)} (nearer : ℕ) → 1 ≤ nearer → nearer < far → Proceeds L q nearer false n sent
      → Proceeds L q far last (suc n) sent
