-- Stuffing: how bytes stand on the wire. It knows nothing of messages.
use Rattle.std.specs.Prelude.{ℕ, cond, List, [], ◌∷◌, ◌++◌, ◌==◌}

abbrev pub SYNC : ℕ
SYNC = 0x9A

abbrev pub ESC : ℕ
ESC = 0x9B

-- inside, SYNC becomes ESC 01 and ESC becomes ESC 00
abbrev pub stuff_byte : ℕ → List ℕ
stuff_byte b = cond (b == SYNC) (ESC ∷ 1 ∷ []) (cond (b == ESC) (ESC ∷ 0 ∷ []) (b ∷ []))

abbrev pub stuff : List ℕ → List ℕ
stuff [] = []
stuff (b ∷ bs) = stuff_byte b ++ stuff bs

-- on the wire one SYNC stands first
abbrev pub on_wire : List ℕ → List ℕ
on_wire bs = SYNC ∷ stuff bs
