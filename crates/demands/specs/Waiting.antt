-- What waits to be sent, what a frame carries, and what a sample is.
use Rattle.std.specs.Prelude.{ℕ, ◌+◌, ◌≡◌, Bool, false, cond, List, [], ◌∷◌, ltb, leb, length, get_or, take, drop}
use Rattle.line.specs.Wire.{unstuff}
use Rattle.state.specs.Bytes.{block}
use Rattle.model.specs.Model.{Session, first_of, has_answer, waiting_in}
use Rattle.model.specs.Calls.{sample_in}
use Rattle.model.specs.View.{session_of, view_of}

-- t is s, but for the bytes from lo up to hi
pub record SameOutside (lo hi : ℕ) (s t : List ℕ) : Type 0 where
  pub long : length t ≡ length s
  pub front : take lo t ≡ take lo s
  pub back : drop hi t ≡ drop hi s

-- the waiting answer, if one waits
abbrev pub waiting_answer : List ℕ → List (List ℕ)
waiting_answer s = cond (has_answer (view_of s)) ((view_of s).answer ∷ []) []

-- the packets of list l that wait, in the order in which they leave
abbrev pub waiting_of : List ℕ → ℕ → List (List ℕ)
waiting_of s l = waiting_in (session_of s) l

-- ---- a sample of list l, as the memories are now
abbrev pub sample_of : List ℕ → ℕ → ℕ → List ℕ → List ℕ → List (List ℕ)
sample_of s l clock cal meas = sample_in (session_of s) l clock cal meas

-- ---- what a frame carries: the packet of the message that it is on the wire
abbrev pub packet_inside : List ℕ → List ℕ
packet_inside m = block m 2 (get_or m 0 0)

abbrev pub packet_read : List ℕ → List ℕ
packet_read f = packet_inside (unstuff (drop 1 f))

-- an answer begins FF or FE, a list's packet with its ODT's number
abbrev pub is_answer : List ℕ → Bool
is_answer p = leb 0xFE (get_or p 0 0)

-- one of list l's, as session c numbers them
abbrev pub is_of : Session → ℕ → List ℕ → Bool
is_of c l p = cond (is_answer p) false (cond (ltb (get_or p 0 0) (first_of c l)) false (ltb (get_or p 0 0) (first_of c l + (c.list l).odts)))

-- those of the frames' packets that pass a test
abbrev pub carried : (List ℕ → Bool) → List (List ℕ) → List (List ℕ)
carried test [] = []
carried test (f ∷ fs) = cond (test (packet_read f)) (packet_read f ∷ carried test fs) (carried test fs)

abbrev pub answers_in : List (List ℕ) → List (List ℕ)
answers_in fs = carried is_answer fs

abbrev pub packets_in : Session → ℕ → List (List ℕ) → List (List ℕ)
packets_in c l fs = carried (is_of c l) fs
