-- What a slot sends: the packet that it lends to the line, that it is of an ODT that there is, and its number. Assumes nothing.
use Rattle.std.proofs.Common.{◌≡◌, ℕ, zero, suc, ◌+◌, ◌-◌, ◌<◌, ◌≤◌, Bool, true, false, cond, ltb, List, ◌∷◌, length, take, drop, set, sym, refl, subst, add-one, arith, length-set, drop-cons, get_or-set_same, drop-set-lt, Option, Some, None}
use Rattle.std.specs.Option.{is_some, option_or, option_map}
use Rattle.std.specs.List.{find, range_with_len}
use Rattle.state.specs.Layout.{size}
use Rattle.state.specs.Lists.{stored_length}
use Rattle.line.proofs.Laws.{false_true, cond_ind}
use Rattle.state.specs.Pool.{list_count, first_odt, odt_count}
use Rattle.state.specs.Bytes.{block}
use Rattle.model.specs.Model.{DaqList, runs_in, has_packet}
use Rattle.model.specs.Calls.{first_packet, packet_in, or_else, turn_in}
use Rattle.model.specs.View.{session_of, view_of}
use Rattle.model.proofs.Shown.{odts_at_lem, packet_at_lem}
use Rattle.model.specs.Turn.{Turn}
use Rattle.lists.specs.Slot.{numbered_in}
use Rattle.lists.proofs.Round.{turn_holds}
use Rattle.model.specs.declared.Sender.TheVariants.{Answer, Packet}

-- a number put before n bytes
pub numbered : (s : List ℕ) (at k n : ℕ) → at < length s → take (suc n) (drop at (set s at k)) ≡ k ∷ block s (at + 1) n
numbered s at k n h =
    let i : at < length (set s at k) = rw length-set h in
    rw (drop-cons (set s at k) at 0 i, get_or-set_same s at k 0 h, drop-set-lt (suc at) s at k (omega arith), add-one)

-- a packet is of an ODT that there is
abbrev pub Within : List ℕ → Turn → Type 0
Within s None = Unit
Within s (Some Answer) = Unit
Within s (Some (Packet l o)) = (l < list_count s) × (o < odt_count s l)

first_within : (s : List ℕ) (l : ℕ) (x : DaqList) (o n : ℕ) → l < list_count s → o + n ≤ odt_count s l → Within s (first_packet l x o n)
unfolding first_packet
first_within s l x o zero p h = tt
first_within s l x o (suc n) p h = cond_ind (Within s) (has_packet (x.odt o)) (λ _. (p, omega arith)) (λ _. first_within s l x (o + 1) n p (omega arith))

packet_within : (s : List ℕ) (l : ℕ) → l < list_count s → Within s (packet_in (session_of s) l)
unfolding packet_in
packet_within s l h =
    cond_ind (Within s) (runs_in (session_of s) l) (λ _. first_within s l ((session_of s).list l) 0 ((session_of s).list l).odts h (rw (odts_at_lem s l h) (omega arith))) (λ _. tt)

pub turn_within : (s : List ℕ) → Within s (turn_in (view_of s))
unfolding view_of session_of
turn_within s = turn_holds (Within s) (view_of s) tt (λ l h. packet_within s l h) (λ _. tt)

-- ---- turns with the ODT's number
pub numbered_or : (s : List ℕ) (t u : Turn) → numbered_in s (or_else t u) ≡ option_or (numbered_in s t) (numbered_in s u)
numbered_or s None u = refl
numbered_or s (Some Answer) u = refl
numbered_or s (Some (Packet l o)) u = refl

pub numbered_answer : (s : List ℕ) (b : Bool) → numbered_in s (cond b (Some Answer) None) ≡ cond b (Some Answer) None
numbered_answer s true = refl
numbered_answer s false = refl

-- a turn that is somebody's, and one that is nobody's
pub somebody : (s : List ℕ) (t u : Turn) → is_some (numbered_in s t) ≡ true → numbered_in s (or_else t u) ≡ numbered_in s t
somebody s None u e = absurd (false_true e)
somebody s (Some Answer) u e = refl
somebody s (Some (Packet l o)) u e = refl

pub nobody : (s : List ℕ) (t : Turn) → is_some (numbered_in s t) ≡ false → t ≡ None
nobody s None e = refl
nobody s (Some Answer) e = absurd (false_true (sym e))
nobody s (Some (Packet l o)) e = absurd (false_true (sym e))

-- the first packet is that of the first of the list's ODTs that has one, counted within the list
module _ (s : List ℕ) (l : ℕ) (there : l < list_count s) (whole : length s ≡ size) where
  pub first_numbered : (o n : ℕ) → o + n ≤ odt_count s l
      → numbered_in s (first_packet l ((session_of s).list l) o n) ≡ option_map (λ i. Packet l (first_odt s l + i)) (find (λ i. ltb 0 (stored_length s (first_odt s l + i))) (range_with_len o n))
  unfolding first_packet
  first_numbered o zero h = refl
  first_numbered o (suc n) h =
      rw (packet_at_lem s l there o whole (omega arith))
      (by (ltb 0 (stored_length s (first_odt s l + o))) _ _ (first_numbered (o + 1) n (omega arith)))
    where
      by : (b : Bool) (t : Turn) (r : Option ℕ) → numbered_in s t ≡ option_map (λ i. Packet l (first_odt s l + i)) r
          → numbered_in s (cond b (Some (Packet l o)) t) ≡ option_map (λ i. Packet l (first_odt s l + i)) (cond b (Some o) r)
      by true t r e = refl
      by false t r e = e

-- they come from turns without
pub record Numbered (s : List ℕ) (t : Turn) (l k : ℕ) : Type 0 where
  pub turn : t ≡ Some (Packet l (k - first_odt s l))
  pub there : l < list_count s
  pub from : first_odt s l ≤ k
  pub few : k < first_odt s l + odt_count s l

abbrev pub Back : List ℕ → Turn → Turn → Type 0
Back s t None = t ≡ None
Back s t (Some Answer) = t ≡ Some Answer
Back s t (Some (Packet l k)) = Numbered s t l k

back : (s : List ℕ) (t : Turn) → Within s t → Back s t (numbered_in s t)
back s None w = refl
back s (Some Answer) w = refl
back s (Some (Packet l o)) w =
    let e : first_odt s l + o - first_odt s l ≡ o = omega arith in
    record { turn = rw e; there = w.0; from = omega arith; few = omega (arith, w.1) }

pub turn_back : (s : List ℕ) (t : Turn) → t ≡ numbered_in s (turn_in (view_of s)) → Back s (turn_in (view_of s)) t
turn_back s t e = subst (Back s (turn_in (view_of s))) (sym e) (back s (turn_in (view_of s)) (turn_within s))
