-- An event.
use Rattle.std.specs.Prelude.{◌≡◌, ℕ, zero, suc, ◌+◌, cond, List, ◌∷◌, length, nat_le, Err}
use Rattle.std.proofs.lemmas.List.Edits.{sets}
use Rattle.state.specs.Layout.{events, sample_at}
use Rattle.state.specs.Pool.{list_count, first_odt, odt_count}
use Rattle.state.specs.State.{consistent}
use Rattle.model.specs.Calls.{sampling_in, contents_in}
use Rattle.model.specs.Whole.{is_sampled, is_missed}
use Rattle.model.specs.View.{odt_of, session_of}
use Rattle.model.specs.declared.Sampling.{Sampling}
use Rattle.model.specs.declared.Sampling.TheVariants.{Idle, Sampled, Missed}
use Rattle.words.specs.Values.{Evented, event_done}
use Rattle.words.specs.declared.EventRefusal.TheVariants.{BadEvent, NoState}

-- what an event is to list l
abbrev pub sampling_of : List ℕ → ℕ → ℕ → Sampling
sampling_of s l event = sampling_in (session_of s) l event

-- the packet of the list's ODT o, without its number, as the memories are now; its first ODT is k
abbrev pub contents_of : List ℕ → ℕ → ℕ → ℕ → List ℕ → List ℕ → List ℕ
contents_of s k o clock cal meas = contents_in o clock cal meas (odt_of s (k + o))

-- it is stored after its length
unfoldable pub stored : List ℕ → ℕ → List ℕ → List ℕ
stored s k bs = sets s (sample_at k) (length bs ∷ bs)

-- of the list's n ODTs, of which k is the first, each is captured whole
unfoldable pub captured_odts : List ℕ → ℕ → ℕ → List ℕ → List ℕ → ℕ → List ℕ
captured_odts s k clock cal meas zero = s
captured_odts s k clock cal meas (suc n) = stored (captured_odts s k clock cal meas n) (k + n) (contents_of s k n clock cal meas)

abbrev pub captured : List ℕ → ℕ → ℕ → List ℕ → List ℕ → List ℕ
captured s l clock cal meas = captured_odts s (first_odt s l) clock cal meas (odt_count s l)

-- the state, and how many lists sampled and missed
pub record Tally : Type 0 where
  pub state : List ℕ
  pub sampled : ℕ
  pub missed : ℕ

-- what an event leaves of the state, by what it is to list l, and whether it counts as sampled or as missed
unfoldable pub sampled_state : Sampling → List ℕ → ℕ → ℕ → List ℕ → List ℕ → List ℕ
sampled_state Idle s l clock cal meas = s
sampled_state Sampled s l clock cal meas = captured s l clock cal meas
sampled_state Missed s l clock cal meas = s

abbrev pub sampled_by : Sampling → ℕ
sampled_by c = cond (is_sampled c) 1 0

abbrev pub missed_by : Sampling → ℕ
missed_by c = cond (is_missed c) 1 0

abbrev pub counted : Sampling → Tally → ℕ → ℕ → List ℕ → List ℕ → Tally
counted c t l clock cal meas =
    record { state = sampled_state c t.state l clock cal meas; sampled = t.sampled + sampled_by c; missed = t.missed + missed_by c }

-- the first n lists
unfoldable pub tally : List ℕ → ℕ → ℕ → List ℕ → List ℕ → ℕ → Tally
tally s event clock cal meas zero = record { state = s; sampled = 0; missed = 0 }
tally s event clock cal meas (suc n) =
    counted (sampling_of (tally s event clock cal meas n).state n event) (tally s event clock cal meas n) n clock cal meas

-- a function that leaves s and counts so many does what t says
pub record Counts (t : Tally) (s : List ℕ) (n m : ℕ) : Type 0 where
  pub state : s ≡ t.state
  pub sampled : n ≡ t.sampled
  pub missed : m ≡ t.missed

pub record Happened : Type 0 where
  pub evented : Evented
  pub state : List ℕ

abbrev pub happened : Tally → Happened
happened t = record { evented = event_done t.sampled t.missed; state = t.state }

unfoldable pub event_of : List ℕ → List ℕ → List ℕ → ℕ → ℕ → Happened
event_of s cal meas event clock =
    cond (consistent s)
    (cond (nat_le events event) (record { evented = Err BadEvent; state = s })
    (happened (tally s event clock cal meas (list_count s))))
    (record { evented = Err NoState; state = s })

-- a function that answers e and leaves s does what h says
pub record Happens (h : Happened) (e : Evented) (s : List ℕ) : Type 0 where
  pub result : e ≡ h.evented
  pub state : s ≡ h.state
