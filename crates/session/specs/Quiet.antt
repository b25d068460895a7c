-- Bytes that end nothing, for the functions that handle them first. None of this is promised to anyone outside.
use Rattle.std.specs.Prelude.{ℕ, ◌+◌, ◌≤◌, ◌<◌, ◌≡◌, ◌≢◌, Bool, true, false, cond, List, ltb, get_or, set, drop, length, Option, Some, None, Ok, Err}
use Rattle.line.specs.Reader.{begun_of}
use Rattle.line.specs.Values.{Outcome}
use Rattle.state.specs.Layout.{packet_most, place_at, count_at, message_at, size}
use Rattle.session.specs.Receive.{fed_of, read_on}
use Rattle.session.specs.Slice.{Slice, taking, bytes_of}
use Rattle.session.specs.declared.slice.At.{At}
use Rattle.line.specs.declared.Fault.TheVariants.{BadLength, BadEscape, BadChecksum, CutOff, ShortBuffer}

-- byte b ends nothing: the reader reads on, and leaves t
pub record ReadsOn (s : List ℕ) (b : ℕ) (t : List ℕ) : Type 0 where
  pub nothing : (fed_of s b).taken.outcome ≡ Ok None
  pub state : t ≡ read_on s (fed_of s b)

-- a byte that was taken has ended nothing; else nothing is changed
abbrev pub Quiet : List ℕ → ℕ → Bool → List ℕ → Type 0
Quiet s b true t = ReadsOn s b t
Quiet s b false t = t ≡ s

abbrev pub ends : Outcome → Bool
ends (Ok None) = false
ends (Ok (Some good)) = true
ends (Err BadLength) = true
ends (Err BadEscape) = true
ends (Err BadChecksum) = true
ends (Err CutOff) = true
ends (Err ShortBuffer) = true

-- s with the two bytes of the reader's place
abbrev pub placed : List ℕ → ℕ → ℕ → List ℕ
placed s tag k = set (set s place_at tag) count_at k

abbrev pub len_of : List ℕ → ℕ
len_of s = get_or s message_at 0

-- the two bytes are those of a place that a message can have
pub record Stands (s : List ℕ) (tag k : ℕ) : Type 0 where
  pub few : tag ≤ 2
  pub begun : tag ≢ 0 → begun_of k (len_of s) ≡ true

-- the tag as it reads: a place that no message can have is outside
abbrev pub reads_as : List ℕ → ℕ → ℕ → ℕ
reads_as s tag k = cond (ltb 2 tag) 0 (cond (begun_of k (len_of s)) tag 0)

-- byte b, with the reader's place beside s: it ends something and is left, or the reader reads on to the place at
abbrev pub Steps : List ℕ → ℕ → ℕ → ℕ → Option At → List ℕ → Type 0
Steps s tag k b None t = (t ≡ s) × (ends (fed_of (placed s tag k) b).taken.outcome ≡ true)
Steps s tag k b (Some at) t = ReadsOn (placed s tag k) b (placed t at.tag at.k) × Stands t at.tag at.k

-- what a slice comes to from its byte i on, with i bytes taken before
abbrev pub from : List ℕ → List ℕ → ℕ → List ℕ → List ℕ → Slice
from bs s i cal meas =
    taking (bytes_of s cal meas (drop i bs)).received (i + (bytes_of s cal meas (drop i bs)).taken)
    (bytes_of s cal meas (drop i bs)).state (bytes_of s cal meas (drop i bs)).cal

-- at byte i in s it comes to the same as at byte j in t
abbrev pub Leads : List ℕ → List ℕ → ℕ → List ℕ → ℕ → Type 0
Leads bs s i t j = (cal meas : List ℕ) → from bs s i cal meas ≡ from bs t j cal meas

-- so many bytes of a message fit before its last, from byte k on
pub record Fits (s : List ℕ) (tag k n : ℕ) : Type 0 where
  pub inside : tag ≡ 1
  pub begun : 1 ≤ k
  pub some : 1 ≤ len_of s
  pub few : len_of s ≤ packet_most
  pub short : k + n ≤ len_of s + 2

-- r bytes from byte i went into the message at its byte k
pub record Runs (bs s : List ℕ) (k i r : ℕ) (t : List ℕ) : Type 0 where
  pub none : r ≡ 0 → t ≡ s
  pub len : len_of t ≡ len_of s
  pub leads : Leads bs (placed s 1 k) i (placed t 1 (k + r)) (i + r)

-- from byte i to byte j the place stays as it is
pub record Skips (bs : List ℕ) (tag i j : ℕ) : Type 0 where
  pub begun : i ≤ j
  pub most : j ≤ length bs
  pub leads : (s : List ℕ) (k : ℕ) → length s ≡ size → Leads bs (placed s tag k) i (placed s tag k) j

-- r bytes end nothing and lead to t, and the next one, if there is one, ends something
pub record Passes (bs s : List ℕ) (r : ℕ) (t : List ℕ) : Type 0 where
  pub most : r ≤ length bs
  pub leads : Leads bs s 0 t r
  pub next : r < length bs → ends (fed_of t (get_or bs r 0)).taken.outcome ≡ true
