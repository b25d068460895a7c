-- What was written is read back, at its place and nowhere else.
use Rattle.std.specs.Prelude.{ℕ, ◌≤◌, ◌+◌, ◌≡◌, ◌⊎◌, true, List, [], ◌∷◌, ◌++◌, length, take, drop, Some}
use Rattle.state.specs.Layout.{addressable}
use Rattle.state.specs.State.{consistent}
use Rattle.model.specs.Model.{byte, Session}
use Rattle.model.specs.View.{session_of, view_of}
use Rattle.demands.specs.Slave.{AnySlave}
use Rattle.demands.specs.Life.{Device, Moment, lived, Hears, after_moment, OfBytes}
use Rattle.demands.specs.Heard.{Commands, deed_at}
use Rattle.demands.specs.Waiting.{SameOutside}
use Rattle.state.specs.Bytes.{block, u32_at}
use Rattle.state.specs.Memory.{pick}
use Rattle.session.specs.Receive.{Step}
use Rattle.words.specs.declared.Extension.TheVariants.{Calibration as CalibrationMemory}
use Rattle.words.specs.declared.Mta.TheVariants.{At}
use Rattle.model.specs.declared.Deed.TheVariants.{Download}
use Rattle.model.specs.Judge.{extension_from}
use Rattle.demands.specs.Runs.{Call, run}
use Rattle.demands.specs.Between.{changes_mta, Without}

-- a step on the memory's first bytes, with its other bytes put back
abbrev pub put_back : Step → List ℕ → Step
put_back o rest = record { received = o.received; state = o.state; cal = o.cal ++ rest }

-- the commands that write: DOWNLOAD, to where the MTA is, and SHORT_DOWNLOAD, to its own place; and from which byte on the data lies in the packet
pub data WritesTo (p : List ℕ) (c : Session) (a : ℕ) : ℕ → Type 0 where
  by_download : byte p 0 ≡ 0xF0 → c.mta ≡ At CalibrationMemory a → WritesTo p c a 2
  by_short_download : byte p 0 ≡ 0xED → byte p 3 ≡ 0 → u32_at p 4 ≡ a → WritesTo p c a 8

-- those that read, UPLOAD and SHORT_UPLOAD likewise
pub data ReadsFrom (p : List ℕ) (c : Session) (a : ℕ) : Type 0 where
  by_upload : byte p 0 ≡ 0xF5 → c.mta ≡ At CalibrationMemory a → ReadsFrom p c a
  by_short_upload : byte p 0 ≡ 0xF4 → 8 ≤ length p → byte p 3 ≡ 0 → u32_at p 4 ≡ a → ReadsFrom p c a

-- DOWNLOAD or SHORT_DOWNLOAD of n bytes
pub record Downloads (s : List ℕ) (b : ℕ) (p : List ℕ) (from a n : ℕ) : Type 0 where
  pub command : Commands s b p
  pub place : WritesTo p (session_of s) a from
  pub count : byte p 1 ≡ n

-- UPLOAD or SHORT_UPLOAD of n bytes
pub record Uploads (s : List ℕ) (b : ℕ) (p : List ℕ) (a n : ℕ) : Type 0 where
  pub command : Commands s b p
  pub place : ReadsFrom p (session_of s) a
  pub count : byte p 1 ≡ n

-- byte b ends a command with that code, which is answered FF and these bytes
pub record Brings (v : AnySlave) (number : ℕ) (s cal meas : List ℕ) (b : ℕ) (p bs : List ℕ) : Type 0 where
  pub command : Commands s b p
  pub code : byte p 0 ≡ number
  pub answer : (view_of (v.receive s cal meas b).state).answer ≡ 0xFF ∷ bs

-- it ends no DOWNLOAD or SHORT_DOWNLOAD that writes one of the n bytes from a
abbrev pub Spares : ℕ → ℕ → Device → List ℕ → ℕ → Type 0
Spares a n h meas b = (from at many : ℕ) → deed_at h.state h.cal meas b ≡ Some (Download from at many) → (at + many ≤ a) ⊎ (a + n ≤ at)

pub record Memory (v : AnySlave) : Type 0 where
  -- only the first 4,096 bytes of a memory matter, and the rest stays
  pub cut : (s cal meas : List ℕ) (b : ℕ) → v.receive s cal meas b ≡ put_back (v.receive s (take addressable cal) (take addressable meas) b) (drop addressable cal)
  pub cut_event : (s cal meas : List ℕ) (event clock : ℕ) → v.event s cal meas event clock ≡ v.event s (take addressable cal) (take addressable meas) event clock
  -- what DOWNLOAD or SHORT_DOWNLOAD wrote, UPLOAD or SHORT_UPLOAD at the same place gives back; other bytes stay
  pub gives_back : (s t cal meas meas' : List ℕ) (b c : ℕ) (p q : List ℕ) (from a n : ℕ) → consistent s ≡ true → consistent t ≡ true
      → Downloads s b p from a n → (view_of (v.receive s cal meas b).state).answer ≡ 0xFF ∷ [] → Uploads t c q a n
      → ((view_of (v.receive t (v.receive s cal meas b).cal meas' c).state).answer ≡ 0xFF ∷ block p from n) × SameOutside a (a + n) cal (v.receive s cal meas b).cal
  -- so do these any time later, if nothing but the slave writes that memory and no DOWNLOAD or SHORT_DOWNLOAD has written there since, whatever calls
  -- and power-ups came
  pub gives_back_later : (h : Device) (meas : List ℕ) (b : ℕ) (p : List ℕ) (from a n : ℕ) (between : List Moment) (meas' : List ℕ) (c : ℕ) (q : List ℕ) → consistent h.state ≡ true
      → Downloads h.state b p from a n → (view_of (after_moment v h (Hears meas b)).state).answer ≡ 0xFF ∷ [] → OfBytes (Spares a n) v (after_moment v h (Hears meas b)) between
      → Uploads (lived v (after_moment v h (Hears meas b)) between).state c q a n
      → (view_of (after_moment v (lived v (after_moment v h (Hears meas b)) between) (Hears meas' c)).state).answer ≡ 0xFF ∷ block p from n
  -- UPLOAD after SHORT_UPLOAD, whenever it comes and whatever came between that does not change the MTA, goes on there: both done and lent the same
  -- memories, their bytes together are the block of both lengths
  pub goes_on : (s cal meas : List ℕ) (b : ℕ) (p first : List ℕ) (between : List Call) (c : ℕ) (q second : List ℕ) → consistent s ≡ true
      → Brings v 0xF4 s cal meas b p first → Without changes_mta v (v.receive s cal meas b).state between
      → Brings v 0xF5 (run v (v.receive s cal meas b).state between) cal meas c q second
      → first ++ second ≡ block (pick (extension_from (byte p 3)) cal meas) (u32_at p 4) (byte p 1 + byte q 1)
