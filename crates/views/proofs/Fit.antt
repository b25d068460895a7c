-- What a deed's numbers fit in: what is judged of a packet and a state of bytes fits. Assumes nothing.
use Rattle.std.proofs.Common.{◌≡◌, ℕ, ◌+◌, ◌*◌, ◌^◌, ◌<◌, ◌≤◌, true, false, eqb, ◌≢◌, List, arith}
use Rattle.model.specs.Judge.{seen_in, judge_in, extension_from, judge}
use Rattle.model.specs.View.{session_of}
use Rattle.line.proofs.Laws.{cond_ind}
use Rattle.state.specs.Layout.{entry_most, addressable, generator_at}
use Rattle.state.specs.Bytes.{u16_at, u32_at}
use Rattle.state.specs.Generator.{next_of, start_of, stays_shut}
use Rattle.state.specs.Memory.{pick, inside_of}
use Rattle.state.specs.State.{generator_of, wrong_keys_of}
use Rattle.state.proofs.Inside.{inside_le}
use Rattle.state.proofs.Xorshift.{next_fits, next_some, generator_some}
use Rattle.words.specs.Command.{command_of}
use Rattle.words.specs.declared.Command.{Command}
use Rattle.model.specs.Seen.{Packet, Seen, numbers_of}
use Rattle.model.specs.declared.Deed.{Deed}
use Rattle.model.specs.declared.Deed.TheVariants.{Refuse, RefuseSize, WrongKey, Connect, Disconnect, Status, Synch, NoSeed, GiveSeed, Unlock, SetMta, Upload, Checksum, Download, ClearList, SetPointer, ClearEntry, WriteEntry, SetMode, Stop, Start, KeepRunning, Select, StopAll, StartSelected, StopSelected, ProcessorInfo, ResolutionInfo, FreeLists, AllocLists, AllocOdts, AllocEntries}
use Rattle.look.specs.Look.{judge_of}
use Rattle.model.specs.Model.{byte, Bytes}
use Rattle.views.proofs.Verdict.{Verdict, refused, connects, disconnects, tells, synchs, no_seed_lem, gives, unlocks, wrong, sets, uploads, shorts, no_size_lem, sums, downloads, short_downloads, clears, points, zeroes, writes, modes, stops, starts, goes_on_lem, selects, stops_all_lem, starts_all, stops_some, processor, resolution, frees, allocs_lists, allocs_odts, allocs_entries, found}

-- a seed, an address and an entry fit in the bytes that they are stored in, and a seed is given while fewer than three keys were wrong; g is the
-- generator, w the count of wrong keys
abbrev pub Fit : Deed → ℕ → ℕ → Type 0
Fit (Refuse r) g w = Unit
Fit RefuseSize g w = Unit
Fit WrongKey g w = Unit
Fit Connect g w = Unit
Fit Disconnect g w = Unit
Fit Status g w = Unit
Fit Synch g w = Unit
Fit NoSeed g w = Unit
Fit (GiveSeed r) g w = (next_of g ≢ 0) × (next_of g < 2 ^ 32) × (stays_shut w ≡ false)
Fit (Unlock r) g w = Unit
Fit (SetMta e a) g w = a < 2 ^ 32
Fit (Upload e a n) g w = Unit
Fit (Checksum e a n) g w = Unit
Fit (Download from a n) g w = Unit
Fit (ClearList l) g w = Unit
Fit (SetPointer l o e) g w = Unit
Fit (ClearEntry l o e) g w = Unit
Fit (WriteEntry l o e n x a) g w = (n ≤ entry_most) × (a < addressable)
Fit (SetMode l event) g w = Unit
Fit (Stop l) g w = Unit
Fit (Start l) g w = Unit
Fit (KeepRunning l) g w = Unit
Fit (Select l) g w = Unit
Fit StopAll g w = Unit
Fit StartSelected g w = Unit
Fit StopSelected g w = Unit
Fit ProcessorInfo g w = Unit
Fit ResolutionInfo g w = Unit
Fit FreeLists g w = Unit
Fit (AllocLists n) g w = Unit
Fit (AllocOdts l n) g w = Unit
Fit (AllocEntries l o n) g w = Unit

-- ---- numbers in bytes
four_bytes : (a b c d : ℕ) → a < 256 → b < 256 → c < 256 → d < 256 → a + 256 * b + 65536 * c + 16777216 * d < 2 ^ 32
four_bytes a b c d p q r s = omega arith

number_fits : (s : List ℕ) (i : ℕ) → Bytes s → u32_at s i < 2 ^ 32
unfolding u32_at
number_fits s i w = four_bytes _ _ _ _ (w i) (w (i + 1)) (w (i + 2)) (w (i + 3))

pub generator_fits : (s : List ℕ) → Bytes s → generator_of s < 2 ^ 32
unfolding generator_of start_of
generator_fits s w = cond_ind (λ (n : ℕ). n < 2 ^ 32) (eqb (u32_at s generator_at) 0) (λ _. omega arith) (λ _. number_fits s generator_at w)

pub entry_low : (a n len : ℕ) → n ≢ 0 → inside_of a n len ≡ true → a < addressable
entry_low a n len some e = omega (arith, some, inside_le a n len e)

-- ---- command by command
-- ---- what is judged fits
module _ (p : Packet) (v : Seen) (nc nm : ℕ) (low : p.d4 < 2 ^ 32) (few : v.generator < 2 ^ 32) (some : v.generator ≢ 0) where
  by_verdict : (c : Command) (d : Deed) → Verdict p v nc nm c d → Fit d v.generator v.wrong_keys
  by_verdict _ _ (refused c r) = tt
  by_verdict _ _ connects = tt
  by_verdict _ _ disconnects = tt
  by_verdict _ _ tells = tt
  by_verdict _ _ synchs = tt
  by_verdict _ _ no_seed_lem = tt
  by_verdict _ _ (gives r still) = (next_some v.generator few some, next_fits v.generator few, still)
  by_verdict _ _ (unlocks r w k) = tt
  by_verdict _ _ (wrong r w k) = tt
  by_verdict _ _ sets = low
  by_verdict _ _ (uploads x a there inside) = tt
  by_verdict _ _ (shorts inside) = tt
  by_verdict _ _ no_size_lem = tt
  by_verdict _ _ (sums x a there inside) = tt
  by_verdict _ _ (downloads a free there long inside) = tt
  by_verdict _ _ (short_downloads free named long inside) = tt
  by_verdict _ _ (clears free list still) = tt
  by_verdict _ _ (points free list odt entry) = tt
  by_verdict _ _ (zeroes l o e free w) = tt
  by_verdict _ _ (writes l o e free w some inside) = (inside.0, entry_low p.d4 p.b2 (pick (extension_from p.b3) nc nm) some inside.1)
  by_verdict _ _ (modes free list event still) = tt
  by_verdict _ _ (stops free list) = tt
  by_verdict _ _ (starts free list mode still fit) = tt
  by_verdict _ _ (goes_on_lem free list) = tt
  by_verdict _ _ (selects free list) = tt
  by_verdict _ _ (stops_all_lem free) = tt
  by_verdict _ _ (starts_all free mode ready) = tt
  by_verdict _ _ (stops_some free) = tt
  by_verdict _ _ processor = tt
  by_verdict _ _ resolution = tt
  by_verdict _ _ (frees free) = tt
  by_verdict _ _ (allocs_lists free freed none some few) = tt
  by_verdict _ _ (allocs_odts free list none unused still some room) = tt
  by_verdict _ _ (allocs_entries free odt none still some room) = tt

  judge_fits : Fit (judge p v nc nm) v.generator v.wrong_keys
  judge_fits = by_verdict (command_of p.b0) (judge p v nc nm) (found p v nc nm)

pub judged_fits : (p s : List ℕ) (nc nm : ℕ) → Bytes p → generator_of s < 2 ^ 32 → Fit (judge_of p s nc nm) (generator_of s) (wrong_keys_of s)
unfolding judge_in session_of
judged_fits p s nc nm w h = judge_fits (numbers_of p) (seen_in (u16_at p 2) (byte p 4) (session_of s)) nc nm (number_fits p 4 w) h (generator_some s)
