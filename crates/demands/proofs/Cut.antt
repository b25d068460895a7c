-- Only the first 4,096 bytes of a memory matter, and the rest stays. Assumes nothing.
use Rattle.std.proofs.Common.{◌≡◌, ℕ, zero, suc, ◌+◌, ◌≤◌, Bool, true, false, cond, List, [], ◌∷◌, ◌++◌, length, get_or, take, drop, set, Some, None, Ok, Err, ltb, refl, sym, ap, ap₂, ◌∙◌, arith, zero-add, ltb-true, leb-true, length-take, length-set, take-append-drop, get_or-take}
use Rattle.std.proofs.Math.Nat.{min_comm, min-eq_left, min-le_left, min-le_right}
use Rattle.std.proofs.Math.Seq.{sets, set-append_left}
use Rattle.session.proofs.Heeding.{heeded_is}
use Rattle.model.specs.Answers.{reply_in, written, writes}
use Rattle.model.specs.View.{session_of, odt_of}
use Rattle.line.specs.Values.{Outcome}
use Rattle.line.specs.declared.Fault.TheVariants as line
use Rattle.state.specs.Layout.{addressable, upload_most}
use Rattle.state.specs.Pool.{list_count, first_odt, odt_count}
use Rattle.state.specs.Bytes.{block}
use Rattle.state.specs.Memory.{reach, pick, inside_of, block_sum, byte_of, bytes_of}
use Rattle.state.specs.State.{consistent, open_of, waits}
use Rattle.judge.specs.Doable.{Inside, Doable}
use Rattle.look.specs.Look.{judge_of}
use Rattle.session.specs.Perform.{reply}
use Rattle.session.specs.Receive.{Step, only, obeyed, heeded, meant, read_on, fed_of, receive_of}
use Rattle.model.specs.Heed.{good_connect}
use Rattle.lists.specs.Event.{sampling_of, captured, sampled_state, Tally, counted, tally, event_of, contents_of, captured_odts}
use Rattle.model.specs.Model.{Entry, Odt, Session}
use Rattle.model.specs.Calls.{block_in, blocks_in, lead_of, taken_in, contents_in}
use Rattle.words.specs.declared.Extension.{Extension}
use Rattle.words.specs.declared.Extension.TheVariants.{Calibration, Measured}
use Rattle.model.specs.declared.Sampling.{Sampling}
use Rattle.model.specs.declared.Sampling.TheVariants.{Idle, Sampled, Missed}
use Rattle.words.specs.Values.{Received, no_state}
use Rattle.words.specs.declared.Heard.TheVariants.{Nothing, Silent, BadLength, BadEscape, BadChecksum, Unread, CutOff}
use Rattle.model.specs.declared.Deed.{Deed}
use Rattle.model.specs.declared.Deed.TheVariants.{Refuse, RefuseSize, WrongKey, Connect, Disconnect, Status, Synch, NoSeed, GiveSeed, Unlock, SetMta, Upload, Checksum, Download, ClearList, SetPointer, ClearEntry, WriteEntry, SetMode, Stop, Start, KeepRunning, Select, StopAll, StartSelected, StopSelected, ProcessorInfo, ResolutionInfo, FreeLists, AllocLists, AllocOdts, AllocEntries}
use Rattle.state.proofs.Inside.{inside_le}
use Rattle.session.proofs.Data.{block_block}
use Rattle.look.proofs.Looked.{judged_doable}
use Rattle.demands.specs.Slave.{ours}
use Rattle.demands.specs.Memory.{put_back}
use Rattle.fields.proofs.Writes.{by_write}
use Rattle.demands.proofs.CutJudge.{judge_cut}

-- the bytes of a memory that can be addressed
abbrev front : List ℕ → List ℕ
front mem = take addressable mem

front_reach : (mem : List ℕ) → reach (length (front mem)) ≡ reach (length mem)
front_reach mem = rw length-take (min-eq_left (min-le_left addressable (length mem)) ∙ min_comm addressable (length mem))

picked : (e : Extension) (cal meas : List ℕ) → pick e (front cal) (front meas) ≡ front (pick e cal meas)
picked Calibration cal meas = refl
picked Measured cal meas = refl

-- ---- an event
byte_cut : (mem : List ℕ) (a : ℕ) → byte_of (front mem) a ≡ byte_of mem a
unfolding byte_of
byte_cut mem a = rw (front_reach mem) (go (ltb a (reach (length mem))) refl) where
  go : (t : Bool) → ltb a (reach (length mem)) ≡ t → cond t (get_or (front mem) a 0) 0 ≡ cond t (get_or mem a 0) 0
  go true e = get_or-take addressable mem a 0 (omega (arith, ltb-true a (reach (length mem)) e, min-le_right (length mem) addressable))
  go false e = refl

bytes_cut : (mem : List ℕ) (a n : ℕ) → bytes_of (front mem) a n ≡ bytes_of mem a n
unfolding bytes_of
bytes_cut mem a zero = refl
bytes_cut mem a (suc n) = rw (byte_cut mem a, bytes_cut mem (suc a) n)

module _ (cal meas : List ℕ) where
  entry_cut : (x : Entry) → block_in x (front cal) (front meas) ≡ block_in x cal meas
  entry_cut x = ap (λ (m : List ℕ). bytes_of m x.address x.size) (picked x.extension cal meas) ∙ bytes_cut (pick x.extension cal meas) x.address x.size

  blocks_cut : (y : Odt) (n : ℕ) → blocks_in y (front cal) (front meas) n ≡ blocks_in y cal meas n
  unfolding blocks_in
  blocks_cut y zero = refl
  blocks_cut y (suc n) = ap₂ (λ (xs ys : List ℕ). xs ++ ys) (blocks_cut y n) (entry_cut (y.entry n))

  contents_cut : (s : List ℕ) (k o clock : ℕ) → contents_of s k o clock (front cal) (front meas) ≡ contents_of s k o clock cal meas
  unfolding contents_in
  contents_cut s k o clock = ap (λ (bs : List ℕ). lead_of o clock ++ bs) (blocks_cut (odt_of s (k + o)) (taken_in o (odt_of s (k + o))))

  odts_cut : (s : List ℕ) (k clock n : ℕ) → captured_odts s k clock (front cal) (front meas) n ≡ captured_odts s k clock cal meas n
  unfolding captured_odts
  odts_cut s k clock zero = refl
  odts_cut s k clock (suc n) = rw (odts_cut s k clock n, contents_cut s k n clock)

  captured_cut : (s : List ℕ) (l clock : ℕ) → captured s l clock (front cal) (front meas) ≡ captured s l clock cal meas
  captured_cut s l clock = odts_cut s (first_odt s l) clock (odt_count s l)

  sampled_cut : (c : Sampling) (s : List ℕ) (l clock : ℕ) → sampled_state c s l clock (front cal) (front meas) ≡ sampled_state c s l clock cal meas
  unfolding sampled_state
  sampled_cut Idle s l clock = refl
  sampled_cut Sampled s l clock = captured_cut s l clock
  sampled_cut Missed s l clock = refl

  counted_cut : (c : Sampling) (t : Tally) (l clock : ℕ) → counted c t l clock (front cal) (front meas) ≡ counted c t l clock cal meas
  counted_cut c t l clock = rw (sampled_cut c t.state l clock)

  tally_cut : (s : List ℕ) (event clock n : ℕ) → tally s event clock (front cal) (front meas) n ≡ tally s event clock cal meas n
  unfolding tally
  tally_cut s event clock zero = refl
  tally_cut s event clock (suc n) =
      let t : Tally = tally s event clock cal meas n in
      rw (tally_cut s event clock n) (counted_cut (sampling_of t.state n event) t n clock)

pub cut_event : (s cal meas : List ℕ) (event clock : ℕ) → ours.event s cal meas event clock ≡ ours.event s (take addressable cal) (take addressable meas) event clock
unfolding event_of
cut_event s cal meas event clock = rw (tally_cut cal meas s event clock (list_count s))

-- ---- a deed
block_cut : (mem : List ℕ) (a n : ℕ) → a + n ≤ addressable → block (front mem) a n ≡ block mem a n
block_cut mem a n h = rw zero-add at (block_block mem 0 addressable a n h)

-- a block that is inside
inside_cut : (e : Extension) (cal meas : List ℕ) (most a n : ℕ) → Inside most a n (pick e (length cal) (length meas)) → block (pick e cal meas) a n ≡ block (pick e (front cal) (front meas)) a n
inside_cut e cal meas most a n i =
    sym (rw (picked e cal meas) (block_cut (pick e cal meas) a n (inside_le a n (pick e (length cal) (length meas)) i.1).1))

reply_cut : (d : Deed) (long : ℕ) (s cal meas : List ℕ) → Doable d (session_of s) long (length cal) (length meas) → reply d s cal meas ≡ reply d s (front cal) (front meas)
unfolding reply_in session_of block_sum
reply_cut (Refuse r) long s cal meas o = refl
reply_cut RefuseSize long s cal meas o = refl
reply_cut WrongKey long s cal meas o = refl
reply_cut Connect long s cal meas o = refl
reply_cut Disconnect long s cal meas o = refl
reply_cut Status long s cal meas o = refl
reply_cut Synch long s cal meas o = refl
reply_cut NoSeed long s cal meas o = refl
reply_cut (GiveSeed r) long s cal meas o = refl
reply_cut (Unlock r) long s cal meas o = refl
reply_cut (SetMta e a) long s cal meas o = refl
reply_cut (Upload e a n) long s cal meas o = rw (inside_cut e cal meas upload_most a n o)
reply_cut (Checksum e a n) long s cal meas o = rw (inside_cut e cal meas addressable a n o)
reply_cut (Download from a n) long s cal meas o = refl
reply_cut (ClearList l) long s cal meas o = refl
reply_cut (SetPointer l i e) long s cal meas o = refl
reply_cut (ClearEntry l i e) long s cal meas o = refl
reply_cut (WriteEntry l i e n x a) long s cal meas o = refl
reply_cut (SetMode l event) long s cal meas o = refl
reply_cut (Stop l) long s cal meas o = refl
reply_cut (Start l) long s cal meas o = refl
reply_cut (KeepRunning l) long s cal meas o = refl
reply_cut (Select l) long s cal meas o = refl
reply_cut StopAll long s cal meas o = refl
reply_cut StartSelected long s cal meas o = refl
reply_cut StopSelected long s cal meas o = refl
reply_cut ProcessorInfo long s cal meas o = refl
reply_cut ResolutionInfo long s cal meas o = refl
reply_cut FreeLists long s cal meas o = refl
reply_cut (AllocLists n) long s cal meas o = refl
reply_cut (AllocOdts l n) long s cal meas o = refl
reply_cut (AllocEntries l i n) long s cal meas o = refl

-- stores into the front of a list
sets_front : (xs l rest : List ℕ) (i : ℕ) → i + length xs ≤ length l → sets (l ++ rest) i xs ≡ sets l i xs ++ rest
sets_front [] l rest i h = refl
sets_front (x ∷ xs) l rest i h =
    rw (set-append_left l rest i x (omega arith)) (sets_front xs (set l i x) rest (suc i) (rw length-set (omega arith)))

whole : (cal : List ℕ) → cal ≡ front cal ++ drop addressable cal
whole cal = sym (take-append-drop addressable cal)

download_cut : (p cal : List ℕ) (from a n : ℕ) → inside_of a n (length cal) ≡ true → sets cal a (block p from n) ≡ sets (front cal) a (block p from n) ++ drop addressable cal
unfolding inside_of
download_cut p cal from a n i =
    let few : length (block p from n) ≤ n = rw length-take (min-le_left n (length (drop from p))) in
    let h : a + n ≤ length (front cal) = rw (length-take, min_comm) (leb-true _ _ i) in
    ap (λ (l : List ℕ). sets l a (block p from n)) (whole cal) ∙ sets_front (block p from n) (front cal) (drop addressable cal) a (omega arith)

written_cut : (d : Deed) (c : Session) (p cal : List ℕ) (nm : ℕ) → Doable d c (length p) (length cal) nm → written d p cal ≡ written d p (front cal) ++ drop addressable cal
unfolding writes
written_cut d c p cal nm =
    by_write (λ (e : Deed). Doable e c (length p) (length cal) nm → written e p cal ≡ written e p (front cal) ++ drop addressable cal)
    (λ e w o. rw w (whole cal)) (λ from a n o. download_cut p cal from a n o.1.1) d

-- ---- a received byte
-- o is what is done on the first bytes alone, with the rest put back
record Cut (rest : List ℕ) (o o' : Step) : Type 0 where
  same : o ≡ put_back o' rest

either_cut : (t : Bool) {rest : List ℕ} {a b a' b' : Step} → Cut rest a a' → Cut rest b b' → Cut rest (cond t a b) (cond t a' b')
either_cut true p q = p
either_cut false p q = q

module _ (cal meas : List ℕ) where
  abbrev rest : List ℕ
  rest = drop addressable cal

  only_cut : (r : Received) (s : List ℕ) → Cut rest (only r s cal) (only r s (front cal))
  only_cut r s = record { same = ap (only r s) (whole cal) }

  obeyed_cut : (d : Deed) (p s : List ℕ) → Doable d (session_of s) (length p) (length cal) (length meas) → Cut rest (obeyed d p s cal meas) (obeyed d p s (front cal) (front meas))
  obeyed_cut d p s o = record { same = rw (reply_cut d (length p) s cal meas o, written_cut d (session_of s) p cal (length meas) o) }

  judged_cut : (p s : List ℕ) → judge_of p s (length (front cal)) (length (front meas)) ≡ judge_of p s (length cal) (length meas)
  judged_cut p s = judge_cut (length cal) (length meas) (length (front cal)) (length (front meas)) (front_reach cal) (front_reach meas) p s

  heeded_cut : (p s : List ℕ) → Cut rest (heeded p s cal meas) (heeded p s (front cal) (front meas))
  heeded_cut p s =
      rw (heeded_is p s cal meas, heeded_is p s (front cal) (front meas), judged_cut p s)
      (either_cut (waits s) (only_cut (Ok Unread) s)
      (either_cut (open_of s) (obeyed_cut (judge_of p s (length cal) (length meas)) p s (judged_doable p s (length cal) (length meas)))
      (either_cut (good_connect p) (obeyed_cut Connect p s tt) (only_cut (Ok Silent) s))))

  meant_cut : (o : Outcome) (m s : List ℕ) → Cut rest (meant o m s cal meas) (meant o m s (front cal) (front meas))
  unfolding meant
  meant_cut (Ok None) m s = only_cut (Ok Nothing) s
  meant_cut (Ok (Some good)) m s = heeded_cut (block m good.at good.len) s
  meant_cut (Err line.BadLength) m s = only_cut (Ok BadLength) s
  meant_cut (Err line.BadEscape) m s = only_cut (Ok BadEscape) s
  meant_cut (Err line.BadChecksum) m s = only_cut (Ok BadChecksum) s
  meant_cut (Err line.CutOff) m s = only_cut (Ok CutOff) s
  meant_cut (Err line.ShortBuffer) m s = only_cut (Err no_state) s

pub cut : (s cal meas : List ℕ) (b : ℕ) → ours.receive s cal meas b ≡ put_back (ours.receive s (take addressable cal) (take addressable meas) b) (drop addressable cal)
unfolding receive_of
cut s cal meas b =
    let both = either_cut (consistent s) (meant_cut cal meas (fed_of s b).taken.outcome (fed_of s b).message (read_on s (fed_of s b))) (only_cut cal meas (Err no_state) s) in
    both.same
