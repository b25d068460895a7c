-- Bytes stay bytes through every call: of lent bytes that are below 256 each is below 256 after it. Assumes nothing.
use Rattle.std.proofs.Common.{◌≡◌, ℕ, zero, suc, ◌+◌, ◌/◌, ◌%◌, ◌<◌, ◌≤◌, Bool, true, false, cond, eqb, ltb, leb, List, [], ◌∷◌, ◌++◌, length, get_or, set, replicate, Some, None, Ok, Err, sym, subst, mod-lt, arith, lit<, lit≤, ltb-false, eq-eqb}
use Rattle.std.proofs.Math.Option.{Option, none, some}
use Rattle.line.specs.Message.{byte_form, most, room, frame, head_in, sum}
use Rattle.line.specs.Stuffing.{SYNC, ESC, stuff_byte, stuff}
use Rattle.line.specs.Unstuffing.{Fed}
use Rattle.line.specs.Writer.{at_front, Sent, write_in, write_of}
use Rattle.line.specs.Values.{Outcome}
use Rattle.line.specs.declared.Fault.TheVariants.{BadLength, BadEscape, BadChecksum, CutOff, ShortBuffer}
use Rattle.line.proofs.Laws.{cond_ind}
use Rattle.state.specs.Layout.{size, is_first, events, stored_most, mark, mark_at, ctr_at, round_at, last_at, phase_at, answer_at, answer_bytes_at, sample_at}
use Rattle.state.specs.Pool.{list_count, first_odt, odt_count, entry_count}
use Rattle.state.proofs.Allocated.{lists_most, first_most_lem, odt_most_lem}
use Rattle.state.specs.Bytes.{put32, bytes32, block}
use Rattle.state.specs.Generator.{next_of, start_of}
use Rattle.state.specs.Memory.{pick, reach, byte_of, bytes_of, block_sum}
use Rattle.state.specs.State.{consistent, generator_of, set_generator, wrong_keys_of, set_pointer, closed, ctr_of, lock_at, bit_of, mask_by, answer_length, answer_kind, answer_of, waits}
use Rattle.state.specs.Lists.{stored_length}
use Rattle.words.specs.Command.{code_of}
use Rattle.words.specs.declared.Resource.{Resource}
use Rattle.words.specs.declared.Resource.TheVariants.{Calibration, Lists}
use Rattle.words.specs.declared.Extension.{Extension}
use Rattle.words.specs.declared.Extension.TheVariants.{Calibration as CalibrationMemory, Measured}
use Rattle.words.specs.declared.Mta.TheVariants.{At}
use Rattle.words.specs.declared.Pointer.TheVariants.{At as Points}
use Rattle.words.specs.declared.Reason.{Reason}
use Rattle.words.specs.declared.Reason.TheVariants as reason
use Rattle.model.specs.declared.Deed.{Deed}
use Rattle.model.specs.declared.Deed.TheVariants.{Refuse, RefuseSize, WrongKey, Connect, Disconnect, Status, Synch, NoSeed, GiveSeed, Unlock, SetMta, Upload, Checksum, Download, ClearList, SetPointer, ClearEntry, WriteEntry, SetMode, Stop, Start, KeepRunning, Select, StopAll, StartSelected, StopSelected, ProcessorInfo, ResolutionInfo, FreeLists, AllocLists, AllocOdts, AllocEntries}
use Rattle.model.specs.declared.Sampling.{Sampling}
use Rattle.model.specs.declared.Sampling.TheVariants.{Idle, Sampled, Missed}
use Rattle.model.specs.Turn.{Turn}
use Rattle.model.specs.declared.Sender.TheVariants.{Answer, Packet}
use Rattle.model.specs.Model.{Bytes, Odt, first_of, some_runs}
use Rattle.model.specs.Heed.{Heeding, good_connect, heeding_in}
use Rattle.model.specs.Step.{unlock, next_entry}
use Rattle.model.specs.Answers.{reply_in, Write, writes, memory_after}
use Rattle.model.specs.Calls.{block_in, blocks_in, lead_of, taken_in, contents_in, packet_from}
use Rattle.model.specs.View.{odt_of, session_of}
use Rattle.model.proofs.Shown.{first_of_lem, packet_by_lem}
use Rattle.judge.specs.Doable.{Entered, Doable}
use Rattle.lists.specs.Lists.{entry_set}
use Rattle.lists.specs.Event.{sampling_of, contents_of, stored, captured_odts, sampled_state, tally, Happened, event_of}
use Rattle.lists.specs.Slot.{turn_of, Slot, ctr_next, answer_sent, round_after, packet_sent, sent_by, slot_of}
use Rattle.lists.proofs.Gathered.{contents_most}
use Rattle.lists.proofs.Sending.{Within, turn_within}
use Rattle.look.specs.Look.{judge_of}
use Rattle.session.specs.Perform.{entry_written, effect, reply}
use Rattle.session.specs.PowerUp.{powered, power_up_of}
use Rattle.session.specs.Receive.{Step, obeyed, heeded_by, heeded, meant, read_on, fed_of, receive_of}
use Rattle.look.proofs.Looked.{judged_doable}
use Rattle.fields.proofs.Effects.{list_there, odt_there, entry_there, answering}
use Rattle.views.proofs.Bytes.{bytes_cons, bytes_four, bytes_set, bytes_block, fed_bytes}
use Rattle.views.proofs.Effect.{next_pointed}
use Rattle.views.proofs.Fit.{Fit, generator_fits, judged_fits}
use Rattle.views.proofs.BytesStored.{no_bytes, literal, one_byte, bytes_append, bytes_zeros, bytes_sets, bytes_modulo, bytes_put32, bytes_seed, bytes_generator, bytes_mta, bytes_pointer, bytes_counted, bytes_closed, bytes_fresh, bytes_read_on, bytes_answered, bytes_switched, bytes_list_cleared, bytes_mode_set, bytes_entry_set, bytes_selected, bytes_stop_each, bytes_start_selected, bytes_stop_selected, bytes_new_lists, bytes_new_odts, bytes_new_entries}

-- ---- a deed
module _ (s : List ℕ) (l o e : ℕ) (h : Entered (session_of s) l o e) (w : Bytes s) where
  there : (l < list_count s) × (o < odt_count s l) × (e < entry_count s (first_odt s l + o))
  there =
      let list : l < list_count s = list_there s l h.0 in
      let odt : o < odt_count s l = odt_there s l o list h.1 in
      (list, odt, entry_there s l o e list odt h.2)

  bytes_pointed : Bytes (set_pointer s (Points l o e))
  bytes_pointed = bytes_pointer s s (Points l o e) there w

  bytes_entered : (n : ℕ) (x : Extension) (a : ℕ) → Bytes (entry_written s l o e n x a)
  bytes_entered n x a =
      let k : ℕ = first_odt s l + o in
      bytes_pointer s (entry_set s l k e n x a) (next_entry (entry_count s k) l o e) (next_pointed s l o e there.0 there.1 there.2) (bytes_entry_set s l k e n x a w)

bytes_effect : (d : Deed) (s : List ℕ) (n nc nm g i : ℕ) → Doable d (session_of s) n nc nm → Fit d g i → Bytes s → Bytes (effect d s)
unfolding effect
bytes_effect (Refuse r) s n nc nm g i h f w = w
bytes_effect RefuseSize s n nc nm g i h f w = w
bytes_effect WrongKey s n nc nm g i h f w = bytes_counted (closed s) (bytes_closed s w)
bytes_effect Connect s n nc nm g i h f w = bytes_fresh s w
bytes_effect Disconnect s n nc nm g i h f w = bytes_closed s w
bytes_effect Status s n nc nm g i h f w = w
bytes_effect Synch s n nc nm g i h f w = w
bytes_effect NoSeed s n nc nm g i h f w = w
bytes_effect (GiveSeed r) s n nc nm g i h f w = bytes_seed (set_generator s (next_of (generator_of s))) (Some r) (bytes_generator s (next_of (generator_of s)) w)
bytes_effect (Unlock r) s n nc nm g i h f w = bytes_seed (set s (lock_at r) 1) None (bytes_set s (lock_at r) 1 w (lit< tt))
bytes_effect (SetMta e a) s n nc nm g i h f w = bytes_mta s (At e a) w
bytes_effect (Upload e a m) s n nc nm g i h f w = bytes_mta s _ w
bytes_effect (Checksum e a m) s n nc nm g i h f w = bytes_mta s (At e (a + m)) w
bytes_effect (Download from a m) s n nc nm g i h f w = bytes_mta s (At CalibrationMemory (a + m)) w
bytes_effect (ClearList l) s n nc nm g i h f w = bytes_list_cleared s l w
bytes_effect (SetPointer l o e) s n nc nm g i h f w = bytes_pointed s l o e h w
bytes_effect (ClearEntry l o e) s n nc nm g i h f w = bytes_entered s l o e h w 0 CalibrationMemory 0
bytes_effect (WriteEntry l o e m x a) s n nc nm g i h f w = bytes_entered s l o e h w m x a
bytes_effect (SetMode l event) s n nc nm g i h f w = bytes_mode_set s l event w
bytes_effect (Stop l) s n nc nm g i h f w = bytes_switched s l 0 (lit< tt) w
bytes_effect (Start l) s n nc nm g i h f w = bytes_switched s l 1 (lit< tt) w
bytes_effect (KeepRunning l) s n nc nm g i h f w = w
bytes_effect (Select l) s n nc nm g i h f w = bytes_selected s l 1 (lit< tt) w
bytes_effect StopAll s n nc nm g i h f w = bytes_stop_each s (list_count s) w
bytes_effect StartSelected s n nc nm g i h f w = bytes_start_selected s (list_count s) w
bytes_effect StopSelected s n nc nm g i h f w = bytes_stop_selected s (list_count s) w
bytes_effect ProcessorInfo s n nc nm g i h f w = w
bytes_effect ResolutionInfo s n nc nm g i h f w = w
bytes_effect FreeLists s n nc nm g i h f w = bytes_set s phase_at 1 w (lit< tt)
bytes_effect (AllocLists m) s n nc nm g i h f w = bytes_new_lists s m w
bytes_effect (AllocOdts l m) s n nc nm g i h f w = bytes_new_odts s l m (omega (arith, h.3)) w
bytes_effect (AllocEntries l o m) s n nc nm g i h f w = bytes_new_entries s (first_odt s l + o) m (omega (arith, h.3)) w

-- its answer
code_low : (r : Reason) → code_of r < 256
code_low reason.Unknown = lit< tt
code_low reason.TooShort = lit< tt
code_low reason.Locked = lit< tt
code_low reason.Sequence = lit< tt
code_low reason.OutOfRange = lit< tt
code_low reason.DataMissing = lit< tt
code_low reason.ListRuns = lit< tt
code_low reason.ReadOnly = lit< tt
code_low reason.NotInside = lit< tt
code_low reason.CannotStart = lit< tt
code_low reason.WrongKey = lit< tt
code_low reason.PoolFull = lit< tt

either_low : (b : Bool) (x y : ℕ) → x < 256 → y < 256 → cond b x y < 256
either_low true x y p q = p
either_low false x y p q = q

mask_low : (f : Resource → Bool) → mask_by f < 256
mask_low f =
    let few : (b : Bool) (r : Resource) → cond b 0 (bit_of r) ≤ 4 = bit_few in
    omega (arith, few (f Calibration) Calibration, few (f Lists) Lists) where
      bit_few : (b : Bool) (r : Resource) → cond b 0 (bit_of r) ≤ 4
      bit_few true r = lit≤ tt
      bit_few false Calibration = lit≤ tt
      bit_few false Lists = lit≤ tt

good : (bs : List ℕ) → Bytes bs → Bytes (0xFF ∷ bs)
good bs w = bytes_cons 0xFF bs (lit< tt) w

ok : Bytes (0xFF ∷ [])
ok = good [] no_bytes

-- a list's first ODT has a number of one byte
first_low : (s : List ℕ) (l : ℕ) → l < (session_of s).lists → Bytes (0xFF ∷ first_of (session_of s) l ∷ [])
first_low s l h =
    let n : first_of (session_of s) l ≡ first_odt s l = (let there : l < list_count s = list_there s l h in first_of_lem s l (omega arith)) in
    good (first_of (session_of s) l ∷ []) (one_byte (first_of (session_of s) l) (omega (arith, first_most_lem s l)))

lists_low : (s : List ℕ) → (session_of s).lists < 256
unfolding session_of
lists_low s = omega (arith, lists_most s)

module _ (cal meas : List ℕ) (wc : Bytes cal) (wm : Bytes meas) where
  bytes_pick : (e : Extension) → Bytes (pick e cal meas)
  bytes_pick CalibrationMemory = wc
  bytes_pick Measured = wm

  bytes_upload : (e : Extension) (a n : ℕ) → Bytes (0xFF ∷ block (pick e cal meas) a n)
  bytes_upload e a n = good (block (pick e cal meas) a n) (bytes_block (pick e cal meas) a n (bytes_pick e))

  bytes_reply : (d : Deed) (s : List ℕ) (n nc nm : ℕ) → Doable d (session_of s) n nc nm → Bytes (reply d s cal meas)
  unfolding reply_in
  bytes_reply (Refuse r) s n nc nm h = bytes_cons 0xFE (code_of r ∷ []) (lit< tt) (one_byte (code_of r) (code_low r))
  bytes_reply RefuseSize s n nc nm h = literal (reply RefuseSize s cal meas) tt
  bytes_reply WrongKey s n nc nm h = literal (reply WrongKey s cal meas) tt
  bytes_reply Connect s n nc nm h = literal (reply Connect s cal meas) tt
  bytes_reply Disconnect s n nc nm h = ok
  bytes_reply Status s n nc nm h =
      let zeros : List ℕ = 0x00 ∷ 0x00 ∷ 0x00 ∷ [] in
      let runs : ℕ = cond (some_runs (session_of s) (session_of s).lists) 0x40 0x00 in
      let locks : ℕ = mask_by (session_of s).unlocked in
      good (runs ∷ locks ∷ zeros)
      (bytes_cons runs (locks ∷ zeros) (either_low (some_runs (session_of s) (session_of s).lists) 0x40 0x00 (lit< tt) (lit< tt))
      (bytes_cons locks zeros (mask_low (session_of s).unlocked) (literal zeros tt)))
  bytes_reply Synch s n nc nm h = literal (reply Synch s cal meas) tt
  bytes_reply NoSeed s n nc nm h = literal (reply NoSeed s cal meas) tt
  bytes_reply (GiveSeed r) s n nc nm h =
      let front : List ℕ = 0xFF ∷ 0x04 ∷ [] in
      bytes_append front (bytes32 (next_of (session_of s).generator)) (literal front tt) (bytes_four (next_of (session_of s).generator))
  bytes_reply (Unlock r) s n nc nm h = good (mask_by (unlock r (session_of s).unlocked) ∷ []) (one_byte (mask_by (unlock r (session_of s).unlocked)) (mask_low (unlock r (session_of s).unlocked)))
  bytes_reply (SetMta e a) s n nc nm h = ok
  bytes_reply (Upload e a m) s n nc nm h = bytes_upload e a m
  bytes_reply (Checksum e a m) s n nc nm h =
      let front : List ℕ = 0xFF ∷ 0x02 ∷ 0x00 ∷ 0x00 ∷ [] in
      let total : ℕ = block_sum (pick e cal meas) a m in
      bytes_append front (bytes32 total) (literal front tt) (bytes_four total)
  bytes_reply (Download from a m) s n nc nm h = ok
  bytes_reply (ClearList l) s n nc nm h = ok
  bytes_reply (SetPointer l o e) s n nc nm h = ok
  bytes_reply (ClearEntry l o e) s n nc nm h = ok
  bytes_reply (WriteEntry l o e m x a) s n nc nm h = ok
  bytes_reply (SetMode l event) s n nc nm h = ok
  bytes_reply (Stop l) s n nc nm h = first_low s l h
  bytes_reply (Start l) s n nc nm h = first_low s l h
  bytes_reply (KeepRunning l) s n nc nm h = first_low s l h
  bytes_reply (Select l) s n nc nm h = first_low s l h
  bytes_reply StopAll s n nc nm h = ok
  bytes_reply StartSelected s n nc nm h = ok
  bytes_reply StopSelected s n nc nm h = ok
  bytes_reply ProcessorInfo s n nc nm h =
      let rest : List ℕ = 0x00 ∷ events ∷ 0x00 ∷ 0x00 ∷ 0x00 ∷ [] in
      let many : List ℕ = (session_of s).lists ∷ rest in
      good (0x11 ∷ many) (bytes_cons 0x11 many (lit< tt) (bytes_cons (session_of s).lists rest (lists_low s) (literal rest tt)))
  bytes_reply ResolutionInfo s n nc nm h = literal (reply ResolutionInfo s cal meas) tt
  bytes_reply FreeLists s n nc nm h = ok
  bytes_reply (AllocLists m) s n nc nm h = ok
  bytes_reply (AllocOdts l m) s n nc nm h = ok
  bytes_reply (AllocEntries l o m) s n nc nm h = ok

-- what it writes into calibration
bytes_written : (x : Option Write) (p cal : List ℕ) → Bytes p → Bytes cal → Bytes (memory_after x p cal)
bytes_written none p cal v w = w
bytes_written (some x) p cal v w = bytes_sets (block p x.from x.count) cal x.address w (bytes_block p x.from x.count v)

-- ---- a received byte
abbrev Low : Step → Type 0
Low o = Bytes o.state × Bytes o.cal

module _ (cal meas : List ℕ) (wc : Bytes cal) (wm : Bytes meas) where
  bytes_obeyed : (d : Deed) (p s : List ℕ) (n g i : ℕ) → Doable d (session_of s) n (length cal) (length meas) → Fit d g i → Bytes p → Bytes s → Low (obeyed d p s cal meas)
  bytes_obeyed d p s n g i h f v w = (
    bytes_answered (effect d s) (reply d s cal meas) (bytes_effect d s n (length cal) (length meas) g i h f w) (bytes_reply cal meas wc wm d s n (length cal) (length meas) h) (answering d s cal meas n h).few,
    bytes_written (writes d) p cal v wc,
  )

  bytes_heeded : (p s : List ℕ) → Bytes p → Bytes s → Low (heeded p s cal meas)
  unfolding heeded heeding_in
  bytes_heeded p s v w =
      let P : Heeding → Type 0 = λ (x : Heeding). Low (heeded_by x p s cal meas) in
      cond_ind P (waits s) (λ _. (w, wc))
      (λ _. cond_ind P (session_of s).opened
      (λ _. bytes_obeyed (judge_of p s (length cal) (length meas)) p s (length p) (generator_of s) (wrong_keys_of s) (judged_doable p s (length cal) (length meas)) (judged_fits p s (length cal) (length meas) v (generator_fits s w)) v w)
      (λ _. cond_ind P (good_connect p) (λ _. bytes_obeyed Connect p s (length p) (generator_of s) (wrong_keys_of s) tt tt v w) (λ _. (w, wc))))

  bytes_meant : (o : Outcome) (m s : List ℕ) → Bytes m → Bytes s → Low (meant o m s cal meas)
  unfolding meant
  bytes_meant (Ok None) m s v w = (w, wc)
  bytes_meant (Ok (Some good)) m s v w = bytes_heeded (block m good.at good.len) s (bytes_block m good.at good.len v) w
  bytes_meant (Err BadLength) m s v w = (w, wc)
  bytes_meant (Err BadEscape) m s v w = (w, wc)
  bytes_meant (Err BadChecksum) m s v w = (w, wc)
  bytes_meant (Err CutOff) m s v w = (w, wc)
  bytes_meant (Err ShortBuffer) m s v w = (w, wc)

pub receive_bytes : (s cal meas : List ℕ) (b : ℕ) → Bytes s → Bytes cal → Bytes meas → b < 256 → Bytes (receive_of s cal meas b).state × Bytes (receive_of s cal meas b).cal
unfolding receive_of
receive_bytes s cal meas b w wc wm h =
    let f : Fed = fed_of s b in
    let v : Bytes f.message = fed_bytes s b w h in
    cond_ind Low (consistent s) (λ _. bytes_meant cal meas wc wm f.taken.outcome f.message (read_on s f) v (bytes_read_on s f w v)) (λ _. (w, wc))

-- ---- an event
bytes_run : (mem : List ℕ) (a n : ℕ) → Bytes mem → Bytes (bytes_of mem a n)
unfolding bytes_of byte_of
bytes_run mem a zero w = no_bytes
bytes_run mem a (suc n) w =
    bytes_cons (byte_of mem a) (bytes_of mem (suc a) n) (either_low (ltb a (reach (length mem))) (get_or mem a 0) 0 (w a) (lit< tt)) (bytes_run mem (suc a) n w)

bytes_stored : (s : List ℕ) (k : ℕ) (bs : List ℕ) → length bs ≤ stored_most → Bytes bs → Bytes s → Bytes (stored s k bs)
unfolding stored
bytes_stored s k bs few v w = bytes_sets (length bs ∷ bs) s (sample_at k) w (bytes_cons (length bs) bs (omega arith) v)

module _ (cal meas : List ℕ) (wc : Bytes cal) (wm : Bytes meas) where
  bytes_blocks : (y : Odt) (n : ℕ) → Bytes (blocks_in y cal meas n)
  unfolding blocks_in
  bytes_blocks y zero = no_bytes
  bytes_blocks y (suc n) =
      bytes_append (blocks_in y cal meas n) (block_in (y.entry n) cal meas) (bytes_blocks y n)
      (bytes_run (pick (y.entry n).extension cal meas) (y.entry n).address (y.entry n).size (bytes_pick cal meas wc wm (y.entry n).extension))

  bytes_contents : (o clock : ℕ) (y : Odt) → Bytes (contents_in o clock cal meas y)
  unfolding contents_in
  bytes_contents o clock y =
      bytes_append (lead_of o clock) (blocks_in y cal meas (taken_in o y))
      (cond_ind Bytes (is_first o) (λ _. bytes_cons (clock % 256) (clock / 256 % 256 ∷ []) (mod-lt clock (lit< tt)) (one_byte (clock / 256 % 256) (mod-lt (clock / 256) (lit< tt)))) (λ _. no_bytes))
      (bytes_blocks y (taken_in o y))

  bytes_captured : (s : List ℕ) (l clock n : ℕ) → Bytes s → Bytes (captured_odts s (first_odt s l) clock cal meas n)
  unfolding captured_odts
  bytes_captured s l clock zero w = w
  bytes_captured s l clock (suc n) w =
      let k : ℕ = first_odt s l in
      bytes_stored (captured_odts s k clock cal meas n) (k + n) (contents_of s k n clock cal meas)
      (contents_most s k n clock cal meas) (bytes_contents n clock _) (bytes_captured s l clock n w)

  bytes_sampled : (c : Sampling) (s : List ℕ) (l clock : ℕ) → Bytes s → Bytes (sampled_state c s l clock cal meas)
  unfolding sampled_state
  bytes_sampled Idle s l clock w = w
  bytes_sampled Sampled s l clock w = bytes_captured s l clock (odt_count s l) w
  bytes_sampled Missed s l clock w = w

  bytes_tally : (s : List ℕ) (event clock n : ℕ) → n ≤ list_count s → Bytes s → Bytes (tally s event clock cal meas n).state
  unfolding tally
  bytes_tally s event clock zero h w = w
  bytes_tally s event clock (suc n) h w =
      let t : List ℕ = (tally s event clock cal meas n).state in
      bytes_sampled (sampling_of t n event) t n clock (bytes_tally s event clock n (omega arith) w)

pub event_bytes : (s cal meas : List ℕ) (event clock : ℕ) → Bytes s → Bytes cal → Bytes meas → Bytes (event_of s cal meas event clock).state
unfolding event_of
event_bytes s cal meas event clock w wc wm =
    let P : Happened → Type 0 = λ (h : Happened). Bytes h.state in
    cond_ind P (consistent s) (λ _. cond_ind P (leb events event) (λ _. w) (λ _. bytes_tally cal meas wc wm s event clock (list_count s) (omega arith) w)) (λ _. w)

-- ---- a slot
kind_low : (s : List ℕ) → answer_kind s < 256
unfolding answer_kind
kind_low s =
    either_low (eqb (get_or s answer_bytes_at 0) 0xFE) (cond (eqb (answer_length s) 2) 0xFE (cond (eqb (answer_length s) 8) 0xFE 0xFF)) 0xFF
    (either_low (eqb (answer_length s) 2) 0xFE (cond (eqb (answer_length s) 8) 0xFE 0xFF) (lit< tt) (either_low (eqb (answer_length s) 8) 0xFE 0xFF (lit< tt) (lit< tt))) (lit< tt)

bytes_kind : (s : List ℕ) → Bytes s → Bytes (set s answer_bytes_at (answer_kind s))
bytes_kind s w = bytes_set s answer_bytes_at (answer_kind s) w (kind_low s)

bytes_answer_sent : (s : List ℕ) → Bytes s → Bytes (answer_sent s)
unfolding answer_sent
bytes_answer_sent s w =
    let s₁ : List ℕ = set s answer_bytes_at (answer_kind s) in
    let s₂ : List ℕ = set s₁ answer_at 0 in
    bytes_set (set s₂ ctr_at (ctr_next s)) last_at 1 (bytes_modulo s₂ ctr_at (ctr_of s + 1) (bytes_set s₁ answer_at 0 (bytes_kind s w) (lit< tt))) (lit< tt)

bytes_packet_sent : (s : List ℕ) (l o : ℕ) → l < list_count s → Bytes s → Bytes (packet_sent s l o)
unfolding packet_sent
bytes_packet_sent s l o h w =
    let at : ℕ = sample_at (first_odt s l + o) in
    let s₁ : List ℕ = set s at 0 in
    let s₂ : List ℕ = set s₁ ctr_at (ctr_next s) in
    bytes_set (set s₂ round_at (round_after l)) last_at 0
    (bytes_set s₂ round_at (round_after l) (bytes_modulo s₁ ctr_at (ctr_of s + 1) (bytes_set s at 0 w (lit< tt))) (omega (arith, lists_most s))) (lit< tt)

-- its frame
bytes_stuff_byte : (b : ℕ) → b < 256 → Bytes (stuff_byte b)
bytes_stuff_byte b h =
    cond_ind Bytes (eqb b SYNC) (λ _. literal (ESC ∷ 1 ∷ []) tt) (λ _. cond_ind Bytes (eqb b ESC) (λ _. literal (ESC ∷ 0 ∷ []) tt) (λ _. one_byte b h))

bytes_stuff : (bs : List ℕ) → Bytes bs → Bytes (stuff bs)
bytes_stuff [] w = no_bytes
bytes_stuff (b ∷ bs) w = bytes_append (stuff_byte b) (stuff bs) (bytes_stuff_byte b (w 0)) (bytes_stuff bs (λ i. w (suc i)))

bytes_frame : (ctr : ℕ) (p : List ℕ) → ctr < 256 → length p ≤ most → Bytes p → Bytes (frame ctr p)
bytes_frame ctr p h few w =
    let head : List ℕ = head_in byte_form ctr p in
    let v : Bytes head = bytes_cons (length p) (ctr ∷ p) (omega arith) (bytes_cons ctr p h w) in
    let end : List ℕ = byte_form.checksum head ∷ [] in
    bytes_cons SYNC (stuff (head ++ end)) (lit< tt) (bytes_stuff (head ++ end) (bytes_append head end v (one_byte (byte_form.checksum head) (mod-lt (sum head) (lit< tt)))))

bytes_front : (xs l : List ℕ) → Bytes xs → Bytes l → Bytes (at_front xs l)
bytes_front [] l v w = w
bytes_front (x ∷ xs) [] v w = no_bytes
bytes_front (x ∷ xs) (y ∷ l) v w = bytes_cons x (at_front xs l) (v 0) (bytes_front xs l (λ i. v (suc i)) (λ i. w (suc i)))

bytes_write : (p : List ℕ) (ctr : ℕ) (out : List ℕ) → Bytes p → ctr < 256 → Bytes out → Bytes (write_of p ctr out).out
unfolding write_of write_in
bytes_write p ctr out v h w =
    let P : Sent → Type 0 = λ (x : Sent). Bytes x.out in
    cond_ind P (eqb (length p) 0) (λ _. w)
    (λ _. cond_ind P (ltb most (length p)) (λ _. w)
    (λ few. cond_ind P (ltb (length out) room) (λ _. w) (λ _. bytes_front (frame ctr p) out (bytes_frame ctr p h (ltb-false most (length p) few) v) w)))

bytes_sent_by : (t : Turn) (s out : List ℕ) → Within s t → Bytes s → Bytes (sent_by t s out).state × (Bytes out → Bytes (sent_by t s out).out)
unfolding sent_by answer_of
bytes_sent_by None s out h w = (w, λ v. v)
bytes_sent_by (Some Answer) s out h w =
    (bytes_answer_sent s w, λ v. bytes_write (answer_of s) (ctr_of s) out (bytes_block (set s answer_bytes_at (answer_kind s)) answer_bytes_at (answer_length s) (bytes_kind s w)) (w ctr_at) v)
bytes_sent_by (Some (Packet l o)) s out h w =
    let its : o < odt_count s l = h.1 in
    let k : ℕ = first_odt s l + o in
    let p : List ℕ = packet_from (session_of s) l o in
    let b : Bytes p = subst Bytes (sym (packet_by_lem s l o h.0 its)) (bytes_cons k (odt_of s k).store (omega (arith, odt_most_lem s l)) (bytes_block s (sample_at k + 1) (stored_length s k) w)) in
    (bytes_packet_sent s l o h.0 w, λ v. bytes_write p (ctr_of s) out b (w ctr_at) v)

pub slot_bytes : (s out : List ℕ) → Bytes s → Bytes (slot_of s out).state × (Bytes out → Bytes (slot_of s out).out)
unfolding slot_of
slot_bytes s out w =
    let P : Slot → Type 0 = λ (x : Slot). Bytes x.state × (Bytes out → Bytes x.out) in
    cond_ind P (consistent s)
    (λ _. cond_ind P (ltb (length out) room) (λ _. (w, λ v. v)) (λ _. bytes_sent_by (turn_of s) s out (turn_within s) w)) (λ _. (w, λ v. v))

-- ---- power-up: whatever was lent
bytes_powered : (start : ℕ) → Bytes (powered start)
unfolding powered
bytes_powered start = let blank : List ℕ = put32 (replicate size 0) mark_at mark in bytes_generator blank (start_of start) (bytes_put32 (replicate size 0) mark_at mark (bytes_zeros size))

pub power_up_bytes : (s : List ℕ) (start : ℕ) → length s ≡ size → Bytes (power_up_of s start).state
unfolding power_up_of
power_up_bytes s start h = rw (eq-eqb (length s) size h) (bytes_powered start)
