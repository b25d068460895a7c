-- A verdict rests on no byte behind a packet's end, and on nothing of a list that its command does not name. Assumes nothing.
use Rattle.std.proofs.Common.{Some, None, ◌≡◌, refl, ap, ◌∙◌, Bool, true, false, cond, ℕ, ◌≤◌, arith, ltb-false, le-leb, eqb, ltb}
use Rattle.words.specs.Command.{fewest, needs_of}
use Rattle.words.specs.declared.Command.{Command}
use Rattle.words.specs.declared.Command.TheVariants.{Unknown, Connect, Disconnect, GetStatus, Synch, GetSeed, Unlock, SetMta, Upload, ShortUpload, BuildChecksum, Download, ShortDownload, ClearDaqList, SetDaqPtr, WriteDaq, SetDaqListMode, StartStopDaqList, StartStopSynch, GetDaqProcessorInfo, GetDaqResolutionInfo, FreeDaq, AllocDaq, AllocOdt, AllocOdtEntry}
use Rattle.words.specs.Values.{Needs, Seed}
use Rattle.words.specs.declared.Resource.TheVariants.{Calibration, Lists}
use Rattle.model.specs.Judge.{unlock_by, start_stop_deed, synch_deed, alloc_entries_deed, locked_by, judge_the, judge_by}
use Rattle.model.specs.Seen.{Packet, Seen}
use Rattle.words.specs.declared.Reason.TheVariants.{TooShort, Locked}
use Rattle.model.specs.declared.Deed.{Deed}
use Rattle.model.specs.declared.Deed.TheVariants.{Refuse}

-- ---- the packet: each number that lies in the first n bytes
pub record Alike (p q : Packet) : Type 0 where
  pub long : p.n ≡ q.n
  pub first : p.b0 ≡ q.b0
  pub byte1 : 2 ≤ q.n → p.b1 ≡ q.b1
  pub byte2 : 3 ≤ q.n → p.b2 ≡ q.b2
  pub byte3 : 4 ≤ q.n → p.b3 ≡ q.b3
  pub byte4 : 5 ≤ q.n → p.b4 ≡ q.b4
  pub byte5 : 6 ≤ q.n → p.b5 ≡ q.b5
  pub byte6 : 7 ≤ q.n → p.b6 ≡ q.b6
  pub byte7 : 8 ≤ q.n → p.b7 ≡ q.b7
  pub word2 : 4 ≤ q.n → p.w2 ≡ q.w2
  pub word4 : 6 ≤ q.n → p.w4 ≡ q.w4
  pub long2 : 6 ≤ q.n → p.d2 ≡ q.d2
  pub long4 : 8 ≤ q.n → p.d4 ≡ q.d4

-- a key is looked at only where it is whole
unlock_alike : (seed : Seed) (g size n key key' : ℕ) → (6 ≤ n → key ≡ key') → unlock_by seed g size n key ≡ unlock_by seed g size n key'
unfolding unlock_by
unlock_alike None g size n key key' h = refl
unlock_alike (Some r) g size n key key' h = by (ltb n 6) refl
  where
    by : (short : Bool) → ltb n 6 ≡ short → unlock_by (Some r) g size n key ≡ unlock_by (Some r) g size n key'
    by true e = rw e
    by false e = rw (h (ltb-false n 6 e))

module _ (v : Seen) (nc nm : ℕ) where
  the_alike : (c : Command) (p q : Packet) → Alike p q → fewest c ≤ q.n → judge_the c p v nc nm ≡ judge_the c q v nc nm
  unfolding judge_the
  the_alike Unknown p q s f = refl
  the_alike Connect p q s f = rw (s.byte1 f)
  the_alike Disconnect p q s f = refl
  the_alike GetStatus p q s f = refl
  the_alike Synch p q s f = refl
  the_alike GetSeed p q s f = rw (s.byte1 (omega arith), s.byte2 f)
  the_alike Unlock p q s f = rw (s.byte1 f, s.long) (unlock_alike v.seed v.generator q.b1 q.n p.d2 q.d2 s.long2)
  the_alike SetMta p q s f = rw (s.byte3 (omega arith), s.long4 f)
  the_alike Upload p q s f = rw (s.byte1 f)
  the_alike ShortUpload p q s f = rw (s.byte1 (omega arith), s.byte3 (omega arith), s.long4 f)
  the_alike BuildChecksum p q s f = rw (s.long4 f)
  the_alike Download p q s f = rw (s.byte1 f, s.long)
  the_alike ShortDownload p q s f = rw (s.byte1 (omega arith), s.byte3 (omega arith), s.long4 f, s.long)
  the_alike ClearDaqList p q s f = rw (s.word2 f)
  the_alike SetDaqPtr p q s f = rw (s.word2 (omega arith), s.byte4 (omega arith), s.byte5 f)
  the_alike WriteDaq p q s f = rw (s.byte1 (omega arith), s.byte2 (omega arith), s.byte3 (omega arith), s.long4 f)
  the_alike SetDaqListMode p q s f = rw (s.byte1 (omega arith), s.word2 (omega arith), s.word4 (omega arith), s.byte6 (omega arith), s.byte7 f)
  the_alike StartStopDaqList p q s f = rw (s.byte1 (omega arith), s.word2 f)
  the_alike StartStopSynch p q s f = rw (s.byte1 f)
  the_alike GetDaqProcessorInfo p q s f = refl
  the_alike GetDaqResolutionInfo p q s f = refl
  the_alike FreeDaq p q s f = refl
  the_alike AllocDaq p q s f = rw (s.word2 f)
  the_alike AllocOdt p q s f = rw (s.word2 (omega arith), s.byte4 f)
  the_alike AllocOdtEntry p q s f = rw (s.word2 (omega arith), s.byte4 (omega arith), s.byte5 f)

  -- a verdict by the packet's length, and by its own checks
  unfoldable by_length : Command → ℕ → Deed → Deed
  by_length c n d = cond (ltb n (fewest c)) (Refuse TooShort) (cond (locked_by (needs_of c) v) (Refuse Locked) d)

  pub judge_alike : (c : Command) (p q : Packet) → Alike p q → judge_by c p v nc nm ≡ judge_by c q v nc nm
  unfolding judge_by by_length
  judge_alike c p q s = ap (λ (n : ℕ). by_length c n (judge_the c p v nc nm)) s.long ∙ by (ltb q.n (fewest c)) refl
    where
      by : (short : Bool) → ltb q.n (fewest c) ≡ short → by_length c q.n (judge_the c p v nc nm) ≡ judge_by c q v nc nm
      by true e = rw e
      by false e = ap (by_length c q.n) (the_alike c p q s (ltb-false q.n (fewest c) e))

-- ---- what is seen: of one list and one ODT no more than of those that the packet names
pub record Seeing (v w : Seen) : Type 0 where
  pub wrong_keys : v.wrong_keys ≡ w.wrong_keys
  pub calibration : v.calibration ≡ w.calibration
  pub lists : v.lists ≡ w.lists
  pub seed : v.seed ≡ w.seed
  pub generator : v.generator ≡ w.generator
  pub mta : v.mta ≡ w.mta
  pub pointer : v.pointer ≡ w.pointer
  pub freed : v.freed ≡ w.freed
  pub present : v.present ≡ w.present
  pub odts_taken : v.odts_taken ≡ w.odts_taken
  pub entries_taken : v.entries_taken ≡ w.entries_taken
  pub pointed : v.pointed ≡ w.pointed
  pub ready : v.ready ≡ w.ready
  pub started : v.started ≡ w.started

-- of the list
pub record Naming (v w : Seen) : Type 0 where
  pub odts : v.odts ≡ w.odts
  pub runs : v.runs ≡ w.runs
  pub fits : v.fits ≡ w.fits

-- a start alone looks at the lists
pub start_asks : (present : ℕ) (runs runs' fits fits' : Bool) (mode l : ℕ) → eqb mode 1 ≡ false → start_stop_deed present runs fits mode l ≡ start_stop_deed present runs' fits' mode l
unfolding start_stop_deed
start_asks present runs runs' fits fits' mode l e = rw e

pub synch_asks : (ready ready' : Bool) (mode : ℕ) → eqb mode 1 ≡ false → synch_deed ready mode ≡ synch_deed ready' mode
unfolding synch_deed
synch_asks ready ready' mode e = rw e

-- of a list without ODTs nothing more is asked, not even its number
pub entries_ask : (all taken taken' : ℕ) (runs runs' : Bool) (l l' o n : ℕ) → alloc_entries_deed 0 0 all taken runs l o n ≡ alloc_entries_deed 0 0 all taken' runs' l' o n
unfolding alloc_entries_deed
entries_ask all taken taken' runs runs' l l' o n = rw (le-leb 0 o (omega arith))

module _ (p : Packet) (v w : Seen) (s : Seeing v w) (nc nm : ℕ) where
  -- the list lies in a packet's bytes 2 and 3, the ODT in byte 4
  the_looked : (c : Command) → (4 ≤ fewest c → Naming v w) → (5 ≤ fewest c → v.entries ≡ w.entries) → judge_the c p v nc nm ≡ judge_the c p w nc nm
  unfolding judge_the
  the_looked Unknown h o = refl
  the_looked Connect h o = refl
  the_looked Disconnect h o = refl
  the_looked GetStatus h o = refl
  the_looked Synch h o = refl
  the_looked GetSeed h o = rw (s.wrong_keys, s.calibration, s.lists)
  the_looked Unlock h o = rw (s.seed, s.generator)
  the_looked SetMta h o = refl
  the_looked Upload h o = rw s.mta
  the_looked ShortUpload h o = refl
  the_looked BuildChecksum h o = rw s.mta
  the_looked Download h o = rw s.mta
  the_looked ShortDownload h o = refl
  the_looked ClearDaqList h o = rw (s.present, (h (omega arith)).runs)
  the_looked SetDaqPtr h o = rw (s.present, (h (omega arith)).odts, o (omega arith))
  the_looked WriteDaq h o = rw (s.pointer, s.pointed)
  the_looked SetDaqListMode h o = rw (s.present, (h (omega arith)).runs)
  the_looked StartStopDaqList h o = rw (s.present, (h (omega arith)).runs, (h (omega arith)).fits)
  the_looked StartStopSynch h o = rw s.ready
  the_looked GetDaqProcessorInfo h o = refl
  the_looked GetDaqResolutionInfo h o = refl
  the_looked FreeDaq h o = refl
  the_looked AllocDaq h o = rw (s.freed, s.present)
  the_looked AllocOdt h o = rw (s.present, (h (omega arith)).odts, s.odts_taken, s.entries_taken, s.started)
  the_looked AllocOdtEntry h o = rw ((h (omega arith)).odts, o (omega arith), s.odts_taken, s.entries_taken, (h (omega arith)).runs)

  locked_seen : (n : Needs) → locked_by n v ≡ locked_by n w
  locked_seen None = refl
  locked_seen (Some Calibration) = rw s.calibration
  locked_seen (Some Lists) = rw s.lists

  pub judge_looked : (c : Command) → (4 ≤ fewest c → Naming v w) → (5 ≤ fewest c → v.entries ≡ w.entries) → judge_by c p v nc nm ≡ judge_by c p w nc nm
  unfolding judge_by
  judge_looked c h o = rw (locked_seen (needs_of c), the_looked c h o)
