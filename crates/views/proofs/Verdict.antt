-- What judging a command has found out, by the deed that it leads to: one case a deed, with the facts of packet and session that it was judged by. What
-- is said of every verdict goes by these cases, and not through the checks again. Assumes nothing.
use Rattle.std.proofs.Common.{◌≡◌, ℕ, ◌+◌, ◌<◌, ◌≤◌, Bool, true, false, eqb, ltb, leb, ◌≢◌, Some, None, refl, ap, ◌∙◌, arith, ltb-false, eqb-true, leb-false}
use Rattle.std.proofs.lemmas.Bool.{eqb-false, not-false}
use Rattle.line.proofs.Laws.{cond_ind}
use Rattle.state.specs.Layout.{lists, all_odts, all_entries, events, entry_most, upload_most, download_from, download_most, short_download_from, short_download_most, addressable}
use Rattle.state.specs.Generator.{key_of, stays_shut}
use Rattle.state.specs.Memory.{pick, inside_of}
use Rattle.words.specs.Command.{command_of, fewest, needs_of}
use Rattle.model.specs.Judge.{extension_from, connect_deed, seed_deed, get_seed_deed, unlock_by, set_mta_deed, upload_deed, short_upload_deed, checksum_deed, download_to, download_deed, short_download_deed, clear_deed, pointer_deed, write_block, write_deed, mode_deed, start_deed, start_stop_deed, synch_deed, alloc_lists_deed, alloc_odts_deed, alloc_entries_deed, locked_by, judge_the, judge_by, judge}
use Rattle.judge.specs.Doable.{Inside}
use Rattle.words.specs.declared.Command.{Command}
use Rattle.words.specs.declared.Command.TheVariants.{Unknown, Connect, Disconnect, GetStatus, Synch, GetSeed, Unlock, SetMta, Upload, ShortUpload, BuildChecksum, Download, ShortDownload, ClearDaqList, SetDaqPtr, WriteDaq, SetDaqListMode, StartStopDaqList, StartStopSynch, GetDaqProcessorInfo, GetDaqResolutionInfo, FreeDaq, AllocDaq, AllocOdt, AllocOdtEntry}
use Rattle.words.specs.declared.Reason.{Reason}
use Rattle.words.specs.declared.Resource.{Resource}
use Rattle.words.specs.declared.Resource.TheVariants.{Calibration, Lists}
use Rattle.words.specs.declared.Extension.{Extension}
use Rattle.words.specs.declared.Extension.TheVariants.{Calibration as CalibrationMemory, Measured}
use Rattle.words.specs.Values.{Seed}
use Rattle.words.specs.declared.Mta.{Mta}
use Rattle.words.specs.declared.Mta.TheVariants.{Unset, At}
use Rattle.words.specs.declared.Pointer.{Pointer}
use Rattle.words.specs.declared.Pointer.TheVariants.{Unset as NoEntry, At as Entry}
use Rattle.model.specs.declared.Deed.{Deed}
use Rattle.model.specs.declared.Deed.TheVariants as deed
use Rattle.model.specs.Seen.{Packet, Seen}

-- UNLOCK with four key bytes, for the seed that is out
pub record Keyed (p : Packet) (v : Seen) (r : Resource) : Type 0 where
  pub seed : v.seed ≡ Some r
  pub four : p.b1 ≡ 4
  pub long : 6 ≤ p.n

-- the entry that is pointed to, of a list that does not run
pub record Pointing (v : Seen) (l o e : ℕ) : Type 0 where
  pub here : v.pointer ≡ Entry l o e
  pub still : v.pointed ≡ false

-- of command c
pub data Verdict (p : Packet) (v : Seen) (nc nm : ℕ) : Command → Deed → Type 0 where
  refused : (c : Command) (r : Reason) → Verdict p v nc nm c (deed.Refuse r)
  connects : Verdict p v nc nm Connect deed.Connect
  disconnects : Verdict p v nc nm Disconnect deed.Disconnect
  tells : Verdict p v nc nm GetStatus deed.Status
  synchs : Verdict p v nc nm Synch deed.Synch
  no_seed_lem : Verdict p v nc nm GetSeed deed.NoSeed
  gives : (r : Resource) → stays_shut v.wrong_keys ≡ false → Verdict p v nc nm GetSeed (deed.GiveSeed r)
  unlocks : (r : Resource) → Keyed p v r → eqb p.d2 (key_of r v.generator) ≡ true → Verdict p v nc nm Unlock (deed.Unlock r)
  wrong : (r : Resource) → Keyed p v r → eqb p.d2 (key_of r v.generator) ≡ false → Verdict p v nc nm Unlock deed.WrongKey
  sets : Verdict p v nc nm SetMta (deed.SetMta (extension_from p.b3) p.d4)
  uploads : (x : Extension) (a : ℕ) → v.mta ≡ At x a → Inside upload_most a p.b1 (pick x nc nm) → Verdict p v nc nm Upload (deed.Upload x a p.b1)
  shorts : Inside upload_most p.d4 p.b1 (pick (extension_from p.b3) nc nm) → Verdict p v nc nm ShortUpload (deed.Upload (extension_from p.b3) p.d4 p.b1)
  no_size_lem : Verdict p v nc nm BuildChecksum deed.RefuseSize
  sums : (x : Extension) (a : ℕ) → v.mta ≡ At x a → Inside addressable a p.d4 (pick x nc nm) → Verdict p v nc nm BuildChecksum (deed.Checksum x a p.d4)
  downloads : (a : ℕ) → v.calibration ≡ true → v.mta ≡ At CalibrationMemory a → p.b1 + download_from ≤ p.n → Inside download_most a p.b1 nc
      → Verdict p v nc nm Download (deed.Download download_from a p.b1)
  short_downloads : v.calibration ≡ true → extension_from p.b3 ≡ CalibrationMemory → p.b1 + short_download_from ≤ p.n → Inside short_download_most p.d4 p.b1 nc
      → Verdict p v nc nm ShortDownload (deed.Download short_download_from p.d4 p.b1)
  clears : v.lists ≡ true → p.w2 < v.present → v.runs ≡ false → Verdict p v nc nm ClearDaqList (deed.ClearList p.w2)
  points : v.lists ≡ true → p.w2 < v.present → p.b4 < v.odts → p.b5 < v.entries → Verdict p v nc nm SetDaqPtr (deed.SetPointer p.w2 p.b4 p.b5)
  zeroes : (l o e : ℕ) → v.lists ≡ true → Pointing v l o e → Verdict p v nc nm WriteDaq (deed.ClearEntry l o e)
  writes : (l o e : ℕ) → v.lists ≡ true → Pointing v l o e → p.b2 ≢ 0 → Inside entry_most p.d4 p.b2 (pick (extension_from p.b3) nc nm)
      → Verdict p v nc nm WriteDaq (deed.WriteEntry l o e p.b2 (extension_from p.b3) p.d4)
  modes : v.lists ≡ true → p.w2 < v.present → p.w4 < events → v.runs ≡ false → Verdict p v nc nm SetDaqListMode (deed.SetMode p.w2 p.w4)
  stops : v.lists ≡ true → p.w2 < v.present → Verdict p v nc nm StartStopDaqList (deed.Stop p.w2)
  starts : v.lists ≡ true → p.w2 < v.present → p.b1 ≡ 1 → v.runs ≡ false → v.fits ≡ true → Verdict p v nc nm StartStopDaqList (deed.Start p.w2)
  goes_on_lem : v.lists ≡ true → p.w2 < v.present → Verdict p v nc nm StartStopDaqList (deed.KeepRunning p.w2)
  selects : v.lists ≡ true → p.w2 < v.present → Verdict p v nc nm StartStopDaqList (deed.Select p.w2)
  stops_all_lem : v.lists ≡ true → Verdict p v nc nm StartStopSynch deed.StopAll
  starts_all : v.lists ≡ true → p.b1 ≡ 1 → v.ready ≡ true → Verdict p v nc nm StartStopSynch deed.StartSelected
  stops_some : v.lists ≡ true → Verdict p v nc nm StartStopSynch deed.StopSelected
  processor : Verdict p v nc nm GetDaqProcessorInfo deed.ProcessorInfo
  resolution : Verdict p v nc nm GetDaqResolutionInfo deed.ResolutionInfo
  frees : v.lists ≡ true → Verdict p v nc nm FreeDaq deed.FreeLists
  allocs_lists : v.lists ≡ true → v.freed ≡ true → v.present ≡ 0 → p.w2 ≢ 0 → p.w2 ≤ lists → Verdict p v nc nm AllocDaq (deed.AllocLists p.w2)
  allocs_odts : v.lists ≡ true → p.w2 < v.present → v.odts ≡ 0 → v.entries_taken ≡ 0 → v.started ≡ false → p.b4 ≢ 0 → v.odts_taken + p.b4 ≤ all_odts
      → Verdict p v nc nm AllocOdt (deed.AllocOdts p.w2 p.b4)
  allocs_entries : v.lists ≡ true → p.b4 < v.odts → v.entries ≡ 0 → v.runs ≡ false → p.b5 ≢ 0 → v.entries_taken + p.b5 ≤ all_entries
      → Verdict p v nc nm AllocOdtEntry (deed.AllocEntries p.w2 p.b4 p.b5)

-- what a test found to be none, and to be some
pub no_more : (n : ℕ) → ltb 0 n ≡ false → n ≡ 0
no_more n none = omega (arith, ltb-false 0 n none)

pub at_least : (n : ℕ) → n ≢ 0 → 1 ≤ n
at_least n some = omega arith

module _ (p : Packet) (v : Seen) (nc nm : ℕ) where
  abbrev Led : Command → Deed → Type 0
  Led c d = Verdict p v nc nm c d

  connect_found : Led Connect (connect_deed p.b1)
  unfolding connect_deed
  connect_found = cond_ind (Led Connect) (eqb p.b1 0) (λ _. connects) (λ _. refused Connect _)

  seed_found : stays_shut v.wrong_keys ≡ false → (unlocked : Bool) (r : Resource) → Led GetSeed (seed_deed unlocked r)
  seed_found still unlocked r = cond_ind (Led GetSeed) unlocked (λ _. no_seed_lem) (λ _. gives r still)

  get_seed_found : Led GetSeed (get_seed_deed v.wrong_keys v.calibration v.lists p.b1 p.b2)
  unfolding get_seed_deed
  get_seed_found =
      cond_ind (Led GetSeed) (stays_shut v.wrong_keys) (λ _. refused GetSeed _) (λ still.
      cond_ind (Led GetSeed) (eqb p.b1 1) (λ _. refused GetSeed _) (λ _.
      cond_ind (Led GetSeed) (ltb 1 p.b1) (λ _. refused GetSeed _) (λ _.
      cond_ind (Led GetSeed) (eqb p.b2 0x01) (λ _. seed_found still v.calibration Calibration) (λ _.
      cond_ind (Led GetSeed) (eqb p.b2 0x04) (λ _. seed_found still v.lists Lists) (λ _. refused GetSeed _)))))

  unlock_found : (s : Seed) → v.seed ≡ s → Led Unlock (unlock_by s v.generator p.b1 p.n p.d2)
  unfolding unlock_by
  unlock_found None e = refused Unlock _
  unlock_found (Some r) e =
      cond_ind (Led Unlock) (eqb p.b1 4) (λ four.
      cond_ind (Led Unlock) (ltb p.n 6) (λ _. refused Unlock _) (λ long.
      cond_ind (Led Unlock) (eqb p.d2 (key_of r v.generator))
      (unlocks r (record { seed = e; four = eqb-true p.b1 4 four; long = ltb-false p.n 6 long }))
      (wrong r (record { seed = e; four = eqb-true p.b1 4 four; long = ltb-false p.n 6 long })))) (λ _. refused Unlock _)

  set_mta_found : Led SetMta (set_mta_deed p.b3 p.d4)
  unfolding set_mta_deed
  set_mta_found = cond_ind (Led SetMta) (ltb 1 p.b3) (λ _. refused SetMta _) (λ _. sets)

  upload_found : (m : Mta) → v.mta ≡ m → Led Upload (upload_deed m p.b1 nc nm)
  unfolding upload_deed
  upload_found Unset there = refused Upload _
  upload_found (At x a) there =
      cond_ind (Led Upload) (eqb p.b1 0) (λ _. refused Upload _) (λ _.
      cond_ind (Led Upload) (ltb upload_most p.b1) (λ _. refused Upload _) (λ few.
      cond_ind (Led Upload) (inside_of a p.b1 (pick x nc nm)) (λ inside. uploads x a there (ltb-false upload_most p.b1 few, inside)) (λ _. refused Upload _)))

  short_upload_found : Led ShortUpload (short_upload_deed p.b1 p.b3 p.d4 nc nm)
  unfolding short_upload_deed
  short_upload_found =
      cond_ind (Led ShortUpload) (eqb p.b1 0) (λ _. refused ShortUpload _) (λ _.
      cond_ind (Led ShortUpload) (ltb upload_most p.b1) (λ _. refused ShortUpload _) (λ few.
      cond_ind (Led ShortUpload) (ltb 1 p.b3) (λ _. refused ShortUpload _) (λ _.
      cond_ind (Led ShortUpload) (inside_of p.d4 p.b1 (pick (extension_from p.b3) nc nm)) (λ inside. shorts (ltb-false upload_most p.b1 few, inside)) (λ _. refused ShortUpload _))))

  checksum_found : (m : Mta) → v.mta ≡ m → Led BuildChecksum (checksum_deed m p.d4 nc nm)
  unfolding checksum_deed
  checksum_found Unset there = refused BuildChecksum _
  checksum_found (At x a) there =
      cond_ind (Led BuildChecksum) (eqb p.d4 0) (λ _. no_size_lem) (λ _.
      cond_ind (Led BuildChecksum) (ltb addressable p.d4) (λ _. no_size_lem) (λ few.
      cond_ind (Led BuildChecksum) (inside_of a p.d4 (pick x nc nm)) (λ inside. sums x a there (ltb-false addressable p.d4 few, inside)) (λ _. refused BuildChecksum _)))

  download_to_found : (c : Command) (from : ℕ) (x : Extension) (a : ℕ) → (x ≡ CalibrationMemory → inside_of a p.b1 nc ≡ true → Led c (deed.Download from a p.b1))
      → Led c (download_to from x a p.b1 nc)
  unfolding download_to
  download_to_found c from CalibrationMemory a done = cond_ind (Led c) (inside_of a p.b1 nc) (done refl) (λ _. refused c _)
  download_to_found c from Measured a done = refused c _

  download_found : v.calibration ≡ true → (m : Mta) → v.mta ≡ m → Led Download (download_deed m p.b1 p.n nc)
  unfolding download_deed
  download_found free Unset there = refused Download _
  download_found free (At x a) there =
      cond_ind (Led Download) (eqb p.b1 0) (λ _. refused Download _) (λ _.
      cond_ind (Led Download) (ltb download_most p.b1) (λ _. refused Download _) (λ few.
      cond_ind (Led Download) (ltb p.n (p.b1 + download_from)) (λ _. refused Download _) (λ long.
      download_to_found Download download_from x a (λ is inside. downloads a free (there ∙ ap (λ (y : Extension). At y a) is) (ltb-false p.n (p.b1 + download_from) long)
      (ltb-false download_most p.b1 few, inside)))))

  short_download_found : v.calibration ≡ true → Led ShortDownload (short_download_deed p.b1 p.b3 p.d4 p.n nc)
  unfolding short_download_deed
  short_download_found free =
      cond_ind (Led ShortDownload) (eqb p.b1 0) (λ _. refused ShortDownload _) (λ _.
      cond_ind (Led ShortDownload) (ltb short_download_most p.b1) (λ _. refused ShortDownload _) (λ few.
      cond_ind (Led ShortDownload) (ltb 1 p.b3) (λ _. refused ShortDownload _) (λ _.
      cond_ind (Led ShortDownload) (ltb p.n (p.b1 + short_download_from)) (λ _. refused ShortDownload _) (λ long.
      download_to_found ShortDownload short_download_from (extension_from p.b3) p.d4 (λ is inside. short_downloads free is (ltb-false p.n (p.b1 + short_download_from) long)
      (ltb-false short_download_most p.b1 few, inside))))))

  -- ---- the lists, which are unlocked
  module _ (free : v.lists ≡ true) where
    clear_found : Led ClearDaqList (clear_deed v.present v.runs p.w2)
    unfolding clear_deed
    clear_found =
        cond_ind (Led ClearDaqList) (leb v.present p.w2) (λ _. refused ClearDaqList _) (λ list.
        cond_ind (Led ClearDaqList) v.runs (λ _. refused ClearDaqList _) (λ still. clears free (leb-false v.present p.w2 list) still))

    pointer_found : Led SetDaqPtr (pointer_deed v.present v.odts v.entries p.w2 p.b4 p.b5)
    unfolding pointer_deed
    pointer_found =
        cond_ind (Led SetDaqPtr) (leb v.present p.w2) (λ _. refused SetDaqPtr _) (λ list.
        cond_ind (Led SetDaqPtr) (leb v.odts p.b4) (λ _. refused SetDaqPtr _) (λ odt.
        cond_ind (Led SetDaqPtr) (leb v.entries p.b5) (λ _. refused SetDaqPtr _) (λ entry.
        points free (leb-false v.present p.w2 list) (leb-false v.odts p.b4 odt) (leb-false v.entries p.b5 entry))))

    write_found : (at : Pointer) → v.pointer ≡ at → Led WriteDaq (write_deed at v.pointed p.b1 p.b2 p.b3 p.d4 nc nm)
    unfolding write_deed write_block
    write_found NoEntry here = refused WriteDaq _
    write_found (Entry l o e) here =
        cond_ind (Led WriteDaq) (eqb p.b1 0xFF) (λ _.
        cond_ind (Led WriteDaq) (ltb entry_most p.b2) (λ _. refused WriteDaq _) (λ few.
        cond_ind (Led WriteDaq) (ltb 1 p.b3) (λ _. refused WriteDaq _) (λ _.
        cond_ind (Led WriteDaq) v.pointed (λ _. refused WriteDaq _) (λ still.
        cond_ind (Led WriteDaq) (eqb p.b2 0) (λ _. zeroes l o e free (record { here = here; still = still })) (λ some.
        cond_ind (Led WriteDaq) (inside_of p.d4 p.b2 (pick (extension_from p.b3) nc nm))
        (λ inside. writes l o e free (record { here = here; still = still }) (eqb-false p.b2 0 some) (ltb-false entry_most p.b2 few, inside)) (λ _. refused WriteDaq _)))))) (λ _. refused WriteDaq _)

    mode_found : Led SetDaqListMode (mode_deed v.present v.runs p.b1 p.w2 p.w4 p.b6 p.b7)
    unfolding mode_deed
    mode_found =
        cond_ind (Led SetDaqListMode) (eqb p.b1 0x10) (λ _.
        cond_ind (Led SetDaqListMode) (leb v.present p.w2) (λ _. refused SetDaqListMode _) (λ list.
        cond_ind (Led SetDaqListMode) (leb events p.w4) (λ _. refused SetDaqListMode _) (λ event.
        cond_ind (Led SetDaqListMode) (eqb p.b6 1) (λ _.
        cond_ind (Led SetDaqListMode) (eqb p.b7 0) (λ _.
        cond_ind (Led SetDaqListMode) v.runs (λ _. refused SetDaqListMode _) (λ still.
        modes free (leb-false v.present p.w2 list) (leb-false events p.w4 event) still)) (λ _. refused SetDaqListMode _)) (λ _. refused SetDaqListMode _)))) (λ _. refused SetDaqListMode _)

    start_stop_found : Led StartStopDaqList (start_stop_deed v.present v.runs v.fits p.b1 p.w2)
    unfolding start_stop_deed start_deed
    start_stop_found =
        cond_ind (Led StartStopDaqList) (ltb 2 p.b1) (λ _. refused StartStopDaqList _) (λ _.
        cond_ind (Led StartStopDaqList) (leb v.present p.w2) (λ _. refused StartStopDaqList _) (λ list.
        cond_ind (Led StartStopDaqList) (eqb p.b1 0) (λ _. stops free (leb-false v.present p.w2 list)) (λ _.
        cond_ind (Led StartStopDaqList) (eqb p.b1 1) (λ mode.
        cond_ind (Led StartStopDaqList) v.runs (λ _. goes_on_lem free (leb-false v.present p.w2 list)) (λ still.
        cond_ind (Led StartStopDaqList) v.fits (λ fit. starts free (leb-false v.present p.w2 list) (eqb-true p.b1 1 mode) still fit) (λ _. refused StartStopDaqList _)))
        (λ _. selects free (leb-false v.present p.w2 list)))))

    synch_found : Led StartStopSynch (synch_deed v.ready p.b1)
    unfolding synch_deed
    synch_found =
        cond_ind (Led StartStopSynch) (ltb 2 p.b1) (λ _. refused StartStopSynch _) (λ _.
        cond_ind (Led StartStopSynch) (eqb p.b1 0) (λ _. stops_all_lem free) (λ _.
        cond_ind (Led StartStopSynch) (eqb p.b1 1) (λ mode.
        cond_ind (Led StartStopSynch) v.ready (λ ready. starts_all free (eqb-true p.b1 1 mode) ready) (λ _. refused StartStopSynch _)) (λ _. stops_some free)))

    -- ---- the pool
    alloc_lists_found : Led AllocDaq (alloc_lists_deed v.freed v.present p.w2)
    unfolding alloc_lists_deed
    alloc_lists_found =
        cond_ind (Led AllocDaq) v.freed (λ freed.
        cond_ind (Led AllocDaq) (ltb 0 v.present) (λ _. refused AllocDaq _) (λ none.
        cond_ind (Led AllocDaq) (eqb p.w2 0) (λ _. refused AllocDaq _) (λ some.
        cond_ind (Led AllocDaq) (ltb lists p.w2) (λ _. refused AllocDaq _) (λ few.
        allocs_lists free freed (no_more v.present none) (eqb-false p.w2 0 some) (ltb-false lists p.w2 few))))) (λ _. refused AllocDaq _)

    alloc_odts_found : Led AllocOdt (alloc_odts_deed v.present v.odts v.odts_taken v.entries_taken v.started p.w2 p.b4)
    unfolding alloc_odts_deed
    alloc_odts_found =
        cond_ind (Led AllocOdt) (eqb v.present 0) (λ _. refused AllocOdt _) (λ _.
        cond_ind (Led AllocOdt) (ltb 0 v.entries_taken) (λ _. refused AllocOdt _) (λ unused.
        cond_ind (Led AllocOdt) (ltb 0 v.odts) (λ _. refused AllocOdt _) (λ none.
        cond_ind (Led AllocOdt) v.started (λ _. refused AllocOdt _) (λ still.
        cond_ind (Led AllocOdt) (leb v.present p.w2) (λ _. refused AllocOdt _) (λ list.
        cond_ind (Led AllocOdt) (eqb p.b4 0) (λ _. refused AllocOdt _) (λ some.
        cond_ind (Led AllocOdt) (ltb all_odts (v.odts_taken + p.b4)) (λ _. refused AllocOdt _) (λ room.
        allocs_odts free (leb-false v.present p.w2 list) (no_more v.odts none) (no_more v.entries_taken unused) still (eqb-false p.b4 0 some)
        (ltb-false all_odts (v.odts_taken + p.b4) room))))))))

    alloc_entries_found : Led AllocOdtEntry (alloc_entries_deed v.odts v.entries v.odts_taken v.entries_taken v.runs p.w2 p.b4 p.b5)
    unfolding alloc_entries_deed
    alloc_entries_found =
        cond_ind (Led AllocOdtEntry) (eqb v.odts_taken 0) (λ _. refused AllocOdtEntry _) (λ _.
        cond_ind (Led AllocOdtEntry) (ltb 0 v.entries) (λ _. refused AllocOdtEntry _) (λ none.
        cond_ind (Led AllocOdtEntry) (leb v.odts p.b4) (λ _. refused AllocOdtEntry _) (λ odt.
        cond_ind (Led AllocOdtEntry) (eqb p.b5 0) (λ _. refused AllocOdtEntry _) (λ some.
        cond_ind (Led AllocOdtEntry) v.runs (λ _. refused AllocOdtEntry _) (λ still.
        cond_ind (Led AllocOdtEntry) (ltb all_entries (v.entries_taken + p.b5)) (λ _. refused AllocOdtEntry _) (λ room.
        allocs_entries free (leb-false v.odts p.b4 odt) (no_more v.entries none) still (eqb-false p.b5 0 some)
        (ltb-false all_entries (v.entries_taken + p.b5) room)))))))

  -- ---- a command whose lock is open
  the_found : (c : Command) → locked_by (needs_of c) v ≡ false → Led c (judge_the c p v nc nm)
  unfolding judge_the
  the_found Unknown free = refused Unknown _
  the_found Connect free = connect_found
  the_found Disconnect free = disconnects
  the_found GetStatus free = tells
  the_found Synch free = synchs
  the_found GetSeed free = get_seed_found
  the_found Unlock free = unlock_found v.seed refl
  the_found SetMta free = set_mta_found
  the_found Upload free = upload_found v.mta refl
  the_found ShortUpload free = short_upload_found
  the_found BuildChecksum free = checksum_found v.mta refl
  the_found Download free = download_found (not-false v.calibration free) v.mta refl
  the_found ShortDownload free = short_download_found (not-false v.calibration free)
  the_found ClearDaqList free = clear_found (not-false v.lists free)
  the_found SetDaqPtr free = pointer_found (not-false v.lists free)
  the_found WriteDaq free = write_found (not-false v.lists free) v.pointer refl
  the_found SetDaqListMode free = mode_found (not-false v.lists free)
  the_found StartStopDaqList free = start_stop_found (not-false v.lists free)
  the_found StartStopSynch free = synch_found (not-false v.lists free)
  the_found GetDaqProcessorInfo free = processor
  the_found GetDaqResolutionInfo free = resolution
  the_found FreeDaq free = frees (not-false v.lists free)
  the_found AllocDaq free = alloc_lists_found (not-false v.lists free)
  the_found AllocOdt free = alloc_odts_found (not-false v.lists free)
  the_found AllocOdtEntry free = alloc_entries_found (not-false v.lists free)

  by_found : (c : Command) → Led c (judge_by c p v nc nm)
  unfolding judge_by
  by_found c =
      cond_ind (Led c) (ltb p.n (fewest c)) (λ _. refused c _) (λ _.
      cond_ind (Led c) (locked_by (needs_of c) v) (λ _. refused c _) (λ free. the_found c free))

  pub found : Led (command_of p.b0) (judge p v nc nm)
  unfolding judge
  found = by_found (command_of p.b0)
