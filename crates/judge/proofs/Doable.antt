-- What is judged can be done: what performing a deed leans on was tested. Assumes that what is seen is of the session.
use Rattle.std.proofs.Common.{Some, None, ℕ, ◌+◌, ◌≤◌, ◌<◌, arith, ◌≡◌, sym, ◌∙◌, Bool, ltb-false, leb-false, eqb, ltb, leb}
use Prim.{tt}
use Rattle.std.proofs.lemmas.Bool.{cond_both}
use Rattle.state.specs.Layout.{lists, all_odts, all_entries, events, entry_most, upload_most, download_from, download_most, short_download_from, short_download_most, addressable}
use Rattle.state.specs.Generator.{key_of, stays_shut}
use Rattle.state.specs.Memory.{pick, inside_of}
use Rattle.words.specs.Command.{command_of, fewest, needs_of}
use Rattle.model.specs.Judge.{extension_from, connect_deed, seed_deed, get_seed_deed, unlock_by, set_mta_deed, upload_deed, short_upload_deed, checksum_deed, download_to, download_deed, short_download_deed, clear_deed, pointer_deed, write_block, write_deed, mode_deed, start_deed, start_stop_deed, synch_deed, alloc_lists_deed, alloc_odts_deed, alloc_entries_deed, locked_by, judge_the, judge_by, judge}
use Rattle.model.specs.Model.{Session, odts_taken, entries_taken}
use Rattle.judge.specs.Doable.{Entered, Doable}
use Rattle.words.specs.declared.Command.{Command}
use Rattle.words.specs.declared.Command.TheVariants.{Unknown, Connect, Disconnect, GetStatus, Synch, GetSeed, Unlock, SetMta, Upload, ShortUpload, BuildChecksum, Download, ShortDownload, ClearDaqList, SetDaqPtr, WriteDaq, SetDaqListMode, StartStopDaqList, StartStopSynch, GetDaqProcessorInfo, GetDaqResolutionInfo, FreeDaq, AllocDaq, AllocOdt, AllocOdtEntry}
use Rattle.words.specs.declared.Resource.{Resource}
use Rattle.words.specs.declared.Resource.TheVariants.{Calibration, Lists}
use Rattle.words.specs.declared.Extension.{Extension}
use Rattle.words.specs.declared.Extension.TheVariants.{Calibration as CalibrationMemory, Measured}
use Rattle.words.specs.Values.{Seed}
use Rattle.words.specs.declared.Mta.{Mta}
use Rattle.words.specs.declared.Mta.TheVariants.{Unset, At}
use Rattle.words.specs.declared.Pointer.{Pointer}
use Rattle.words.specs.declared.Pointer.TheVariants.{Unset as NoEntry, At as Entry}
use Rattle.model.specs.declared.Deed.{Deed}
use Rattle.model.specs.Seen.{Packet, Seen}

-- a pointer at an entry that there is
abbrev pub Pointing : Pointer → Session → Type 0
Pointing NoEntry c = Unit
Pointing (Entry l o e) c = Entered c l o e

-- what is seen of session c for packet p; a list that has ODTs is there
pub record Sees (c : Session) (p : Packet) (v : Seen) : Type 0 where
  pub freed : v.freed ≡ c.freed
  pub present : v.present ≡ c.lists
  pub odts_taken : v.odts_taken ≡ odts_taken c
  pub entries_taken : v.entries_taken ≡ entries_taken c
  pub odts : v.odts ≡ (c.list p.w2).odts
  pub entries : v.entries ≡ ((c.list p.w2).odt p.b4).entries
  pub there : 0 < (c.list p.w2).odts → p.w2 < c.lists
  pub pointer : Pointing v.pointer c

module _ (c : Session) (n nc nm : ℕ) where
  -- such a deed can be done
  abbrev Can : Deed → Type 0
  Can d = Doable d c n nc nm

  connect_doable : (mode : ℕ) → Can (connect_deed mode)
  unfolding connect_deed
  connect_doable mode = cond_both (eqb mode 0) _ _ Can (λ _. tt) (λ _. tt)

  seed_doable : (unlocked : Bool) (r : Resource) → Can (seed_deed unlocked r)
  seed_doable unlocked r = cond_both unlocked _ _ Can (λ _. tt) (λ _. tt)

  get_seed_doable : (wrong : ℕ) (calibration lists : Bool) (mode resource : ℕ) → Can (get_seed_deed wrong calibration lists mode resource)
  unfolding get_seed_deed
  get_seed_doable wrong calibration lists mode resource =
      cond_both (stays_shut wrong) _ _ Can (λ _. tt) (λ _.
      cond_both (eqb mode 1) _ _ Can (λ _. tt) (λ _.
      cond_both (ltb 1 mode) _ _ Can (λ _. tt) (λ _.
      cond_both (eqb resource 0x01) _ _ Can (λ _. seed_doable calibration Calibration) (λ _.
      cond_both (eqb resource 0x04) _ _ Can (λ _. seed_doable lists Lists) (λ _. tt)))))

  unlock_doable : (seed : Seed) (g size len key : ℕ) → Can (unlock_by seed g size len key)
  unfolding unlock_by
  unlock_doable None g size len key = tt
  unlock_doable (Some r) g size len key =
      cond_both (eqb size 4) _ _ Can (λ _.
      cond_both (ltb len 6) _ _ Can (λ _. tt) (λ _.
      cond_both (eqb key (key_of r g)) _ _ Can (λ _. tt) (λ _. tt))) (λ _. tt)

  set_mta_doable : (ext a : ℕ) → Can (set_mta_deed ext a)
  unfolding set_mta_deed
  set_mta_doable ext a = cond_both (ltb 1 ext) _ _ Can (λ _. tt) (λ _. tt)

  upload_doable : (mta : Mta) (m : ℕ) → Can (upload_deed mta m nc nm)
  unfolding upload_deed
  upload_doable Unset m = tt
  upload_doable (At e a) m =
      cond_both (eqb m 0) _ _ Can (λ _. tt) (λ _.
      cond_both (ltb upload_most m) _ _ Can (λ _. tt) (λ few.
      cond_both (inside_of a m (pick e nc nm)) _ _ Can (λ inside. (ltb-false upload_most m few, inside)) (λ _. tt)))

  short_upload_doable : (m ext a : ℕ) → Can (short_upload_deed m ext a nc nm)
  unfolding short_upload_deed
  short_upload_doable m ext a =
      cond_both (eqb m 0) _ _ Can (λ _. tt) (λ _.
      cond_both (ltb upload_most m) _ _ Can (λ _. tt) (λ few.
      cond_both (ltb 1 ext) _ _ Can (λ _. tt) (λ _.
      cond_both (inside_of a m (pick (extension_from ext) nc nm)) _ _ Can (λ inside. (ltb-false upload_most m few, inside)) (λ _. tt))))

  checksum_doable : (mta : Mta) (m : ℕ) → Can (checksum_deed mta m nc nm)
  unfolding checksum_deed
  checksum_doable Unset m = tt
  checksum_doable (At e a) m =
      cond_both (eqb m 0) _ _ Can (λ _. tt) (λ _.
      cond_both (ltb addressable m) _ _ Can (λ _. tt) (λ few.
      cond_both (inside_of a m (pick e nc nm)) _ _ Can (λ inside. (ltb-false addressable m few, inside)) (λ _. tt)))

  download_to_doable : (from : ℕ) (e : Extension) (a m : ℕ) → m ≤ download_most → m + from ≤ n → Can (download_to from e a m nc)
  unfolding download_to
  download_to_doable from CalibrationMemory a m few there = cond_both (inside_of a m nc) _ _ Can (λ inside. (there, (few, inside))) (λ _. tt)
  download_to_doable from Measured a m few there = tt

  download_doable : (mta : Mta) (m : ℕ) → Can (download_deed mta m n nc)
  unfolding download_deed
  download_doable Unset m = tt
  download_doable (At e a) m =
      cond_both (eqb m 0) _ _ Can (λ _. tt) (λ _.
      cond_both (ltb download_most m) _ _ Can (λ _. tt) (λ few.
      cond_both (ltb n (m + download_from)) _ _ Can (λ _. tt) (λ there.
      download_to_doable download_from e a m (ltb-false download_most m few) (ltb-false n (m + download_from) there))))

  short_download_doable : (m ext a : ℕ) → Can (short_download_deed m ext a n nc)
  unfolding short_download_deed
  short_download_doable m ext a =
      cond_both (eqb m 0) _ _ Can (λ _. tt) (λ _.
      cond_both (ltb short_download_most m) _ _ Can (λ _. tt) (λ few.
      cond_both (ltb 1 ext) _ _ Can (λ _. tt) (λ _.
      cond_both (ltb n (m + short_download_from)) _ _ Can (λ _. tt) (λ there.
      download_to_doable short_download_from (extension_from ext) a m (omega (arith, ltb-false short_download_most m few)) (ltb-false n (m + short_download_from) there)))))

  clear_doable : (present : ℕ) → present ≡ c.lists → (runs : Bool) (l : ℕ) → Can (clear_deed present runs l)
  unfolding clear_deed
  clear_doable present all runs l =
      cond_both (leb present l) _ _ Can (λ _. tt) (λ one.
      cond_both runs _ _ Can (λ _. tt) (λ _. omega (arith, all, leb-false present l one)))

  pointer_doable : (present odts entries l o e : ℕ) → present ≡ c.lists → odts ≡ (c.list l).odts → entries ≡ ((c.list l).odt o).entries → Can (pointer_deed present odts entries l o e)
  unfolding pointer_deed
  pointer_doable present odts entries l o e all its each =
      cond_both (leb present l) _ _ Can (λ _. tt) (λ list.
      cond_both (leb odts o) _ _ Can (λ _. tt) (λ odt.
      cond_both (leb entries e) _ _ Can (λ _. tt) (λ entry.
      (omega (arith, all, leb-false present l list), omega (arith, its, leb-false odts o odt), omega (arith, each, leb-false entries e entry)))))

  write_block_doable : (l o e m : ℕ) (ext : Extension) (a len : ℕ) → Entered c l o e → Can (write_block l o e m ext a len)
  unfolding write_block
  write_block_doable l o e m ext a len there =
      cond_both (eqb m 0) _ _ Can (λ _. there) (λ _.
      cond_both (inside_of a m len) _ _ Can (λ _. there) (λ _. tt))

  write_doable : (at : Pointer) → Pointing at c → (runs : Bool) (bit m ext a : ℕ) → Can (write_deed at runs bit m ext a nc nm)
  unfolding write_deed
  write_doable NoEntry _ runs bit m ext a = tt
  write_doable (Entry l o e) there runs bit m ext a =
      cond_both (eqb bit 0xFF) _ _ Can (λ _.
      cond_both (ltb entry_most m) _ _ Can (λ _. tt) (λ _.
      cond_both (ltb 1 ext) _ _ Can (λ _. tt) (λ _.
      cond_both runs _ _ Can (λ _. tt) (λ _.
      write_block_doable l o e m (extension_from ext) a (pick (extension_from ext) nc nm) there)))) (λ _. tt)

  mode_doable : (present : ℕ) → present ≡ c.lists → (runs : Bool) (mode l event prescaler priority : ℕ) → Can (mode_deed present runs mode l event prescaler priority)
  unfolding mode_deed
  mode_doable present all runs mode l event prescaler priority =
      cond_both (eqb mode 0x10) _ _ Can (λ _.
      cond_both (leb present l) _ _ Can (λ _. tt) (λ list.
      cond_both (leb events event) _ _ Can (λ _. tt) (λ few.
      cond_both (eqb prescaler 1) _ _ Can (λ _.
      cond_both (eqb priority 0) _ _ Can (λ _.
      cond_both runs _ _ Can (λ _. tt) (λ _.
      (omega (arith, all, leb-false present l list), leb-false events event few))) (λ _. tt)) (λ _. tt)))) (λ _. tt)

  start_doable : (runs fits : Bool) (l : ℕ) → l < c.lists → Can (start_deed runs fits l)
  unfolding start_deed
  start_doable runs fits l list =
      cond_both runs _ _ Can (λ _. list) (λ _.
      cond_both fits _ _ Can (λ _. list) (λ _. tt))

  start_stop_doable : (present : ℕ) → present ≡ c.lists → (runs fits : Bool) (mode l : ℕ) → Can (start_stop_deed present runs fits mode l)
  unfolding start_stop_deed
  start_stop_doable present all runs fits mode l =
      cond_both (ltb 2 mode) _ _ Can (λ _. tt) (λ _.
      cond_both (leb present l) _ _ Can (λ _. tt) (λ list.
      let there : l < c.lists = omega (arith, all, leb-false present l list) in
      cond_both (eqb mode 0) _ _ Can (λ _. there) (λ _.
      cond_both (eqb mode 1) _ _ Can (λ _. start_doable runs fits l there) (λ _. there))))

  synch_doable : (ready : Bool) (mode : ℕ) → Can (synch_deed ready mode)
  unfolding synch_deed
  synch_doable ready mode =
      cond_both (ltb 2 mode) _ _ Can (λ _. tt) (λ _.
      cond_both (eqb mode 0) _ _ Can (λ _. tt) (λ _.
      cond_both (eqb mode 1) _ _ Can (λ _.
      cond_both ready _ _ Can (λ _. tt) (λ _. tt)) (λ _. tt)))

  alloc_lists_doable : (freed : Bool) (present m : ℕ) → freed ≡ c.freed → present ≡ c.lists → Can (alloc_lists_deed freed present m)
  unfolding alloc_lists_deed
  alloc_lists_doable freed present m free all =
      cond_both freed _ _ Can (λ on.
      cond_both (ltb 0 present) _ _ Can (λ _. tt) (λ none.
      cond_both (eqb m 0) _ _ Can (λ _. tt) (λ _.
      cond_both (ltb lists m) _ _ Can (λ _. tt) (λ few.
      (sym free ∙ on, omega (arith, all, ltb-false 0 present none), ltb-false lists m few))))) (λ _. tt)

module _ (c : Session) (p : Packet) (v : Seen) (s : Sees c p v) (nc nm : ℕ) where
  abbrev Allowed : Deed → Type 0
  Allowed d = Doable d c p.n nc nm

  alloc_odts_doable : (m : ℕ) → Allowed (alloc_odts_deed v.present v.odts v.odts_taken v.entries_taken v.started p.w2 m)
  unfolding alloc_odts_deed
  alloc_odts_doable m =
      cond_both (eqb v.present 0) _ _ Allowed (λ _. tt) (λ _.
      cond_both (ltb 0 v.entries_taken) _ _ Allowed (λ _. tt) (λ empty.
      cond_both (ltb 0 v.odts) _ _ Allowed (λ _. tt) (λ none.
      cond_both v.started _ _ Allowed (λ _. tt) (λ _.
      cond_both (leb v.present p.w2) _ _ Allowed (λ _. tt) (λ list.
      cond_both (eqb m 0) _ _ Allowed (λ _. tt) (λ _.
      cond_both (ltb all_odts (v.odts_taken + m)) _ _ Allowed (λ _. tt) (λ few.
      (omega (arith, s.present, leb-false v.present p.w2 list), omega (arith, s.odts, ltb-false 0 v.odts none), omega (arith, s.entries_taken, ltb-false 0 v.entries_taken empty), omega (arith, s.odts_taken, ltb-false all_odts (v.odts_taken + m) few)))))))))

  alloc_entries_doable : (m : ℕ) → Allowed (alloc_entries_deed v.odts v.entries v.odts_taken v.entries_taken v.runs p.w2 p.b4 m)
  unfolding alloc_entries_deed
  alloc_entries_doable m =
      cond_both (eqb v.odts_taken 0) _ _ Allowed (λ _. tt) (λ _.
      cond_both (ltb 0 v.entries) _ _ Allowed (λ _. tt) (λ none.
      cond_both (leb v.odts p.b4) _ _ Allowed (λ _. tt) (λ odt.
      cond_both (eqb m 0) _ _ Allowed (λ _. tt) (λ _.
      cond_both v.runs _ _ Allowed (λ _. tt) (λ _.
      cond_both (ltb all_entries (v.entries_taken + m)) _ _ Allowed (λ _. tt) (λ few.
      let its : p.b4 < (c.list p.w2).odts = omega (arith, s.odts, leb-false v.odts p.b4 odt) in
      (s.there (omega (arith, its)), its, omega (arith, s.entries, ltb-false 0 v.entries none), omega (arith, s.entries_taken, ltb-false all_entries (v.entries_taken + m) few))))))))

  the_doable : (a : Command) → Allowed (judge_the a p v nc nm)
  unfolding judge_the
  the_doable Unknown = tt
  the_doable Connect = connect_doable c p.n nc nm p.b1
  the_doable Disconnect = tt
  the_doable GetStatus = tt
  the_doable Synch = tt
  the_doable GetSeed = get_seed_doable c p.n nc nm v.wrong_keys v.calibration v.lists p.b1 p.b2
  the_doable Unlock = unlock_doable c p.n nc nm v.seed v.generator p.b1 p.n p.d2
  the_doable SetMta = set_mta_doable c p.n nc nm p.b3 p.d4
  the_doable Upload = upload_doable c p.n nc nm v.mta p.b1
  the_doable ShortUpload = short_upload_doable c p.n nc nm p.b1 p.b3 p.d4
  the_doable BuildChecksum = checksum_doable c p.n nc nm v.mta p.d4
  the_doable Download = download_doable c p.n nc nm v.mta p.b1
  the_doable ShortDownload = short_download_doable c p.n nc nm p.b1 p.b3 p.d4
  the_doable ClearDaqList = clear_doable c p.n nc nm v.present s.present v.runs p.w2
  the_doable SetDaqPtr = pointer_doable c p.n nc nm v.present v.odts v.entries p.w2 p.b4 p.b5 s.present s.odts s.entries
  the_doable WriteDaq = write_doable c p.n nc nm v.pointer s.pointer v.pointed p.b1 p.b2 p.b3 p.d4
  the_doable SetDaqListMode = mode_doable c p.n nc nm v.present s.present v.runs p.b1 p.w2 p.w4 p.b6 p.b7
  the_doable StartStopDaqList = start_stop_doable c p.n nc nm v.present s.present v.runs v.fits p.b1 p.w2
  the_doable StartStopSynch = synch_doable c p.n nc nm v.ready p.b1
  the_doable GetDaqProcessorInfo = tt
  the_doable GetDaqResolutionInfo = tt
  the_doable FreeDaq = tt
  the_doable AllocDaq = alloc_lists_doable c p.n nc nm v.freed v.present p.w2 s.freed s.present
  the_doable AllocOdt = alloc_odts_doable p.b4
  the_doable AllocOdtEntry = alloc_entries_doable p.b5

  by_doable : (a : Command) → Allowed (judge_by a p v nc nm)
  unfolding judge_by
  by_doable a =
      cond_both (ltb p.n (fewest a)) _ _ Allowed (λ _. tt) (λ _.
      cond_both (locked_by (needs_of a) v) _ _ Allowed (λ _. tt) (λ _. the_doable a))

  pub judge_doable : Allowed (judge p v nc nm)
  unfolding judge
  judge_doable = by_doable (command_of p.b0)
