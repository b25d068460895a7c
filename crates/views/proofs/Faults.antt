-- A command is refused with the code of its first fault, and done exactly if it has none; so of the model. Assumes nothing.
use Rattle.std.proofs.Common.{◌≡◌, ℕ, ◌+◌, ◌≤◌, Bool, true, false, cond, not, ◌&&◌, ◌||◌, eqb, ltb, leb, List, [], ◌∷◌, length, Some, None, sym, refl, ap, ◌∙◌, subst, arith, ltb-false, ltb-true, le-ltb, eq-eqb, ne_eqb, eqb-true, le-leb, leb-true}
use Rattle.std.proofs.Math.Option.{Option, none, some, some-injective, none-ne-some, some-ne-none}
use Rattle.std.proofs.lemmas.Bool.{eqb-false, lt-leb}
use Rattle.state.specs.Bytes.{u16_at, u32_at}
use Rattle.state.specs.Generator.{key_of}
use Rattle.state.specs.Memory.{pick, inside_of}
use Rattle.words.specs.Command.{command_of, code_of}
use Rattle.words.specs.declared.Command.{Command}
use Rattle.words.specs.declared.Command.TheVariants as command
use Rattle.words.specs.declared.Resource.{Resource}
use Rattle.words.specs.declared.Resource.TheVariants.{Calibration, Lists}
use Rattle.words.specs.declared.Extension.{Extension}
use Rattle.words.specs.declared.Extension.TheVariants.{Calibration as CalibrationMemory, Measured}
use Rattle.words.specs.Values.{Seed}
use Rattle.words.specs.declared.Mta.{Mta}
use Rattle.words.specs.declared.Mta.TheVariants.{Unset, At}
use Rattle.words.specs.declared.Pointer.{Pointer}
use Rattle.words.specs.declared.Pointer.TheVariants.{Unset as NoEntry, At as Points}
use Rattle.words.specs.declared.Reason.{Reason}
use Rattle.words.specs.declared.Reason.TheVariants.{Unknown as UnknownCode, TooShort, Locked, Sequence, OutOfRange, DataMissing, ListRuns, ReadOnly, NotInside, CannotStart, PoolFull}
use Rattle.model.specs.declared.Deed.{Deed}
use Rattle.model.specs.declared.Deed.TheVariants as deed
use Rattle.model.specs.Model.{byte, DaqList, Session, odts_taken, entries_taken, fits, runs_in, some_started}
use Rattle.model.specs.Seen.{numbers_of}
use Rattle.model.specs.Judge.{extension_from, connect_deed, get_seed_deed, unlock_by, set_mta_deed, upload_deed, short_upload_deed, checksum_deed, download_to, download_deed, short_download_deed, clear_deed, pointer_deed, write_block, write_deed, mode_deed, start_deed, start_stop_deed, synch_deed, alloc_lists_deed, alloc_odts_deed, alloc_entries_deed, judge_the, judge_by, judge, pointed_in, all_startable, seen_in, judge_in}
use Rattle.model.specs.Answers.{reply_in, command_in}
use Rattle.views.specs.Words.{outside, lent_to, key_for, unfit, running}
use Rattle.views.specs.Commands.{two, four}
use Rattle.views.specs.Faults.{of_connect, of_get_seed, of_unlock, of_set_mta, of_upload, of_short_upload, of_build_checksum, of_download, of_short_download, of_clear_daq_list, of_set_daq_ptr, of_write_daq, of_set_daq_list_mode, of_start_stop_daq_list, of_start_stop_synch, of_alloc_daq, of_alloc_odt, of_alloc_odt_entry, table, first_of_these, first_fault, refusal, AnswersFirst, mta_measured, mta_outside}
use Rattle.model.proofs.Bounded.{either}
use Rattle.views.proofs.Verdict.{at_least}
use Rattle.views.proofs.Listed.{Listed}
use Rattle.views.proofs.Taken.{four_is}
use Rattle.views.proofs.FaultWords.{odts_total, entries_total, fit_is, running_is, started_is, ready_is, outside_is, key_is}

-- a deed whose answer begins FF
abbrev pub Done : Deed → Type 0
Done d = (c : Session) (cal meas : List ℕ) → byte (reply_in d c cal meas) 0 ≡ 0xFF

-- what command n leads to, beside its first fault
pub data Meets (n : ℕ) : Option ℕ → Deed → Type 0 where
  refuses : (r : Reason) → (eqb (code_of r) 0x22 && eqb n 0xF3) ≡ false → Meets n (some (code_of r)) (deed.Refuse r)
  oversize : n ≡ 0xF3 → Meets n (some 0x22) deed.RefuseSize
  wrong_key_lem : Meets n (some 0x25) deed.WrongKey
  synchs : Meets n (some 0x00) deed.Synch
  done : (d : Deed) → Done d → Meets n none d

-- ---- check by check: the table's test is the judge's, or its opposite
module _ {n : ℕ} (r : Reason) (plain : (eqb (code_of r) 0x22 && eqb n 0xF3) ≡ false) {rest : Option ℕ} {d : Deed} where
  unless : (t : Bool) {t' : Bool} → t' ≡ t → Meets n rest d → Meets n (cond t' (some (code_of r)) rest) (cond t (deed.Refuse r) d)
  unless true e f = subst (λ (x : Bool). Meets n (cond x (some (code_of r)) rest) (deed.Refuse r)) (sym e) (refuses r plain)
  unless false e f = subst (λ (x : Bool). Meets n (cond x (some (code_of r)) rest) d) (sym e) f

  provided : (t : Bool) {t' : Bool} → t' ≡ not t → Meets n rest d → Meets n (cond t' (some (code_of r)) rest) (cond t d (deed.Refuse r))
  provided true e f = subst (λ (x : Bool). Meets n (cond x (some (code_of r)) rest) d) (sym e) f
  provided false e f = subst (λ (x : Bool). Meets n (cond x (some (code_of r)) rest) (deed.Refuse r)) (sym e) (refuses r plain)

  unless_then : (t : Bool) → (t ≡ false → Meets n rest d) → Meets n (cond t (some (code_of r)) rest) (cond t (deed.Refuse r) d)
  unless_then true f = refuses r plain
  unless_then false f = f refl

-- a check that the judge need not make
never_applies : {n : ℕ} (code : ℕ) {t : Bool} {rest : Option ℕ} {d : Deed} → t ≡ false → Meets n rest d → Meets n (cond t (some code) rest) d
never_applies {n} code {rest = rest} {d = d} e f = subst (λ (x : Bool). Meets n (cond x (some code) rest) d) (sym e) f

-- too short, then locked
begins : {n : ℕ} (short shut : Bool) {rest : Option ℕ} {d : Deed} → Meets n rest d
    → Meets n (cond short (some 0x21) (cond shut (some 0x25) rest)) (cond short (deed.Refuse TooShort) (cond shut (deed.Refuse Locked) d))
begins short shut f = unless TooShort refl short refl (unless Locked refl shut refl f)

-- one test for both deeds
either_way : {n : ℕ} (t : Bool) {f : Option ℕ} {d e : Deed} → Meets n f d → Meets n f e → Meets n f (cond t d e)
either_way true p q = p
either_way false p q = q

not_not : (b : Bool) → not (not b) ≡ b
not_not true = refl
not_not false = refl

-- an extension byte of at most 1 is 0 or 1
one_of_two : (n : ℕ) → ltb 1 n ≡ false → eqb n 1 ≡ not (eqb n 0)
one_of_two n few =
    let low : n ≤ 1 = ltb-false 1 n few in
    either (eqb n 0)
    (λ t. ne_eqb n 1 (λ e. omega (arith, eqb-true n 0 t, e)) ∙ sym (ap not t))
    (λ t. let some_one : 1 ≤ n = at_least n (eqb-false n 0 t) in eq-eqb n 1 (omega arith) ∙ sym (ap not t))

module _ (p : List ℕ) (c : Session) (nc nm : ℕ) where
  -- what the judge makes of the packet as command x, and as x its own checks
  abbrev As : Command → Deed
  As x = judge_by x (numbers_of p) (seen_in (u16_at p 2) (byte p 4) c) nc nm

  abbrev The : Command → Deed
  The x = judge_the x (numbers_of p) (seen_in (u16_at p 2) (byte p 4) c) nc nm

  -- ---- session
  of_connect_lem : Meets 0xFF (first_of_these (of_connect p)) (The command.Connect)
  unfolding judge_the connect_deed reply_in
  of_connect_lem = provided OutOfRange refl (eqb (byte p 1) 0) refl (done deed.Connect (λ c cal meas. refl))

  of_get_seed_lem : Meets 0xF8 (first_of_these (of_get_seed p c)) (The command.GetSeed)
  unfolding judge_the get_seed_deed reply_in
  of_get_seed_lem =
      unless Locked refl (leb 3 c.wrong_keys) refl
      (unless Sequence refl (eqb (byte p 1) 1) refl
      (unless OutOfRange refl (ltb 1 (byte p 1)) refl
      (go (eqb (byte p 2) 0x01) (eqb (byte p 2) 0x04)))) where
        gives : (u : Bool) (r : Resource) → Meets 0xF8 none (cond u deed.NoSeed (deed.GiveSeed r))
        gives u r = either_way u (done deed.NoSeed (λ c cal meas. refl)) (done (deed.GiveSeed r) (λ c cal meas. refl))

        go : (a b : Bool) → Meets 0xF8 (cond (not (a || b)) (some 0x22) none)
            (cond a (cond (c.unlocked Calibration) deed.NoSeed (deed.GiveSeed Calibration)) (cond b (cond (c.unlocked Lists) deed.NoSeed (deed.GiveSeed Lists)) (deed.Refuse OutOfRange)))
        go true b = gives (c.unlocked Calibration) Calibration
        go false true = gives (c.unlocked Lists) Lists
        go false false = refuses OutOfRange refl

  of_unlock_lem : (seed : Seed) (generator : ℕ) → Meets 0xF7 (first_of_these (of_unlock p seed generator)) (unlock_by seed generator (byte p 1) (length p) (u32_at p 2))
  unfolding unlock_by reply_in
  of_unlock_lem None generator = refuses Sequence refl
  of_unlock_lem (Some r) generator =
      provided OutOfRange refl (eqb (byte p 1) 4) refl
      (unless DataMissing refl (ltb (length p) 6) refl
      (judged (eqb (u32_at p 2) (key_of r generator)) (ap (λ (x : Bool). not x) (ap (λ (k : ℕ). eqb k (key_for r generator)) (sym (four_is p 2)) ∙ ap (λ (k : ℕ). eqb (u32_at p 2) k) (sym (key_is r generator))))))
    where
      judged : (t : Bool) {t' : Bool} → t' ≡ not t → Meets 0xF7 (cond t' (some 0x25) none) (cond t (deed.Unlock r) deed.WrongKey)
      judged true e = subst (λ (x : Bool). Meets 0xF7 (cond x (some 0x25) none) (deed.Unlock r)) (sym e) (done (deed.Unlock r) (λ c cal meas. refl))
      judged false e = subst (λ (x : Bool). Meets 0xF7 (cond x (some 0x25) none) deed.WrongKey) (sym e) wrong_key_lem

  of_set_mta_lem : Meets 0xF6 (first_of_these (of_set_mta p)) (The command.SetMta)
  unfolding judge_the set_mta_deed reply_in
  of_set_mta_lem = unless OutOfRange refl (ltb 1 (byte p 3)) refl (done _ (λ c cal meas. refl))

  -- ---- memory
  mta_outside_lem : (e : Extension) (a k : ℕ) → mta_outside (At e a) k nc nm ≡ outside a k (pick e nc nm)
  mta_outside_lem CalibrationMemory a k = refl
  mta_outside_lem Measured a k = refl

  -- the memory that an extension byte names
  lent_is : (x : ℕ) → lent_to x nc nm ≡ pick (extension_from x) nc nm
  lent_is x = go (eqb x 0) where
    go : (t : Bool) → cond t nc nm ≡ pick (cond t CalibrationMemory Measured) nc nm
    go true = refl
    go false = refl

  -- a test of the number in bytes 4 to 7
  in_four : (test : ℕ → Bool) → test (four p 4) ≡ test (u32_at p 4)
  in_four test = ap test (sym (four_is p 4))

  reads : {n : ℕ} (e : Extension) (a k : ℕ) → Meets n (cond (outside a k (pick e nc nm)) (some 0x24) none) (cond (inside_of a k (pick e nc nm)) (deed.Upload e a k) (deed.Refuse NotInside))
  unfolding reply_in
  reads e a k = provided NotInside refl (inside_of a k (pick e nc nm)) (outside_is a k (pick e nc nm)) (done _ (λ c cal meas. refl))

  of_upload_lem : (mta : Mta) → Meets 0xF5 (first_of_these (of_upload p mta nc nm)) (upload_deed mta (byte p 1) nc nm)
  unfolding upload_deed
  of_upload_lem Unset = refuses Sequence refl
  of_upload_lem (At e a) =
      unless OutOfRange refl (eqb (byte p 1) 0) refl
      (unless OutOfRange refl (ltb 63 (byte p 1)) refl
      (subst (λ (x : Bool). Meets 0xF5 (cond x (some 0x24) none) (cond (inside_of a (byte p 1) (pick e nc nm)) (deed.Upload e a (byte p 1)) (deed.Refuse NotInside))) (sym (mta_outside_lem e a (byte p 1)))
      (reads e a (byte p 1))))

  of_short_upload_lem : Meets 0xF4 (first_of_these (of_short_upload p nc nm)) (The command.ShortUpload)
  unfolding judge_the short_upload_deed
  of_short_upload_lem =
      unless OutOfRange refl (eqb (byte p 1) 0) refl
      (unless OutOfRange refl (ltb 63 (byte p 1)) refl
      (unless OutOfRange refl (ltb 1 (byte p 3)) refl
      (subst (λ (x : Bool). Meets 0xF4 (cond x (some 0x24) none) (cond (inside_of (u32_at p 4) (byte p 1) (pick (extension_from (byte p 3)) nc nm)) (deed.Upload (extension_from (byte p 3)) (u32_at p 4) (byte p 1)) (deed.Refuse NotInside)))
      (sym (in_four (λ a. outside a (byte p 1) (lent_to (byte p 3) nc nm)) ∙ ap (outside (u32_at p 4) (byte p 1)) (lent_is (byte p 3))))
      (reads (extension_from (byte p 3)) (u32_at p 4) (byte p 1)))))

  of_build_checksum_lem : (mta : Mta) → Meets 0xF3 (first_of_these (of_build_checksum p mta nc nm)) (checksum_deed mta (u32_at p 4) nc nm)
  unfolding checksum_deed reply_in
  of_build_checksum_lem Unset = refuses Sequence refl
  of_build_checksum_lem (At e a) =
      sizes (eqb (u32_at p 4) 0) (in_four (λ k. eqb k 0))
      (sizes (ltb 4096 (u32_at p 4)) (in_four (ltb 4096))
      (provided NotInside refl (inside_of a (u32_at p 4) (pick e nc nm)) (mta_outside_lem e a (four p 4) ∙ in_four (λ k. outside a k (pick e nc nm)) ∙ outside_is a (u32_at p 4) (pick e nc nm)) (done _ (λ c cal meas. refl))))
    where
      sizes : (t : Bool) {t' : Bool} {rest : Option ℕ} {d : Deed} → t' ≡ t → Meets 0xF3 rest d → Meets 0xF3 (cond t' (some 0x22) rest) (cond t deed.RefuseSize d)
      sizes true {rest = rest} e f = subst (λ (x : Bool). Meets 0xF3 (cond x (some 0x22) rest) deed.RefuseSize) (sym e) (oversize refl)
      sizes false {rest = rest} {d = d} e f = subst (λ (x : Bool). Meets 0xF3 (cond x (some 0x22) rest) d) (sym e) f

  -- to calibration, or refused
  writes : {n : ℕ} (from a k : ℕ) {t : Bool} → t ≡ not (inside_of a k nc) → Meets n (cond t (some 0x24) none) (download_to from CalibrationMemory a k nc)
  unfolding download_to reply_in
  writes from a k e = provided NotInside refl (inside_of a k nc) e (done _ (λ c cal meas. refl))

  of_download_lem : (mta : Mta) → Meets 0xF0 (first_of_these (of_download p mta nc nm)) (download_deed mta (byte p 1) (length p) nc)
  unfolding download_deed download_to
  of_download_lem Unset = refuses Sequence refl
  of_download_lem (At e a) =
      unless OutOfRange refl (eqb (byte p 1) 0) refl
      (unless OutOfRange refl (ltb 62 (byte p 1)) refl
      (unless DataMissing refl (ltb (length p) (byte p 1 + 2)) refl
      (to e))) where
        to : (e : Extension) → Meets 0xF0 (cond (mta_measured (At e a)) (some 0x23) (cond (mta_outside (At e a) (byte p 1) nc nm) (some 0x24) none)) (download_to 2 e a (byte p 1) nc)
        to CalibrationMemory = writes 2 a (byte p 1) (outside_is a (byte p 1) nc)
        to Measured = refuses ReadOnly refl

  of_short_download_lem : Meets 0xED (first_of_these (of_short_download p nc)) (The command.ShortDownload)
  unfolding judge_the short_download_deed download_to
  of_short_download_lem =
      unless OutOfRange refl (eqb (byte p 1) 0) refl
      (unless OutOfRange refl (ltb 56 (byte p 1)) refl
      (later (ltb 1 (byte p 3)) refl)) where
        to : (t : Bool) → eqb (byte p 3) 1 ≡ not t → Meets 0xED (cond (eqb (byte p 3) 1) (some 0x23) (cond (outside (four p 4) (byte p 1) nc) (some 0x24) none)) (download_to 8 (cond t CalibrationMemory Measured) (u32_at p 4) (byte p 1) nc)
        to true e = rw e (writes 8 (u32_at p 4) (byte p 1) (in_four (λ a. outside a (byte p 1) nc) ∙ outside_is (u32_at p 4) (byte p 1) nc))
        to false e = rw e (refuses ReadOnly refl)

        later : (t : Bool) → ltb 1 (byte p 3) ≡ t
            → Meets 0xED (cond t (some 0x22) (cond (ltb (length p) (byte p 1 + 8)) (some 0x21) (cond (eqb (byte p 3) 1) (some 0x23) (cond (outside (four p 4) (byte p 1) nc) (some 0x24) none))))
            (cond t (deed.Refuse OutOfRange) (cond (ltb (length p) (byte p 1 + 8)) (deed.Refuse DataMissing) (download_to 8 (extension_from (byte p 3)) (u32_at p 4) (byte p 1) nc)))
        later true e = refuses OutOfRange refl
        later false e = unless DataMissing refl (ltb (length p) (byte p 1 + 8)) refl (to (eqb (byte p 3) 0) (one_of_two (byte p 3) e))

  -- ---- lists
  runs_as : (l : ℕ) → running c l ≡ runs_in c l
  runs_as l = sym (running_is c l)

  of_clear_daq_list_lem : Meets 0xE3 (first_of_these (of_clear_daq_list p c)) (The command.ClearDaqList)
  unfolding judge_the clear_deed u16_at reply_in
  of_clear_daq_list_lem =
      unless OutOfRange refl (leb c.lists (two p 2)) refl
      (unless ListRuns refl (runs_in c (two p 2)) (runs_as (two p 2))
      (done _ (λ c cal meas. refl)))

  of_set_daq_ptr_lem : Meets 0xE2 (first_of_these (of_set_daq_ptr p c)) (The command.SetDaqPtr)
  unfolding judge_the pointer_deed u16_at reply_in
  of_set_daq_ptr_lem =
      unless OutOfRange refl (leb c.lists (two p 2)) refl
      (unless OutOfRange refl (leb (c.list (two p 2)).odts (byte p 4)) refl
      (unless OutOfRange refl (leb ((c.list (two p 2)).odt (byte p 4)).entries (byte p 5)) refl
      (done _ (λ c cal meas. refl))))

  of_write_daq_lem : (at : Pointer) → Meets 0xE1 (first_of_these (of_write_daq p at c nc nm)) (write_deed at (pointed_in at c) (byte p 1) (byte p 2) (byte p 3) (u32_at p 4) nc nm)
  unfolding write_deed write_block reply_in
  of_write_daq_lem NoEntry = refuses Sequence refl
  of_write_daq_lem (Points l o e) =
      provided OutOfRange refl (eqb (byte p 1) 0xFF) refl
      (unless OutOfRange refl (ltb 4 (byte p 2)) refl
      (unless OutOfRange refl (ltb 1 (byte p 3)) refl
      (unless ListRuns refl (runs_in c l) (runs_as l)
      (block (eqb (byte p 2) 0))))) where
        block : (t : Bool) → Meets 0xE1 (cond (not t && outside (four p 4) (byte p 2) (lent_to (byte p 3) nc nm)) (some 0x24) none)
            (cond t (deed.ClearEntry l o e)
            (cond (inside_of (u32_at p 4) (byte p 2) (pick (extension_from (byte p 3)) nc nm)) (deed.WriteEntry l o e (byte p 2) (extension_from (byte p 3)) (u32_at p 4)) (deed.Refuse NotInside)))
        block true = done _ (λ c cal meas. refl)
        block false =
            provided NotInside refl (inside_of (u32_at p 4) (byte p 2) (pick (extension_from (byte p 3)) nc nm))
            (in_four (λ a. outside a (byte p 2) (lent_to (byte p 3) nc nm)) ∙ ap (outside (u32_at p 4) (byte p 2)) (lent_is (byte p 3)) ∙ outside_is (u32_at p 4) (byte p 2) (pick (extension_from (byte p 3)) nc nm))
            (done _ (λ c cal meas. refl))

  of_set_daq_list_mode_lem : Meets 0xE0 (first_of_these (of_set_daq_list_mode p c)) (The command.SetDaqListMode)
  unfolding judge_the mode_deed u16_at reply_in
  of_set_daq_list_mode_lem =
      provided OutOfRange refl (eqb (byte p 1) 0x10) refl
      (unless OutOfRange refl (leb c.lists (two p 2)) refl
      (unless OutOfRange refl (leb 2 (two p 4)) (at_least_two (two p 4))
      (provided OutOfRange refl (eqb (byte p 6) 1) refl
      (provided OutOfRange refl (eqb (byte p 7) 0) refl
      (unless ListRuns refl (runs_in c (two p 2)) (runs_as (two p 2))
      (done _ (λ c cal meas. refl))))))) where
        at_least_two : (n : ℕ) → ltb 1 n ≡ leb 2 n
        at_least_two n = either (ltb 1 n) (λ t. t ∙ sym (le-leb 2 n (omega (arith, ltb-true 1 n t)))) (λ t. t ∙ sym (lt-leb 2 n (omega (arith, ltb-false 1 n t))))

  of_start_stop_daq_list_lem : Meets 0xDE (first_of_these (of_start_stop_daq_list p c)) (The command.StartStopDaqList)
  unfolding judge_the start_stop_deed start_deed u16_at reply_in
  of_start_stop_daq_list_lem =
      unless OutOfRange refl (ltb 2 (byte p 1)) refl
      (unless OutOfRange refl (leb c.lists (two p 2)) refl
      (by_mode (eqb (byte p 1) 0) (eqb (byte p 1) 1) (λ t. ne_eqb (byte p 1) 1 (λ e. omega (arith, eqb-true (byte p 1) 0 t, e))))) where
        starts : (a u r f : Bool) → a ≡ r → u ≡ not f → Meets 0xDE (cond (not a && u) (some 0x2A) none) (cond r (deed.KeepRunning (two p 2)) (cond f (deed.Start (two p 2)) (deed.Refuse CannotStart)))
        starts a u true f e g = rw e (done _ (λ c cal meas. refl))
        starts a u false true e g = rw (e, g) (done _ (λ c cal meas. refl))
        starts a u false false e g = rw (e, g) (refuses CannotStart refl)

        by_mode : (stop start : Bool) → (stop ≡ true → start ≡ false)
            → Meets 0xDE (cond (start && (not (running c (two p 2)) && unfit (c.list (two p 2)))) (some 0x2A) none)
            (cond stop (deed.Stop (two p 2)) (cond start (cond (runs_in c (two p 2)) (deed.KeepRunning (two p 2)) (cond (fits (c.list (two p 2))) (deed.Start (two p 2)) (deed.Refuse CannotStart))) (deed.Select (two p 2))))
        by_mode true start f = rw (f refl) (done _ (λ c cal meas. refl))
        by_mode false true f = starts (running c (two p 2)) (unfit (c.list (two p 2))) (runs_in c (two p 2)) (fits (c.list (two p 2))) (runs_as (two p 2)) (sym (ap not (fit_is (c.list (two p 2))) ∙ not_not (unfit (c.list (two p 2)))))
        by_mode false false f = done _ (λ c cal meas. refl)

  of_start_stop_synch_lem : Meets 0xDD (first_of_these (of_start_stop_synch p c)) (The command.StartStopSynch)
  unfolding judge_the synch_deed reply_in
  of_start_stop_synch_lem =
      unless OutOfRange refl (ltb 2 (byte p 1)) refl
      (by_mode (eqb (byte p 1) 0) (eqb (byte p 1) 1) (all_startable c c.lists) _ (λ t. ne_eqb (byte p 1) 1 (λ e. omega (arith, eqb-true (byte p 1) 0 t, e))) (ready_is c c.lists)) where
        by_mode : (stop start ready unready : Bool) → (stop ≡ true → start ≡ false) → ready ≡ not unready
            → Meets 0xDD (cond (start && unready) (some 0x2A) none) (cond stop deed.StopAll (cond start (cond ready deed.StartSelected (deed.Refuse CannotStart)) deed.StopSelected))
        by_mode true start ready unready f e = rw (f refl) (done _ (λ c cal meas. refl))
        by_mode false true ready true f e = rw e (refuses CannotStart refl)
        by_mode false true ready false f e = rw e (done _ (λ c cal meas. refl))
        by_mode false false ready unready f e = done _ (λ c cal meas. refl)

  -- ---- the pool
  of_alloc_daq_lem : Meets 0xD5 (first_of_these (of_alloc_daq p c)) (The command.AllocDaq)
  unfolding judge_the alloc_lists_deed u16_at reply_in
  of_alloc_daq_lem =
      provided Sequence refl c.freed refl
      (unless Sequence refl (ltb 0 c.lists) refl
      (unless OutOfRange refl (eqb (two p 2) 0) refl
      (unless PoolFull refl (ltb 8 (two p 2)) refl
      (done _ (λ c cal meas. refl)))))

  -- a list without ODTs does not run
  rests : (l : ℕ) → ltb 0 (c.list l).odts ≡ false → running c l ≡ false
  rests l e = ap (λ (x : Bool). c.opened && ((c.list l).started && x)) e ∙ go c.opened (c.list l).started where
    go : (a b : Bool) → (a && (b && false)) ≡ false
    go true true = refl
    go true false = refl
    go false b = refl

  of_alloc_odt_lem : Meets 0xD4 (first_of_these (of_alloc_odt p c)) (The command.AllocOdt)
  unfolding judge_the alloc_odts_deed u16_at reply_in
  of_alloc_odt_lem =
      unless Sequence refl (eqb c.lists 0) refl
      (unless Sequence refl (ltb 0 (entries_taken c)) (ap (ltb 0) (sym (entries_total c)))
      (unless_then Sequence refl (ltb 0 (c.list (two p 2)).odts) (λ empty.
      unless Sequence refl (some_started c c.lists) (sym (started_is c c.lists))
      (unless OutOfRange refl (leb c.lists (two p 2)) refl
      (unless OutOfRange refl (eqb (byte p 4) 0) refl
      (never_applies 0x11 (rests (two p 2) empty)
      (unless PoolFull refl (ltb 16 (odts_taken c + byte p 4)) (ap (λ (k : ℕ). ltb 16 (k + byte p 4)) (sym (odts_total c)))
      (done _ (λ c cal meas. refl)))))))))

  of_alloc_odt_entry_lem : Listed c → Meets 0xD3 (first_of_these (of_alloc_odt_entry p c)) (The command.AllocOdtEntry)
  unfolding judge_the alloc_entries_deed u16_at reply_in
  of_alloc_odt_entry_lem listed =
      unless Sequence refl (eqb (odts_taken c) 0) (ap (λ (k : ℕ). eqb k 0) (sym (odts_total c)))
      (unless Sequence refl (ltb 0 ((c.list (two p 2)).odt (byte p 4)).entries) refl
      (there (leb c.lists (two p 2)) (leb (c.list (two p 2)).odts (byte p 4)) _ gone
      (unless OutOfRange refl (leb (c.list (two p 2)).odts (byte p 4)) refl
      (unless OutOfRange refl (eqb (byte p 5) 0) refl
      (unless ListRuns refl (runs_in c (two p 2)) (runs_as (two p 2))
      (unless PoolFull refl (ltb 128 (entries_taken c + byte p 5)) (ap (λ (k : ℕ). ltb 128 (k + byte p 5)) (sym (entries_total c)))
      (done _ (λ c cal meas. refl)))))))) where
        -- a list that there is not has no ODT
        gone : leb c.lists (two p 2) ≡ true → leb (c.list (two p 2)).odts (byte p 4) ≡ true
        gone t = ap (λ (x : DaqList). leb x.odts (byte p 4)) (listed (two p 2) (leb-true c.lists (two p 2) t)) ∙ le-leb 0 (byte p 4) (omega arith)

        there : (a b : Bool) {rest : Option ℕ} (d : Deed) → (a ≡ true → b ≡ true) → Meets 0xD3 rest (cond b (deed.Refuse OutOfRange) d) → Meets 0xD3 (cond a (some 0x22) rest) (cond b (deed.Refuse OutOfRange) d)
        there true b d f q = rw (f refl) (refuses OutOfRange refl)
        there false b d f q = q

  -- ---- row by row
  row : (k : ℕ) (x y : Command) {f g : Option ℕ} → Meets k f (As x) → Meets (byte p 0) g (As y) → Meets (byte p 0) (cond (eqb (byte p 0) k) f g) (As (cond (eqb (byte p 0) k) x y))
  row k x y {f} {g} mine next = go (eqb (byte p 0) k) refl where
    go : (t : Bool) → eqb (byte p 0) k ≡ t → Meets (byte p 0) (cond t f g) (As (cond t x y))
    go true e = subst (λ (n : ℕ). Meets n f (As x)) (sym (eqb-true (byte p 0) k e)) mine
    go false e = next

  unknown : Meets (byte p 0) (some 0x20) (As command.Unknown)
  unfolding judge_by judge_the
  unknown = rw (le-ltb (length p) 0 (omega arith)) (refuses UnknownCode refl)

  pub meets : Listed c → Meets (byte p 0) (first_fault p c nc nm) (judge_in p c nc nm)
  unfolding first_fault table judge_in judge judge_by judge_the command_of reply_in
  meets listed =
      row 0xFF command.Connect _ (begins (ltb (length p) 2) false of_connect_lem)
      (row 0xFE command.Disconnect _ (begins (ltb (length p) 1) false (done deed.Disconnect (λ c cal meas. refl)))
      (row 0xFD command.GetStatus _ (begins (ltb (length p) 1) false (done deed.Status (λ c cal meas. refl)))
      (row 0xFC command.Synch _ (begins (ltb (length p) 1) false synchs)
      (row 0xF8 command.GetSeed _ (begins (ltb (length p) 3) false of_get_seed_lem)
      (row 0xF7 command.Unlock _ (begins (ltb (length p) 2) false (of_unlock_lem c.seed c.generator))
      (row 0xF6 command.SetMta _ (begins (ltb (length p) 8) false of_set_mta_lem)
      (row 0xF5 command.Upload _ (begins (ltb (length p) 2) false (of_upload_lem c.mta))
      (row 0xF4 command.ShortUpload _ (begins (ltb (length p) 8) false of_short_upload_lem)
      (row 0xF3 command.BuildChecksum _ (begins (ltb (length p) 8) false (of_build_checksum_lem c.mta))
      (row 0xF0 command.Download _ (begins (ltb (length p) 2) (not (c.unlocked Calibration)) (of_download_lem c.mta))
      (row 0xED command.ShortDownload _ (begins (ltb (length p) 8) (not (c.unlocked Calibration)) of_short_download_lem)
      (row 0xE3 command.ClearDaqList _ (begins (ltb (length p) 4) (not (c.unlocked Lists)) of_clear_daq_list_lem)
      (row 0xE2 command.SetDaqPtr _ (begins (ltb (length p) 6) (not (c.unlocked Lists)) of_set_daq_ptr_lem)
      (row 0xE1 command.WriteDaq _ (begins (ltb (length p) 8) (not (c.unlocked Lists)) (of_write_daq_lem c.pointer))
      (row 0xE0 command.SetDaqListMode _ (begins (ltb (length p) 8) (not (c.unlocked Lists)) of_set_daq_list_mode_lem)
      (row 0xDE command.StartStopDaqList _ (begins (ltb (length p) 4) (not (c.unlocked Lists)) of_start_stop_daq_list_lem)
      (row 0xDD command.StartStopSynch _ (begins (ltb (length p) 2) (not (c.unlocked Lists)) of_start_stop_synch_lem)
      (row 0xDA command.GetDaqProcessorInfo _ (begins (ltb (length p) 1) (not (c.unlocked Lists)) (done deed.ProcessorInfo (λ c cal meas. refl)))
      (row 0xD9 command.GetDaqResolutionInfo _ (begins (ltb (length p) 1) (not (c.unlocked Lists)) (done deed.ResolutionInfo (λ c cal meas. refl)))
      (row 0xD6 command.FreeDaq _ (begins (ltb (length p) 1) (not (c.unlocked Lists)) (done deed.FreeLists (λ c cal meas. refl)))
      (row 0xD5 command.AllocDaq _ (begins (ltb (length p) 4) (not (c.unlocked Lists)) of_alloc_daq_lem)
      (row 0xD4 command.AllocOdt _ (begins (ltb (length p) 5) (not (c.unlocked Lists)) of_alloc_odt_lem)
      (row 0xD3 command.AllocOdtEntry _ (begins (ltb (length p) 6) (not (c.unlocked Lists)) (of_alloc_odt_entry_lem listed))
      unknown)))))))))))))))))))))))

-- ---- the answer
answered : (n : ℕ) (f : Option ℕ) (d : Deed) (c : Session) (cal meas : List ℕ) → Meets n f d
    → ((code : ℕ) → f ≡ some code → reply_in d c cal meas ≡ refusal n code) × (f ≡ none → byte (reply_in d c cal meas) 0 ≡ 0xFF)
unfolding reply_in
answered n _ _ c cal meas (refuses r plain) = (λ code e. subst (λ (k : ℕ). 0xFE ∷ code_of r ∷ [] ≡ refusal n k) (some-injective _ _ e) (rw plain refl), λ e. absurd (some-ne-none _ e))
answered n _ _ c cal meas (oversize f3) = (λ code e. subst (λ (k : ℕ). 0xFE ∷ 0x22 ∷ 0x00 ∷ 0x00 ∷ 0x00 ∷ 0x10 ∷ 0x00 ∷ 0x00 ∷ [] ≡ refusal n k) (some-injective _ _ e) (rw f3 refl), λ e. absurd (some-ne-none _ e))
answered n _ _ c cal meas wrong_key_lem = (λ code e. subst (λ (k : ℕ). 0xFE ∷ 0x25 ∷ [] ≡ refusal n k) (some-injective _ _ e) refl, λ e. absurd (some-ne-none _ e))
answered n _ _ c cal meas synchs = (λ code e. subst (λ (k : ℕ). 0xFE ∷ 0x00 ∷ [] ≡ refusal n k) (some-injective _ _ e) refl, λ e. absurd (some-ne-none _ e))
answered n _ _ c cal meas (done d ff) = (λ code e. absurd (none-ne-some _ e), λ _. ff c cal meas)

pub answers_first : (p : List ℕ) (c : Session) (cal meas : List ℕ) → Listed c → AnswersFirst p c (length cal) (length meas) (command_in p c cal meas).answer
answers_first p c cal meas listed =
    let both = answered (byte p 0) (first_fault p c (length cal) (length meas)) (judge_in p c (length cal) (length meas)) c cal meas (meets p c (length cal) (length meas) listed) in
    record { refused = both.0; done = both.1 }
