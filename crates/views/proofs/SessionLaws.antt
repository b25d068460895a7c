-- FF to F7, DA and D9: what a command that is answered FF makes of the session and its locks, and what it answers. Assumes nothing.
use Rattle.std.proofs.Common.{◌≡◌, ℕ, zero, suc, ◌+◌, ◌<◌, ◌≤◌, Bool, true, false, cond, eqb, ltb, ◌≢◌, List, [], ◌∷◌, length, Some, None, sym, refl, ap, ◌∙◌, subst, arith, lit<, le-ltb, ne_eqb, eqb-true, leb-false}
use Rattle.std.proofs.lemmas.Bool.{eqb-false}
use Rattle.line.proofs.Stuffed.{false_true}
use Rattle.state.specs.Bytes.{u32_at, bytes32}
use Rattle.state.specs.Generator.{next_of, start_of, key_of, stays_shut}
use Rattle.state.specs.State.{bit_of}
use Rattle.state.proofs.Xorshift.{next_fits}
use Rattle.words.specs.Command.{command_of}
use Rattle.words.specs.declared.Command.TheVariants as command
use Rattle.words.specs.declared.Resource.{Resource}
use Rattle.words.specs.declared.Resource.TheVariants.{Calibration, Lists}
use Rattle.words.specs.Values.{Seed}
use Rattle.words.specs.declared.Reason.TheVariants.{Locked, OutOfRange, Sequence, DataMissing}
use Rattle.model.specs.Judge.{connect_deed, seed_deed, get_seed_deed, unlock_by, judge_the, judge_by, judge, judge_in}
use Rattle.model.specs.declared.Deed.{Deed}
use Rattle.model.specs.declared.Deed.TheVariants.{Synch, GiveSeed, Unlock}
use Rattle.model.specs.Answers.{reply_in, done_by, writes}
use Rattle.model.specs.Model.{byte, Session, blank, runs_in, some_runs}
use Rattle.model.specs.Step.{unlock, with_generator, with_lock, with_seed, step_in}
use Rattle.model.specs.Calls.{powered_up}
use Rattle.views.specs.PoweredUp.{PowerUpLeaves}
use Rattle.views.specs.Commands.{resource_number, mask_for, TheGenerator, TheWrongKeys, WhetherOpen, TheLocks, TheSeed, TheMta, ThePointer, WhetherFreed, HowManyLists, TheRound, TheLists, AllButBoth, Fresh, CONNECT, DISCONNECT, GET_STATUS, SYNCH, Seeds, GET_SEED, UNLOCK, GET_DAQ_PROCESSOR_INFO, GET_DAQ_RESOLUTION_INFO}
use Rattle.model.proofs.Bounded.{either}
use Rattle.views.proofs.FaultWords.{next_is, key_is}
use Rattle.views.proofs.Taken.{four_is, fe_ff, Taken, unless, provided, branch, judged, Leads}
use Rattle.views.proofs.Bytes.{bytes_cons, bytes_four}
use Rattle.views.proofs.MemoryLaws.{four_back}

-- ---- FF CONNECT, FE DISCONNECT
pub blank_fresh : (c : Session) (n : ℕ) (o : Bool) → Fresh c (blank c.generator n o)
blank_fresh c n o = record {
  generator = refl;
  locked = λ r. refl;
  no_seed = refl;
  no_mta = refl;
  no_pointer = refl;
  unfreed = refl;
  no_lists = refl;
  nothing = λ l. refl;
}

-- ---- power-up
pub powered_up_lem : (start : ℕ) → PowerUpLeaves start (powered_up start)
unfolding start_of
powered_up_lem start = record {
  closed = refl;
  fresh = blank_fresh (powered_up start).session 0 false;
  started = λ n. rw (ne_eqb start 0 n);
  default = λ e. rw e;
  wrong_keys = refl;
  ctr = refl;
  last_answer = refl;
  answer = refl;
  place = refl;
}

-- ---- FD GET_STATUS
mask_is : (a b : Bool) → cond a 0 (bit_of Calibration) + cond b 0 (bit_of Lists) ≡ mask_for a b
mask_is true true = refl
mask_is false true = refl
mask_is true false = refl
mask_is false false = refl

module _ (c : Session) where
  some_runs_lem : (n l : ℕ) → l < n → runs_in c l ≡ true → some_runs c n ≡ true
  unfolding some_runs
  some_runs_lem zero l h e = absurd (omega arith)
  some_runs_lem (suc n) l h e =
      either (eqb l n)
      (λ b. rw (subst (λ (j : ℕ). runs_in c j ≡ true) (eqb-true l n b) e) (always (some_runs c n)))
      (λ b. let m : l ≢ n = eqb-false l n b in rw (some_runs_lem n l (omega arith) e)) where
        always : (b : Bool) → cond b true true ≡ true
        always true = refl
        always false = refl

  none_run : (n : ℕ) → ((l : ℕ) → l < n → runs_in c l ≡ false) → some_runs c n ≡ false
  unfolding some_runs
  none_run zero f = refl
  none_run (suc n) f = rw (none_run n (λ l h. f l (omega arith)), f n (omega arith))

  status_on : some_runs c c.lists ≡ true → ◌≡◌ {A = ℕ} (cond (some_runs c c.lists) 0x40 0x00) 0x40
  status_on e = rw e

  status_off : some_runs c c.lists ≡ false → ◌≡◌ {A = ℕ} (cond (some_runs c c.lists) 0x40 0x00) 0x00
  status_off e = rw e

-- ---- F8 GET_SEED, F7 UNLOCK: what is left
but_seed : (c : Session) (g : ℕ) (x : Seed) → AllButBoth TheGenerator TheSeed c (with_seed (with_generator c g) x)
but_seed c g x TheGenerator n m = absurd (n refl)
but_seed c g x TheWrongKeys n m = refl
but_seed c g x WhetherOpen n m = refl
but_seed c g x TheLocks n m = λ r. refl
but_seed c g x TheSeed n m = absurd (m refl)
but_seed c g x TheMta n m = refl
but_seed c g x ThePointer n m = refl
but_seed c g x WhetherFreed n m = refl
but_seed c g x HowManyLists n m = refl
but_seed c g x TheRound n m = refl
but_seed c g x TheLists n m = λ l. refl

but_locks : (c : Session) (r : Resource) (x : Seed) → AllButBoth TheLocks TheSeed c (with_seed (with_lock c r) x)
but_locks c r x TheGenerator n m = refl
but_locks c r x TheWrongKeys n m = refl
but_locks c r x WhetherOpen n m = refl
but_locks c r x TheLocks n m = absurd (n refl)
but_locks c r x TheSeed n m = absurd (m refl)
but_locks c r x TheMta n m = refl
but_locks c r x ThePointer n m = refl
but_locks c r x WhetherFreed n m = refl
but_locks c r x HowManyLists n m = refl
but_locks c r x TheRound n m = refl
but_locks c r x TheLists n m = λ l. refl

opens_own : (r : Resource) (f : Resource → Bool) → unlock r f r ≡ true
opens_own Calibration f = refl
opens_own Lists f = refl

opens_alone : (r x : Resource) (f : Resource → Bool) → x ≢ r → unlock r f x ≡ f x
opens_alone Calibration Calibration f n = absurd (n refl)
opens_alone Calibration Lists f n = refl
opens_alone Lists Calibration f n = refl
opens_alone Lists Lists f n = absurd (n refl)

module _ (p : List ℕ) (c : Session) (cal meas : List ℕ) where
  pub connect : byte p 0 ≡ 0xFF → Taken p c cal meas (judge_in p c (length cal) (length meas)) → Leads CONNECT p c cal meas (judge_in p c (length cal) (length meas))
  unfolding judge_the command_of connect_deed step_in writes reply_in
  connect code =
      let P : Deed → Type 0 = Leads CONNECT p c cal meas in
      judged p c cal meas P 0xFF command.Connect refl code
      (provided p c cal meas P (eqb (byte p 1) 0) OutOfRange (λ _ _. record { opened = refl; fresh = blank_fresh c c.wrong_keys true; wrong_keys = refl; memory = refl; answer = refl }))

  pub disconnect : byte p 0 ≡ 0xFE → Taken p c cal meas (judge_in p c (length cal) (length meas)) → Leads DISCONNECT p c cal meas (judge_in p c (length cal) (length meas))
  unfolding judge_the command_of step_in writes reply_in
  disconnect code = judged p c cal meas (Leads DISCONNECT p c cal meas) 0xFE command.Disconnect refl code (λ _. record { closed = refl; fresh = blank_fresh c c.wrong_keys false; wrong_keys = refl; memory = refl; answer = refl })

  pub get_status_lem : byte p 0 ≡ 0xFD → Taken p c cal meas (judge_in p c (length cal) (length meas)) → Leads GET_STATUS p c cal meas (judge_in p c (length cal) (length meas))
  unfolding judge_the command_of step_in writes reply_in
  get_status_lem code =
      judged p c cal meas (Leads GET_STATUS p c cal meas) 0xFD command.GetStatus refl code
      (λ _. record {
        tells = record { session = refl; memory = refl; answer = ap (λ (m : ℕ). 0xFF ∷ cond (some_runs c c.lists) 0x40 0x00 ∷ m ∷ 0x00 ∷ 0x00 ∷ 0x00 ∷ []) (mask_is (c.unlocked Calibration) (c.unlocked Lists)) };
        running = λ l h e. status_on c (some_runs_lem c c.lists l h e);
        none = λ f. status_off c (none_run c c.lists f);
      })

  -- ---- FC SYNCH: a byte that is not 0 is there
  there_is : (q : List ℕ) → byte q 0 ≡ 0xFC → 1 ≤ length q
  there_is [] e = absurd (omega arith)
  there_is (x ∷ q) e = omega arith

  synch_judged : (nc nm : ℕ) → byte p 0 ≡ 0xFC → judge_in p c nc nm ≡ Synch
  unfolding judge_in judge judge_by judge_the command_of
  synch_judged nc nm code = simp (code, le-ltb (length p) 1 (there_is p code))

  pub synch : byte p 0 ≡ 0xFC → Leads SYNCH p c cal meas (judge_in p c (length cal) (length meas))
  unfolding step_in writes reply_in
  synch code = subst (Leads SYNCH p c cal meas) (sym (synch_judged (length cal) (length meas) code)) (record { session = refl; memory = refl; answer = refl })

  -- ---- F8 GET_SEED
  given : (r : Resource) → Seeds r c cal (done_by (GiveSeed r) p c cal meas)
  unfolding step_in writes reply_in
  given r =
      let x : ℕ = next_of c.generator in
      record {
        seed = refl;
        generator = next_is c.generator;
        rest = but_seed c x (Some r);
        memory = refl;
        answer = refl;
        bytes = bytes_cons 0xFF (0x04 ∷ bytes32 x) (lit< tt) (bytes_cons 0x04 (bytes32 x) (lit< tt) (bytes_four x));
        carries = λ h. four_back x (next_fits c.generator h);
      }

  seed_for : c.wrong_keys < 3 → (r : Resource) (u : Bool) → c.unlocked r ≡ u → byte p 2 ≡ resource_number r → Leads GET_SEED p c cal meas (seed_deed u r)
  unfolding step_in writes reply_in
  seed_for few r true e n = record { few = few; resource = r; named = n; already = λ _. record { session = refl; memory = refl; answer = refl }; gives = λ f. absurd (false_true (sym f ∙ e)) }
  seed_for few r false e n = record { few = few; resource = r; named = n; already = λ t. absurd (false_true (sym e ∙ t)); gives = λ _. given r }

  pub get_seed_lem : byte p 0 ≡ 0xF8 → Taken p c cal meas (judge_in p c (length cal) (length meas)) → Leads GET_SEED p c cal meas (judge_in p c (length cal) (length meas))
  unfolding judge_the command_of get_seed_deed
  get_seed_lem code =
      let P : Deed → Type 0 = Leads GET_SEED p c cal meas in
      judged p c cal meas P 0xF8 command.GetSeed refl code
      (unless p c cal meas P (stays_shut c.wrong_keys) Locked (λ still.
      let few : c.wrong_keys < 3 = leb-false 3 c.wrong_keys still in
      unless p c cal meas P (eqb (byte p 1) 1) Sequence (λ _.
      unless p c cal meas P (ltb 1 (byte p 1)) OutOfRange (λ _.
      branch p c cal meas P (eqb (byte p 2) 0x01) (λ n _. seed_for few Calibration (c.unlocked Calibration) refl (eqb-true (byte p 2) 0x01 n)) (λ _.
      provided p c cal meas P (eqb (byte p 2) 0x04) OutOfRange (λ n _. seed_for few Lists (c.unlocked Lists) refl (eqb-true (byte p 2) 0x04 n)))))))

  -- ---- F7 UNLOCK
  opened : (r : Resource) → c.seed ≡ Some r → u32_at p 2 ≡ key_of r c.generator → Leads UNLOCK p c cal meas (Unlock r)
  unfolding step_in writes reply_in
  opened r e key = record {
    resource = r;
    seeded = e;
    right = sym (four_is p 2) ∙ key ∙ key_is r c.generator;
    opens = opens_own r c.unlocked;
    alone = λ x n. opens_alone r x c.unlocked n;
    used = refl;
    rest = but_locks c r None;
    memory = refl;
    answer = ap (λ (m : ℕ). 0xFF ∷ m ∷ []) (mask_is (unlock r c.unlocked Calibration) (unlock r c.unlocked Lists));
  }

  unlock_at : (x : Seed) → c.seed ≡ x → Taken p c cal meas (unlock_by x c.generator (byte p 1) (length p) (u32_at p 2)) → Leads UNLOCK p c cal meas (unlock_by x c.generator (byte p 1) (length p) (u32_at p 2))
  unfolding unlock_by reply_in
  unlock_at None e = λ t. absurd (fe_ff t)
  unlock_at (Some r) e =
      let P : Deed → Type 0 = Leads UNLOCK p c cal meas in
      provided p c cal meas P (eqb (byte p 1) 4) OutOfRange (λ _.
      unless p c cal meas P (ltb (length p) 6) DataMissing (λ _.
      branch p c cal meas P (eqb (u32_at p 2) (key_of r c.generator)) (λ k _. opened r e (eqb-true (u32_at p 2) (key_of r c.generator) k)) (λ _ t. absurd (fe_ff t))))

  pub unlock_law : byte p 0 ≡ 0xF7 → Taken p c cal meas (judge_in p c (length cal) (length meas)) → Leads UNLOCK p c cal meas (judge_in p c (length cal) (length meas))
  unfolding judge_the command_of
  unlock_law code = judged p c cal meas (Leads UNLOCK p c cal meas) 0xF7 command.Unlock refl code (unlock_at c.seed refl)

  -- ---- DA, D9
  pub processor_info : byte p 0 ≡ 0xDA → Taken p c cal meas (judge_in p c (length cal) (length meas)) → Leads GET_DAQ_PROCESSOR_INFO p c cal meas (judge_in p c (length cal) (length meas))
  unfolding judge_the command_of step_in writes reply_in
  processor_info code = judged p c cal meas (Leads GET_DAQ_PROCESSOR_INFO p c cal meas) 0xDA command.GetDaqProcessorInfo refl code (λ _. record { session = refl; memory = refl; answer = refl })

  pub resolution_info : byte p 0 ≡ 0xD9 → Taken p c cal meas (judge_in p c (length cal) (length meas)) → Leads GET_DAQ_RESOLUTION_INFO p c cal meas (judge_in p c (length cal) (length meas))
  unfolding judge_the command_of step_in writes reply_in
  resolution_info code = judged p c cal meas (Leads GET_DAQ_RESOLUTION_INFO p c cal meas) 0xD9 command.GetDaqResolutionInfo refl code (λ _. record { session = refl; memory = refl; answer = refl })
