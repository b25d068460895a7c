-- While lists are locked no command changes the lists' settings, unless it ends or renews the session. Assumes nothing.
use Rattle.std.proofs.Common.{◌≡◌, ℕ, ◌+◌, Bool, true, false, cond, eqb, ltb, List, length, Some, None, sym, refl, ◌∙◌, eq-eqb, eqb-true}
use Rattle.line.proofs.Laws.{cond_ind}
use Rattle.line.proofs.Stuffed.{false_true}
use Rattle.state.specs.Bytes.{u16_at, u32_at}
use Rattle.state.specs.Generator.{key_of, one_wrong_more}
use Rattle.state.specs.State.{bit_of}
use Rattle.words.specs.Command.{command_of}
use Rattle.words.specs.declared.Command.{Command}
use Rattle.words.specs.declared.Command.TheVariants as command
use Rattle.words.specs.declared.Resource.{Resource}
use Rattle.words.specs.declared.Resource.TheVariants.{Calibration, Lists}
use Rattle.words.specs.Values.{Seed}
use Rattle.words.specs.declared.Mta.{Mta}
use Rattle.words.specs.declared.Reason.TheVariants.{TooShort, Sequence, OutOfRange, DataMissing}
use Rattle.model.specs.Seen.{numbers_of}
use Rattle.model.specs.Judge.{connect_deed, unlock_by, judge_the, judge_by, seen_in, judge_in}
use Rattle.model.specs.declared.Deed.{Deed}
use Rattle.model.specs.declared.Deed.TheVariants.{Refuse, Connect, Disconnect, Unlock, WrongKey}
use Rattle.model.specs.Model.{byte, Session}
use Rattle.model.specs.Step.{unlock, step_in}
use Rattle.model.specs.Answers.{reply_in, done_by, command_in}
use Rattle.views.specs.Commands.{Fresh}
use Rattle.views.specs.Locked.{SettingsKept, ends_session, Shields}
use Rattle.model.proofs.Bounded.{either}
use Rattle.views.proofs.SessionLaws.{blank_fresh}
use Rattle.views.proofs.Coded.{Coded, coded}
use Rattle.views.proofs.Taken.{by_code}
use Rattle.views.proofs.Verdict.{Verdict, refused, connects, disconnects, tells, synchs, no_seed_lem, gives, unlocks, wrong, sets, uploads, shorts, no_size_lem, sums, downloads, short_downloads, clears, points, zeroes, writes, modes, stops, starts, goes_on_lem, selects, stops_all_lem, starts_all, stops_some, processor, resolution, frees, allocs_lists, allocs_odts, allocs_entries, found}

module _ (p : List ℕ) (c : Session) (cal meas : List ℕ) where
  abbrev Keeps : Deed → Type 0
  Keeps d = SettingsKept c (step_in d c)

  as_was : SettingsKept c c
  as_was = record { pointer = refl; freed = refl; lists = refl; modes = λ l. refl; selected = λ l. refl; started = λ l. refl; odts = λ l. refl; entry_counts = λ l o. refl; entries = λ l o e. refl }

  -- generator, wrong keys, locks, seed and MTA are no settings of the lists
  other_parts : {g n : ℕ} {o : Bool} {u : Resource → Bool} {s : Seed} {m : Mta}
      → SettingsKept c (record { generator = g; wrong_keys = n; opened = o; unlocked = u; seed = s; mta = m; pointer = c.pointer; freed = c.freed; lists = c.lists; round = c.round; list = c.list })
  other_parts = record { pointer = refl; freed = refl; lists = refl; modes = λ l. refl; selected = λ l. refl; started = λ l. refl; odts = λ l. refl; entry_counts = λ l o. refl; entries = λ l o e. refl }

  -- ---- every command but three
  module _ (locked : c.unlocked Lists ≡ false) (nc nm : ℕ) (ff : eqb (byte p 0) 0xFF ≡ false) (fe : eqb (byte p 0) 0xFE ≡ false) (f7 : eqb (byte p 0) 0xF7 ≡ false) where
    -- no other code names these
    other : {A : Type 0} (n : ℕ) → eqb (byte p 0) n ≡ false → byte p 0 ≡ n → A
    other n not is = absurd (false_true (sym not ∙ eq-eqb (byte p 0) n is))

    -- what needs the lists is not done
    shut : {A : Type 0} → c.unlocked Lists ≡ true → A
    shut free = absurd (false_true (sym locked ∙ free))

    by_verdict : (x : Command) (d : Deed) → Coded (byte p 0) x → Verdict (numbers_of p) (seen_in (u16_at p 2) (byte p 4) c) nc nm x d → Keeps d
    unfolding step_in
    by_verdict _ _ o (refused x r) = as_was
    by_verdict _ _ o connects = other 0xFF ff o
    by_verdict _ _ o disconnects = other 0xFE fe o
    by_verdict _ _ o tells = as_was
    by_verdict _ _ o synchs = as_was
    by_verdict _ _ o no_seed_lem = as_was
    by_verdict _ _ o (gives r still) = other_parts
    by_verdict _ _ o (unlocks r w k) = other 0xF7 f7 o
    by_verdict _ _ o (wrong r w k) = other 0xF7 f7 o
    by_verdict _ _ o sets = other_parts
    by_verdict _ _ o (uploads x a there inside) = other_parts
    by_verdict _ _ o (shorts inside) = other_parts
    by_verdict _ _ o no_size_lem = as_was
    by_verdict _ _ o (sums x a there inside) = other_parts
    by_verdict _ _ o (downloads a free there long inside) = other_parts
    by_verdict _ _ o (short_downloads free named long inside) = other_parts
    by_verdict _ _ o (clears free list still) = shut free
    by_verdict _ _ o (points free list odt entry) = shut free
    by_verdict _ _ o (zeroes l i e free w) = shut free
    by_verdict _ _ o (writes l i e free w some inside) = shut free
    by_verdict _ _ o (modes free list event still) = shut free
    by_verdict _ _ o (stops free list) = shut free
    by_verdict _ _ o (starts free list mode still fit) = shut free
    by_verdict _ _ o (goes_on_lem free list) = as_was
    by_verdict _ _ o (selects free list) = shut free
    by_verdict _ _ o (stops_all_lem free) = shut free
    by_verdict _ _ o (starts_all free mode ready) = shut free
    by_verdict _ _ o (stops_some free) = shut free
    by_verdict _ _ o processor = as_was
    by_verdict _ _ o resolution = as_was
    by_verdict _ _ o (frees free) = shut free
    by_verdict _ _ o (allocs_lists free freed none some few) = shut free
    by_verdict _ _ o (allocs_odts free list none unused still some room) = shut free
    by_verdict _ _ o (allocs_entries free odt none still some room) = shut free

    judged_keeps : Keeps (judge_in p c nc nm)
    unfolding judge_in
    judged_keeps = by_verdict (command_of (byte p 0)) _ (coded (byte p 0)) (found (numbers_of p) (seen_in (u16_at p 2) (byte p 4) c) nc nm)

  -- ---- the three that may end or renew it
  abbrev Shielded : Deed → Type 0
  Shielded d = Shields p c (done_by d p c cal meas)

  -- where the answer's test is known
  shield_kept : (test : List ℕ → Bool) → ((a : List ℕ) → ends_session p a ≡ test a) → (d : Deed) → test (reply_in d c cal meas) ≡ false → Keeps d → Shielded d
  shield_kept test is d e k = record { kept = λ _. k; fresh = λ t. absurd (false_true (sym (is (reply_in d c cal meas) ∙ e) ∙ t)) }

  shield_fresh : (test : List ℕ → Bool) → ((a : List ℕ) → ends_session p a ≡ test a) → (d : Deed) → test (reply_in d c cal meas) ≡ true → Fresh c (step_in d c) → Shielded d
  shield_fresh test is d e f = record { kept = λ n. absurd (false_true (sym n ∙ is (reply_in d c cal meas) ∙ e)); fresh = λ _. f }

  abbrev done : List ℕ → Bool
  done a = eqb (byte a 0) 0xFF

  abbrev wrong_answer : List ℕ → Bool
  wrong_answer a = eqb (byte a 1) 0x25

  ends_connect : byte p 0 ≡ 0xFF → (a : List ℕ) → ends_session p a ≡ done a
  ends_connect code a = rw code

  ends_disconnect : byte p 0 ≡ 0xFE → (a : List ℕ) → ends_session p a ≡ done a
  ends_disconnect code a = rw code

  ends_unlock : byte p 0 ≡ 0xF7 → (a : List ℕ) → ends_session p a ≡ wrong_answer a
  ends_unlock code a = rw code

  connect_shields : byte p 0 ≡ 0xFF → (nc nm : ℕ) → Shielded (judge_in p c nc nm)
  unfolding judge_by judge_the connect_deed command_of step_in reply_in
  connect_shields code nc nm =
      by_code Shielded p c 0xFF command.Connect refl code nc nm
      (cond_ind Shielded (ltb (length p) 2) (λ _. shield_kept done (ends_connect code) (Refuse TooShort) refl as_was) (λ _.
      cond_ind Shielded (eqb (byte p 1) 0) (λ _. shield_fresh done (ends_connect code) Connect refl (blank_fresh c c.wrong_keys true)) (λ _. shield_kept done (ends_connect code) (Refuse OutOfRange) refl as_was)))

  disconnect_shields : byte p 0 ≡ 0xFE → (nc nm : ℕ) → Shielded (judge_in p c nc nm)
  unfolding judge_by judge_the command_of step_in reply_in
  disconnect_shields code nc nm =
      by_code Shielded p c 0xFE command.Disconnect refl code nc nm
      (cond_ind Shielded (ltb (length p) 1) (λ _. shield_kept done (ends_disconnect code) (Refuse TooShort) refl as_was) (λ _. shield_fresh done (ends_disconnect code) Disconnect refl (blank_fresh c c.wrong_keys false)))

  -- no mask is 25
  mask_low : (a b : Bool) → eqb (cond a 0 (bit_of Calibration) + cond b 0 (bit_of Lists)) 0x25 ≡ false
  mask_low true true = refl
  mask_low false true = refl
  mask_low true false = refl
  mask_low false false = refl

  unlock_shields : byte p 0 ≡ 0xF7 → (nc nm : ℕ) → Shielded (judge_in p c nc nm)
  unfolding judge_by judge_the command_of step_in reply_in unlock_by
  unlock_shields code nc nm =
      by_code Shielded p c 0xF7 command.Unlock refl code nc nm
      (cond_ind Shielded (ltb (length p) 2) (λ _. shield_kept wrong_answer (ends_unlock code) (Refuse TooShort) refl as_was) (λ _. go c.seed)) where
        go : (x : Seed) → Shielded (unlock_by x c.generator (byte p 1) (length p) (u32_at p 2))
        go None = shield_kept wrong_answer (ends_unlock code) (Refuse Sequence) refl as_was
        go (Some r) =
            cond_ind Shielded (eqb (byte p 1) 4)
            (λ _. cond_ind Shielded (ltb (length p) 6) (λ _. shield_kept wrong_answer (ends_unlock code) (Refuse DataMissing) refl as_was)
            (λ _. cond_ind Shielded (eqb (u32_at p 2) (key_of r c.generator))
            (λ _. shield_kept wrong_answer (ends_unlock code) (Unlock r) (mask_low (unlock r c.unlocked Calibration) (unlock r c.unlocked Lists)) other_parts)
            (λ _. shield_fresh wrong_answer (ends_unlock code) WrongKey refl (blank_fresh c (one_wrong_more c.wrong_keys) false))))
            (λ _. shield_kept wrong_answer (ends_unlock code) (Refuse OutOfRange) refl as_was)

  -- ---- all of them
  ends_none : eqb (byte p 0) 0xFF ≡ false → eqb (byte p 0) 0xFE ≡ false → eqb (byte p 0) 0xF7 ≡ false → (a : List ℕ) → ends_session p a ≡ false
  ends_none x y z a = rw (x, y, z)

  pub locked_shields : c.unlocked Lists ≡ false → Shields p c (command_in p c cal meas)
  locked_shields locked =
      let nc : ℕ = length cal in
      let nm : ℕ = length meas in
      either (eqb (byte p 0) 0xFF) (λ e. connect_shields (eqb-true (byte p 0) 0xFF e) nc nm) (λ x.
      either (eqb (byte p 0) 0xFE) (λ e. disconnect_shields (eqb-true (byte p 0) 0xFE e) nc nm) (λ y.
      either (eqb (byte p 0) 0xF7) (λ e. unlock_shields (eqb-true (byte p 0) 0xF7 e) nc nm) (λ z.
      shield_kept (λ a. false) (ends_none x y z) (judge_in p c nc nm) refl (judged_keeps locked nc nm x y z))))
