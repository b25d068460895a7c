-- Our slave stays shut after three wrong keys. Assumes nothing.
use Rattle.std.proofs.Common.{◌≡◌, ◌≢◌, ℕ, suc, ◌+◌, ◌≤◌, ◌<◌, Bool, true, false, cond, List, [], ◌∷◌, length, Option, Some, None, eqb, refl, sym, ap, ◌∙◌, subst, arith, eqb-true, leb-false}
use Rattle.std.proofs.lemmas.Bool.{false≢true, false_from_ne_true}
use Rattle.line.proofs.Laws.{cond_ind}
use Rattle.state.specs.Layout.{size}
use Rattle.state.specs.State.{consistent, wrong_keys_of}
use Rattle.words.specs.declared.Resource.{Resource}
use Rattle.words.specs.declared.Resource.TheVariants.{Calibration}
use Rattle.session.specs.Perform.{after}
use Rattle.session.specs.PowerUp.{powered}
use Rattle.session.specs.Receive.{Step, only, obeyed, receive_of}
use Rattle.model.specs.Heed.{good_connect}
use Rattle.model.specs.declared.Deed.{Deed}
use Rattle.model.specs.declared.Deed.TheVariants.{Refuse, RefuseSize, WrongKey, Connect, Disconnect, Status, Synch, NoSeed, GiveSeed, Unlock, SetMta, Upload, Checksum, Download, ClearList, SetPointer, ClearEntry, WriteEntry, SetMode, Stop, Start, KeepRunning, Select, StopAll, StartSelected, StopSelected, ProcessorInfo, ResolutionInfo, FreeLists, AllocLists, AllocOdts, AllocEntries}
use Rattle.model.specs.Model.{byte, Session}
use Rattle.model.specs.Step.{step_in}
use Rattle.model.specs.Answers.{reply_in}
use Rattle.model.specs.View.{session_of}
use Rattle.state.proofs.Consistent.{consistent_size}
use Rattle.fields.proofs.Fields.{wrong_keys_few, seed_few, shut_seedless}
use Rattle.fields.proofs.Kept.{power_consistent}
use Rattle.views.proofs.Calls.{powered_wrong_keys}
use Rattle.views.proofs.WrongKeys.{one_more_lem, told_wrong}
use Rattle.demands.specs.Slave.{ours}
use Rattle.demands.specs.Heard.{read_by, deed_in, wrong_key}
use Rattle.demands.specs.Life.{Device, Moment, PowerOn, Hears, OnEvent, Serves, after_moment, lived, OfBytes}
use Rattle.demands.specs.Keys.{RightKeyEnds}
use Rattle.demands.specs.CalibrationLocked.{Keyless}
use Rattle.demands.specs.StaysShut.{says_wrong, judged_wrong, wrong_at, wrong_in, PoweredOn, StaysShut}
use Rattle.demands.proofs.ReadBy.{read_session}
use Rattle.demands.proofs.Received.{Performed, Reads, rests, acts, received, done_answer, resting, acting}
use Rattle.demands.proofs.Refusals.{keyed, Wrong, wrong_by}
use Rattle.demands.proofs.ByteKeeps.{done_steps}
use Rattle.demands.proofs.Alike.{event_alike, slot_alike}
use Rattle.demands.proofs.Numbering.{power_up_is}
use Rattle.demands.proofs.Life.{moment_kept}
use Rattle.demands.proofs.Opening.{opens_by_key_lem, shut_locked, life_keyless}

-- ---- a deed that is done: a wrong key is answered FE 25 to UNLOCK, and nothing else is
said : (p a : List ℕ) → says_wrong p a ≡ true → (byte p 0 ≡ 0xF7) × (byte a 0 ≡ 0xFE) × (byte a 1 ≡ 0x25)
said p a = go (eqb (byte p 0) 0xF7) (eqb (byte a 0) 0xFE) (eqb (byte a 1) 0x25) refl refl refl where
  go : (x y z : Bool) → eqb (byte p 0) 0xF7 ≡ x → eqb (byte a 0) 0xFE ≡ y → eqb (byte a 1) 0x25 ≡ z → cond x (cond y z false) false ≡ true
      → (byte p 0 ≡ 0xF7) × (byte a 0 ≡ 0xFE) × (byte a 1 ≡ 0x25)
  go true true true e f g t = (eqb-true (byte p 0) 0xF7 e, eqb-true (byte a 0) 0xFE f, eqb-true (byte a 1) 0x25 g)
  go true true false e f g t = cc
  go true false z e f g t = cc
  go false y z e f g t = cc

says : (p : List ℕ) (c : Session) (cal meas : List ℕ) → wrong_key p c ≡ true → says_wrong p (reply_in WrongKey c cal meas) ≡ true
unfolding reply_in
says p c cal meas e = rw (keyed p (wrong_by c.seed p c e).key).code

connect_code : (p : List ℕ) → good_connect p ≡ true → byte p 0 ≡ 0xFF
unfolding good_connect
connect_code p = cond_ind (λ (t : Bool). t ≡ true → byte p 0 ≡ 0xFF) (eqb (byte p 0) 0xFF) (λ e _. eqb-true (byte p 0) 0xFF e) (λ _ t. cc)

-- every other deed leaves the count
step_count : (d : Deed) (c : Session) → d ≢ WrongKey → (step_in d c).wrong_keys ≡ c.wrong_keys
unfolding step_in
step_count (Refuse r) c n = refl
step_count RefuseSize c n = refl
step_count WrongKey c n = absurd (n refl)
step_count Connect c n = refl
step_count Disconnect c n = refl
step_count Status c n = refl
step_count Synch c n = refl
step_count NoSeed c n = refl
step_count (GiveSeed r) c n = refl
step_count (Unlock r) c n = refl
step_count (SetMta e a) c n = refl
step_count (Upload e a m) c n = refl
step_count (Checksum e a m) c n = refl
step_count (Download from a m) c n = refl
step_count (ClearList l) c n = refl
step_count (SetPointer l o e) c n = refl
step_count (ClearEntry l o e) c n = refl
step_count (WriteEntry l o e m x a) c n = refl
step_count (SetMode l event) c n = refl
step_count (Stop l) c n = refl
step_count (Start l) c n = refl
step_count (KeepRunning l) c n = refl
step_count (Select l) c n = refl
step_count StopAll c n = refl
step_count StartSelected c n = refl
step_count StopSelected c n = refl
step_count ProcessorInfo c n = refl
step_count ResolutionInfo c n = refl
step_count FreeLists c n = refl
step_count (AllocLists m) c n = refl
step_count (AllocOdts l m) c n = refl
step_count (AllocEntries l o m) c n = refl

-- ---- the count and the seed: none is out once there were three
few_then : (s : List ℕ) (r : Resource) → (session_of s).seed ≡ Some r → (session_of s).wrong_keys < 3
unfolding session_of
few_then s r e = leb-false 3 (wrong_keys_of s) (seed_few s r e)

pub at_most_three : (s : List ℕ) → (session_of s).wrong_keys ≤ 3
unfolding session_of
at_most_three s = wrong_keys_few s

none_out_lem : (s : List ℕ) → (session_of s).wrong_keys ≡ 3 → (session_of s).seed ≡ None
unfolding session_of
none_out_lem s e = shut_seedless s (rw e)

no_right_key : (s : List ℕ) (b : ℕ) (r : Resource) → (session_of s).wrong_keys ≡ 3 → RightKeyEnds s b r → ⊥
no_right_key s b r e k = let few : (session_of s).wrong_keys < 3 = few_then s r k.seed in omega arith

-- ---- a byte
module _ (s cal meas : List ℕ) (b : ℕ) (c : consistent s ≡ true) where
  -- what is judged wrong counts, and leaves both locks shut; nothing else counts
  record Counted (o : Step) : Type 0 where
    few : judged_wrong o s b ≡ true → (session_of s).wrong_keys < 3
    more : judged_wrong o s b ≡ true → (session_of o.state).wrong_keys ≡ (session_of s).wrong_keys + 1
    locked : judged_wrong o s b ≡ true → (r : Resource) → (session_of o.state).unlocked r ≡ false
    same : judged_wrong o s b ≡ false → (session_of o.state).wrong_keys ≡ (session_of s).wrong_keys

  module _ (d : Deed) (p : List ℕ) (w : Performed s cal meas b d p) where
    answers : judged_wrong (obeyed d p (read_by s b) cal meas) s b ≡ says_wrong p (reply_in d (session_of s) cal meas)
    answers = acting says_wrong s cal meas b d p w.ended ∙ ap (says_wrong p) (done_answer s cal meas b d (length p) c w.can)

    is_wrong : says_wrong p (reply_in d (session_of s) cal meas) ≡ true → d ≡ WrongKey
    is_wrong t = go (session_of s).opened refl where
      go : (x : Bool) → (session_of s).opened ≡ x → d ≡ WrongKey
      go true e =
          let is : d ≡ deed_in p (session_of s) cal meas = w.opened e in
          let f = said p (reply_in (deed_in p (session_of s) cal meas) (session_of s) cal meas) (subst (λ (x : Deed). says_wrong p (reply_in x (session_of s) cal meas) ≡ true) is t) in
          is ∙ (told_wrong p (session_of s) cal meas f.0 f.1 f.2).deed
      go false e = absurd (let f7 : byte p 0 ≡ 0xF7 = (said p (reply_in d (session_of s) cal meas) t).0 in let ff : byte p 0 ≡ 0xFF = connect_code p (w.closed e).1 in omega arith)

    found_wrong : d ≡ WrongKey → wrong_key p (session_of s) ≡ true
    found_wrong e = (subst (λ (x : Deed). Performed s cal meas b x p) e w).found

    not_wrong : says_wrong p (reply_in d (session_of s) cal meas) ≡ false → d ≢ WrongKey
    not_wrong f e = false≢true (sym f ∙ ap (λ (x : Deed). says_wrong p (reply_in x (session_of s) cal meas)) e ∙ says p (session_of s) cal meas (found_wrong e))

    wrong_few : d ≡ WrongKey → (session_of s).wrong_keys < 3
    wrong_few e = let k : Wrong p (session_of s) (session_of s).seed = wrong_by (session_of s).seed p (session_of s) (found_wrong e) in few_then s k.resource k.out

    wrong_more : d ≡ WrongKey → (session_of (after d (read_by s b) cal meas)).wrong_keys ≡ (session_of s).wrong_keys + 1
    unfolding step_in
    wrong_more e = (done_steps s cal meas b c d p w).wrong_keys ∙ ap (λ (x : Deed). (step_in x (session_of s)).wrong_keys) e ∙ one_more_lem (session_of s).wrong_keys (wrong_few e)

    wrong_locked : d ≡ WrongKey → (r : Resource) → (session_of (after d (read_by s b) cal meas)).unlocked r ≡ false
    unfolding step_in
    wrong_locked e r = ap (λ (f : Resource → Bool). f r) ((done_steps s cal meas b c d p w).unlocked ∙ ap (λ (x : Deed). (step_in x (session_of s)).unlocked) e)

  counted_by : {o : Step} {x : Option Deed} → Reads s cal meas b o x → Counted o
  counted_by (rests r n f) =
      let still : judged_wrong (only r (read_by s b) cal) s b ≡ false = resting says_wrong s cal b r n in
      record {
        few = λ t. cc;
        more = λ t. cc;
        locked = λ t. cc;
        same = λ _. ap (λ (x : Session). x.wrong_keys) (read_session s b c);
      }
  counted_by (acts d p w) = record {
    few = λ t. wrong_few d p w (is_wrong d p w (sym (answers d p w) ∙ t));
    more = λ t. wrong_more d p w (is_wrong d p w (sym (answers d p w) ∙ t));
    locked = λ t. wrong_locked d p w (is_wrong d p w (sym (answers d p w) ∙ t));
    same = λ f. (done_steps s cal meas b c d p w).wrong_keys ∙ step_count d (session_of s) (not_wrong d p w (sym (answers d p w) ∙ f));
  }

  counted : Counted (receive_of s cal meas b)
  counted = counted_by (received s cal meas b c)

  -- a lock that is shut after three wrong keys stays so
  byte_locked : (r : Resource) → (session_of s).wrong_keys ≡ 3 → (session_of s).unlocked r ≡ false → (session_of (receive_of s cal meas b).state).unlocked r ≡ false
  byte_locked r three e =
      false_from_ne_true ((session_of (receive_of s cal meas b).state).unlocked r) (λ t. no_right_key s b r three (opens_by_key_lem s cal meas b r c e t))

  -- and three they stay
  byte_three : (session_of s).wrong_keys ≡ 3 → (session_of (receive_of s cal meas b).state).wrong_keys ≡ 3
  byte_three three = go (judged_wrong (receive_of s cal meas b) s b) refl where
    go : (x : Bool) → judged_wrong (receive_of s cal meas b) s b ≡ x → (session_of (receive_of s cal meas b).state).wrong_keys ≡ 3
    go true t = absurd (let few : (session_of s).wrong_keys < 3 = counted.few t in omega arith)
    go false f = counted.same f ∙ three

-- ---- after three wrong keys, until the next power-up
record Three (h : Device) : Type 0 where
  sound : consistent h.state ≡ true
  three : (session_of h.state).wrong_keys ≡ 3

-- a moment that is no power-up
three_heard : (h : Device) (meas : List ℕ) (b : ℕ) → Three h → Three (after_moment ours h (Hears meas b))
three_heard h meas b w = record { sound = moment_kept h (Hears meas b) w.sound; three = byte_three h.state h.cal meas b w.sound w.three }

three_sampled : (h : Device) (meas : List ℕ) (event clock : ℕ) → Three h → Three (after_moment ours h (OnEvent meas event clock))
three_sampled h meas event clock w =
    record { sound = moment_kept h (OnEvent meas event clock) w.sound; three = (event_alike h.state h.cal meas event clock).wrong_keys ∙ w.three }

three_served : (h : Device) (out : List ℕ) → Three h → Three (after_moment ours h (Serves out))
three_served h out w = record { sound = moment_kept h (Serves out) w.sound; three = (slot_alike h.state out w.sound).wrong_keys ∙ w.three }

opens_none_lem : (ms : List Moment) (h : Device) (r : Resource) → Three h → PoweredOn ms → (session_of h.state).unlocked r ≡ false → (session_of (lived ours h ms).state).unlocked r ≡ false
opens_none_lem [] h r w n e = e
opens_none_lem (PowerOn start ∷ ms) h r w n e = absurd n
opens_none_lem (Hears meas b ∷ ms) h r w n e =
    opens_none_lem ms (after_moment ours h (Hears meas b)) r (three_heard h meas b w) n (byte_locked h.state h.cal meas b w.sound r w.three e)
opens_none_lem (OnEvent meas event clock ∷ ms) h r w n e =
    opens_none_lem ms (after_moment ours h (OnEvent meas event clock)) r (three_sampled h meas event clock w) n (ap (λ (f : Resource → Bool). f r) (event_alike h.state h.cal meas event clock).unlocked ∙ e)
opens_none_lem (Serves out ∷ ms) h r w n e =
    opens_none_lem ms (after_moment ours h (Serves out)) r (three_served h out w) n (ap (λ (f : Resource → Bool). f r) (slot_alike h.state out w.sound).unlocked ∙ e)

keyless : (ms : List Moment) (h : Device) → Three h → PoweredOn ms → OfBytes Keyless ours h ms
keyless [] h w n = tt
keyless (PowerOn start ∷ ms) h w n = absurd n
keyless (Hears meas b ∷ ms) h w n = (no_right_key h.state b Calibration w.three, keyless ms (after_moment ours h (Hears meas b)) (three_heard h meas b w) n)
keyless (OnEvent meas event clock ∷ ms) h w n = (tt, keyless ms (after_moment ours h (OnEvent meas event clock)) (three_sampled h meas event clock w) n)
keyless (Serves out ∷ ms) h w n = (tt, keyless ms (after_moment ours h (Serves out)) (three_served h out w) n)

-- ---- over a life: n keys were judged wrong since the last power-up, and after three no lock is open
record Tally (h : Device) (n : ℕ) : Type 0 where
  sound : consistent h.state ≡ true
  count : (session_of h.state).wrong_keys ≡ n
  locked : n ≡ 3 → (r : Resource) → (session_of h.state).unlocked r ≡ false

power_count : (start : ℕ) → (session_of (powered start)).wrong_keys ≡ 0
unfolding session_of
power_count start = powered_wrong_keys start

passed_tally : (h : Device) (m : Moment) (n : ℕ) → Tally h n → Tally (after_moment ours h m) (wrong_at ours h m n)
passed_tally h (PowerOn start) n w = record {
  sound = moment_kept h (PowerOn start) w.sound;
  count = ap (λ (s : List ℕ). (session_of s).wrong_keys) (power_up_is h.state start (consistent_size h.state w.sound)) ∙ power_count start;
  locked = λ e. absurd (omega arith);
}
passed_tally h (Hears meas b) n w = go (judged_wrong (receive_of h.state h.cal meas b) h.state b) refl where
  is : Counted h.state h.cal meas b w.sound (receive_of h.state h.cal meas b)
  is = counted h.state h.cal meas b w.sound

  go : (x : Bool) → judged_wrong (receive_of h.state h.cal meas b) h.state b ≡ x → Tally (after_moment ours h (Hears meas b)) (cond x (suc n) n)
  go true t = record { sound = moment_kept h (Hears meas b) w.sound; count = (let more = is.more t in let so = w.count in omega arith); locked = λ _. is.locked t }
  go false f = record {
    sound = moment_kept h (Hears meas b) w.sound;
    count = is.same f ∙ w.count;
    locked = λ e r. byte_locked h.state h.cal meas b w.sound r (w.count ∙ e) (w.locked e r);
  }
passed_tally h (OnEvent meas event clock) n w =
    let a = event_alike h.state h.cal meas event clock in
    record { sound = moment_kept h (OnEvent meas event clock) w.sound; count = a.wrong_keys ∙ w.count; locked = λ e r. ap (λ (f : Resource → Bool). f r) a.unlocked ∙ w.locked e r }
passed_tally h (Serves out) n w =
    let a = slot_alike h.state out w.sound in
    record { sound = moment_kept h (Serves out) w.sound; count = a.wrong_keys ∙ w.count; locked = λ e r. ap (λ (f : Resource → Bool). f r) a.unlocked ∙ w.locked e r }

life_tally : (ms : List Moment) (h : Device) (n : ℕ) → Tally h n → Tally (lived ours h ms) (wrong_in ours h ms n)
life_tally [] h n w = w
life_tally (m ∷ ms) h n w = life_tally ms (after_moment ours h m) (wrong_at ours h m n) (passed_tally h m n w)

-- from a power-up on
tally : (h : Device) (start : ℕ) (ms : List Moment) → length h.state ≡ size → Tally (lived ours h (PowerOn start ∷ ms)) (wrong_in ours h (PowerOn start ∷ ms) 0)
tally h start ms e =
    let is : (after_moment ours h (PowerOn start)).state ≡ powered start = power_up_is h.state start e in
    life_tally ms (after_moment ours h (PowerOn start)) 0 (record { sound = rw is (power_consistent start); count = ap (λ (s : List ℕ). (session_of s).wrong_keys) is ∙ power_count start; locked = λ z. absurd (omega arith) })

shut_then_lem : (h : Device) (start : ℕ) (ms later : List Moment) → length h.state ≡ size → wrong_in ours h (PowerOn start ∷ ms) 0 ≡ 3 → PoweredOn later
    → ((r : Resource) → (session_of (lived ours (lived ours h (PowerOn start ∷ ms)) later).state).unlocked r ≡ false)
    × ((lived ours (lived ours h (PowerOn start ∷ ms)) later).cal ≡ (lived ours h (PowerOn start ∷ ms)).cal)
shut_then_lem h start ms later e three n =
    let h₁ : Device = lived ours h (PowerOn start ∷ ms) in
    let w : Tally h₁ (wrong_in ours h (PowerOn start ∷ ms) 0) = tally h start ms e in
    let is : Three h₁ = record { sound = w.sound; three = w.count ∙ three } in (
      λ r. opens_none_lem later h₁ r is n (w.locked three r),
      life_keyless h₁ later w.sound (shut_locked (session_of h₁.state) (w.locked three Calibration)) (keyless later h₁ is n),
    )

pub stays_shut_lem : StaysShut ours
stays_shut_lem = record {
  counts_wrong = λ s cal meas b c t. ((counted s cal meas b c).few t, (counted s cal meas b c).more t);
  keeps = λ s cal meas b c f. (counted s cal meas b c).same f;
  keeps_on = λ s cal meas out event clock c. ((event_alike s cal meas event clock).wrong_keys, (slot_alike s out c).wrong_keys);
  anew = λ s start e. ap (λ (t : List ℕ). (session_of t).wrong_keys) (power_up_is s start e) ∙ power_count start;
  none_out = none_out_lem;
  opens_none = λ h later r c three n e. opens_none_lem later h r (record { sound = c; three = three }) n e;
  tells = λ h start ms e. (tally h start ms e).count;
  at_most = λ h start ms e. rw (sym (tally h start ms e).count) (at_most_three (lived ours h (PowerOn start ∷ ms)).state);
  shut_then = shut_then_lem;
}
