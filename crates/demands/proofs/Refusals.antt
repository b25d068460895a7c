-- The refusals: which deeds are answered FE, and what a wrong key and DISCONNECT are judged to be. Assumes nothing.
use Rattle.std.proofs.Common.{◌≡◌, ◌≢◌, ℕ, ◌≤◌, Bool, true, false, cond, List, [], ◌∷◌, length, Some, None, eqb, ltb, refl, ◌∙◌, arith, eqb-true, ltb-false, le-ltb}
use Rattle.std.proofs.lemmas.Bool.{not-true}
use Rattle.model.specs.Judge.{judge_in, unlock_by, judge_the, judge_by, judge}
use Rattle.model.specs.Answers.{reply_in, written, writes}
use Rattle.model.specs.Model.{byte, Session}
use Rattle.line.proofs.Laws.{cond_ind}
use Rattle.words.specs.Command.{command_of}
use Rattle.session.specs.Perform.{effect}
use Rattle.words.specs.declared.Resource.{Resource}
use Rattle.words.specs.Values.{Seed}
use Rattle.model.specs.declared.Deed.{Deed}
use Rattle.model.specs.declared.Deed.TheVariants.{Refuse, RefuseSize, WrongKey, Connect, Disconnect, Status, Synch, NoSeed, GiveSeed, Unlock, SetMta, Upload, Checksum, Download, ClearList, SetPointer, ClearEntry, WriteEntry, SetMode, Stop, Start, KeepRunning, Select, StopAll, StartSelected, StopSelected, ProcessorInfo, ResolutionInfo, FreeLists, AllocLists, AllocOdts, AllocEntries}
use Rattle.demands.specs.Heard.{brings_key, key_matches, wrong_key_by, wrong_key}

-- ---- what is answered FE
-- a deed that changes nothing but the answer
pub record Idles (d : Deed) (p s cal : List ℕ) : Type 0 where
  pub state : effect d s ≡ s
  pub memory : written d p cal ≡ cal

ff_fe : ◌≡◌ {A = ℕ} 0xFF 0xFE → ⊥
ff_fe e = omega arith

-- apart from a wrong key, nothing changes
pub refusal : (d : Deed) (p : List ℕ) (c : Session) (s cal meas : List ℕ) → d ≢ WrongKey → byte (reply_in d c cal meas) 0 ≡ 0xFE → Idles d p s cal
unfolding effect reply_in writes
refusal (Refuse r) p c s cal meas n e = record { state = refl; memory = refl }
refusal RefuseSize p c s cal meas n e = record { state = refl; memory = refl }
refusal WrongKey p c s cal meas n e = absurd (n refl)
refusal Connect p c s cal meas n e = absurd (ff_fe e)
refusal Disconnect p c s cal meas n e = absurd (ff_fe e)
refusal Status p c s cal meas n e = record { state = refl; memory = refl }
refusal Synch p c s cal meas n e = record { state = refl; memory = refl }
refusal NoSeed p c s cal meas n e = record { state = refl; memory = refl }
refusal (GiveSeed r) p c s cal meas n e = absurd (ff_fe e)
refusal (Unlock r) p c s cal meas n e = absurd (ff_fe e)
refusal (SetMta x a) p c s cal meas n e = absurd (ff_fe e)
refusal (Upload x a m) p c s cal meas n e = absurd (ff_fe e)
refusal (Checksum x a m) p c s cal meas n e = absurd (ff_fe e)
refusal (Download from a m) p c s cal meas n e = absurd (ff_fe e)
refusal (ClearList l) p c s cal meas n e = absurd (ff_fe e)
refusal (SetPointer l o x) p c s cal meas n e = absurd (ff_fe e)
refusal (ClearEntry l o x) p c s cal meas n e = absurd (ff_fe e)
refusal (WriteEntry l o x m y a) p c s cal meas n e = absurd (ff_fe e)
refusal (SetMode l event) p c s cal meas n e = absurd (ff_fe e)
refusal (Stop l) p c s cal meas n e = absurd (ff_fe e)
refusal (Start l) p c s cal meas n e = absurd (ff_fe e)
refusal (KeepRunning l) p c s cal meas n e = record { state = refl; memory = refl }
refusal (Select l) p c s cal meas n e = absurd (ff_fe e)
refusal StopAll p c s cal meas n e = absurd (ff_fe e)
refusal StartSelected p c s cal meas n e = absurd (ff_fe e)
refusal StopSelected p c s cal meas n e = absurd (ff_fe e)
refusal ProcessorInfo p c s cal meas n e = record { state = refl; memory = refl }
refusal ResolutionInfo p c s cal meas n e = record { state = refl; memory = refl }
refusal FreeLists p c s cal meas n e = absurd (ff_fe e)
refusal (AllocLists m) p c s cal meas n e = absurd (ff_fe e)
refusal (AllocOdts l m) p c s cal meas n e = absurd (ff_fe e)
refusal (AllocEntries l o m) p c s cal meas n e = absurd (ff_fe e)

-- ---- keys
-- UNLOCK with four key bytes
pub record Keyed (p : List ℕ) : Type 0 where
  pub code : byte p 0 ≡ 0xF7
  pub four : byte p 1 ≡ 4
  pub long : 6 ≤ length p

pub keyed : (p : List ℕ) → brings_key p ≡ true → Keyed p
unfolding brings_key
keyed p =
    let P : Bool → Type 0 = λ (t : Bool). t ≡ true → Keyed p in
    cond_ind P (eqb (byte p 0) 0xF7)
    (λ c. cond_ind P (eqb (byte p 1) 4)
    (λ f l. record { code = eqb-true (byte p 0) 0xF7 c; four = eqb-true (byte p 1) 4 f; long = ltb-false (length p) 6 (not-true (ltb (length p) 6) l) })
    (λ _ f. cc))
    (λ _ f. cc)

-- with a key for the seed that is out, whether it matches is all that is left
pub key_judged : (p : List ℕ) (c : Session) (r : Resource) (nc nm : ℕ) → brings_key p ≡ true → c.seed ≡ Some r → judge_in p c nc nm ≡ cond (key_matches p r c) (Unlock r) WrongKey
unfolding judge_in judge judge_by judge_the command_of unlock_by
key_judged p c r nc nm k e =
    let w : Keyed p = keyed p k in
    let long : 6 ≤ length p = w.long in
    simp (w.code, le-ltb (length p) 2 (omega arith), e, w.four, le-ltb (length p) 6 long)

-- what wrong_key says
pub record Wrong (p : List ℕ) (c : Session) (seed : Seed) : Type 0 where
  pub resource : Resource
  pub out : seed ≡ Some resource
  pub key : brings_key p ≡ true
  pub wrong : key_matches p resource c ≡ false

pub wrong_by : (seed : Seed) (p : List ℕ) (c : Session) → wrong_key_by seed p c ≡ true → Wrong p c seed
unfolding wrong_key_by
wrong_by None p c e = absurd cc
wrong_by (Some r) p c e =
    cond_ind (λ (t : Bool). t ≡ true → Wrong p c (Some r)) (brings_key p)
    (λ k n. record { resource = r; out = refl; key = k; wrong = not-true (key_matches p r c) n })
    (λ _ f. cc) e

pub wrong_judged : (p : List ℕ) (c : Session) (nc nm : ℕ) → wrong_key p c ≡ true → judge_in p c nc nm ≡ WrongKey
wrong_judged p c nc nm e =
    let w : Wrong p c c.seed = wrong_by c.seed p c e in
    key_judged p c w.resource nc nm w.key w.out ∙ rw w.wrong

-- ---- DISCONNECT
pub disconnect_judged : (q : List ℕ) (c : Session) (nc nm : ℕ) → byte q 0 ≡ 0xFE → judge_in q c nc nm ≡ Disconnect
unfolding judge_in judge judge_by judge_the command_of
disconnect_judged [] c nc nm e = cc
disconnect_judged (x ∷ q) c nc nm e =
    let h : x ≡ 0xFE = e in
    simp (h, le-ltb (length (x ∷ q)) 1 (omega arith))
