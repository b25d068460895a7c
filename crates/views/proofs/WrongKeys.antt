-- F8 and F7 where keys were wrong: GET_SEED that stays shut, or is too short for that; UNLOCK with a wrong key. Assumes nothing.
use Rattle.std.proofs.Common.{◌≡◌, ℕ, ◌+◌, ◌<◌, ◌≤◌, false, eqb, ltb, List, length, Some, None, sym, refl, ◌∙◌, subst, arith, le-leb}
use Rattle.std.proofs.lemmas.Bool.{eqb-false, lt-leb}
use Rattle.line.proofs.Laws.{cond_ind}
use Rattle.state.specs.Bytes.{u32_at}
use Rattle.state.specs.Generator.{key_of, one_wrong_more}
use Rattle.words.specs.Command.{command_of}
use Rattle.words.specs.declared.Command.TheVariants as command
use Rattle.words.specs.declared.Resource.{Resource}
use Rattle.words.specs.Values.{Seed}
use Rattle.model.specs.Judge.{unlock_by, judge_the, judge_by, judge_in}
use Rattle.model.specs.declared.Deed.{Deed}
use Rattle.model.specs.declared.Deed.TheVariants.{WrongKey}
use Rattle.model.specs.Model.{byte, Session}
use Rattle.model.specs.Step.{step_in}
use Rattle.model.specs.Answers.{reply_in, writes}
use Rattle.views.specs.Commands.{WRONG_KEY}
use Rattle.views.proofs.FaultWords.{key_is}
use Rattle.views.proofs.Taken.{four_is, by_code, Leads}
use Rattle.views.proofs.SessionLaws.{blank_fresh}

-- one wrong key more, and the most
pub one_more_lem : (n : ℕ) → n < 3 → one_wrong_more n ≡ n + 1
one_more_lem n h = rw (lt-leb 3 n h)

pub at_most_lem : (n : ℕ) → 3 ≤ n → one_wrong_more n ≡ 3
at_most_lem n h = rw (le-leb 3 n h)

module _ (p : List ℕ) (c : Session) (cal meas : List ℕ) where
  -- ---- F7 UNLOCK: what was judged, if it is answered FE 25
  pub record Wrongly (d : Deed) : Type 0 where
    pub deed : d ≡ WrongKey
    pub resource : Resource
    pub seeded : c.seed ≡ Some resource
    pub wrong : eqb (u32_at p 2) (key_of resource c.generator) ≡ false

  abbrev Told : Deed → Type 0
  Told d = byte (reply_in d c cal meas) 0 ≡ 0xFE → byte (reply_in d c cal meas) 1 ≡ 0x25 → Wrongly d

  by_seed : (x : Seed) → c.seed ≡ x → Told (unlock_by x c.generator (byte p 1) (length p) (u32_at p 2))
  unfolding unlock_by reply_in
  by_seed None e = λ _ t. absurd (omega arith)
  by_seed (Some r) e =
      cond_ind Told (eqb (byte p 1) 4) (λ _.
      cond_ind Told (ltb (length p) 6) (λ _ _ t. absurd (omega arith)) (λ _.
      cond_ind Told (eqb (u32_at p 2) (key_of r c.generator)) (λ _ f. absurd (omega arith)) (λ k _ _. record { deed = refl; resource = r; seeded = e; wrong = k })))
      (λ _ _ t. absurd (omega arith))

  pub told_wrong : byte p 0 ≡ 0xF7 → Told (judge_in p c (length cal) (length meas))
  unfolding judge_by judge_the command_of reply_in
  told_wrong code =
      by_code Told p c 0xF7 command.Unlock refl code (length cal) (length meas)
      (cond_ind Told (ltb (length p) 2) (λ _ _ t. absurd (omega arith)) (λ _. by_seed c.seed refl))

  counted : (r : Resource) → c.seed ≡ Some r → eqb (u32_at p 2) (key_of r c.generator) ≡ false → Leads WRONG_KEY p c cal meas WrongKey
  unfolding step_in writes reply_in
  counted r e key = record {
    resource = r;
    seeded = e;
    wrong = λ right. eqb-false (u32_at p 2) (key_of r c.generator) key (four_is p 2 ∙ right ∙ sym (key_is r c.generator));
    counted = one_more_lem c.wrong_keys;
    most = at_most_lem c.wrong_keys;
    closed = refl;
    fresh = blank_fresh c (one_wrong_more c.wrong_keys) false;
    memory = refl;
    answer = refl;
  }

  pub wrong_key_lem : byte p 0 ≡ 0xF7 → byte (reply_in (judge_in p c (length cal) (length meas)) c cal meas) 0 ≡ 0xFE → byte (reply_in (judge_in p c (length cal) (length meas)) c cal meas) 1 ≡ 0x25
      → Leads WRONG_KEY p c cal meas (judge_in p c (length cal) (length meas))
  wrong_key_lem code f t = let w : Wrongly (judge_in p c (length cal) (length meas)) = told_wrong code f t in subst (Leads WRONG_KEY p c cal meas) (sym w.deed) (counted w.resource w.seeded w.wrong)
