-- A command that is answered FF passed every check: what its deed does. Assumes nothing.
use Rattle.std.proofs.Common.{◌≡◌, ℕ, ◌≤◌, Bool, true, false, cond, eqb, ltb, List, length, sym, refl, ap, ◌∙◌, subst, arith, ltb-false, eqb-true}
use Rattle.std.proofs.lemmas.Bool.{eqb-false}
use Rattle.line.proofs.Laws.{cond_ind}
use Rattle.state.specs.Bytes.{u16_at, u32_at}
use Rattle.words.specs.Command.{command_of, fewest, needs_of}
use Rattle.words.specs.declared.Command.{Command}
use Rattle.words.specs.declared.Extension.{Extension}
use Rattle.words.specs.declared.Reason.{Reason}
use Rattle.words.specs.declared.Reason.TheVariants.{TooShort, Locked}
use Rattle.model.specs.Seen.{numbers_of}
use Rattle.model.specs.Judge.{extension_from, locked_by, judge_the, judge_by, judge, seen_in, judge_in}
use Rattle.model.specs.declared.Deed.{Deed}
use Rattle.model.specs.declared.Deed.TheVariants.{Refuse}
use Rattle.model.specs.Model.{byte, Session}
use Rattle.model.specs.Answers.{reply_in, done_by}
use Rattle.views.specs.Commands.{four, extension_number, Way}

-- ---- the packet's numbers
pub four_is : (p : List ℕ) (i : ℕ) → u32_at p i ≡ four p i
unfolding u32_at
four_is p i = omega arith

pub named_by : (n : ℕ) → ltb 1 n ≡ false → n ≡ extension_number (extension_from n)
named_by n few =
    let least : n ≤ 1 = ltb-false 1 n few in
    cond_ind (λ (x : Extension). n ≡ extension_number x) (eqb n 0) (λ z. eqb-true n 0 z) (λ z. let some = eqb-false n 0 z in omega arith)

-- ---- checks
pub fe_ff : ◌≡◌ {A = ℕ} 0xFE 0xFF → ⊥
fe_ff e = omega arith

-- by the command that a code names
pub by_code : (P : Deed → Type 0) (p : List ℕ) (c : Session) (k : ℕ) (x : Command) → command_of k ≡ x → byte p 0 ≡ k → (nc nm : ℕ)
    → P (judge_by x (numbers_of p) (seen_in (u16_at p 2) (byte p 4) c) nc nm) → P (judge_in p c nc nm)
unfolding judge_in judge
by_code P p c k x e code nc nm = subst (λ (y : Command). P (judge_by y (numbers_of p) (seen_in (u16_at p 2) (byte p 4) c) nc nm)) (sym (ap command_of code ∙ e))

module _ (p : List ℕ) (c : Session) (cal meas : List ℕ) where
  -- a deed that is answered FF
  abbrev pub Taken : Deed → Type 0
  Taken d = byte (reply_in d c cal meas) 0 ≡ 0xFF

  module _ (P : Deed → Type 0) where
    -- then no test that refuses applied
    pub unless : (b : Bool) (r : Reason) {d : Deed} → (b ≡ false → Taken d → P d) → Taken (cond b (Refuse r) d) → P (cond b (Refuse r) d)
    unfolding reply_in
    unless true r f t = absurd (fe_ff t)
    unless false r f t = f refl t

    pub provided : (b : Bool) (r : Reason) {d : Deed} → (b ≡ true → Taken d → P d) → Taken (cond b d (Refuse r)) → P (cond b d (Refuse r))
    unfolding reply_in
    provided true r f t = f refl t
    provided false r f t = absurd (fe_ff t)

    pub branch : (b : Bool) {d e : Deed} → (b ≡ true → Taken d → P d) → (b ≡ false → Taken e → P e) → Taken (cond b d e) → P (cond b d e)
    branch true f g t = f refl t
    branch false f g t = g refl t

    pub judged : (k : ℕ) (x : Command) → command_of k ≡ x → byte p 0 ≡ k
        → (Taken (judge_the x (numbers_of p) (seen_in (u16_at p 2) (byte p 4) c) (length cal) (length meas)) → P (judge_the x (numbers_of p) (seen_in (u16_at p 2) (byte p 4) c) (length cal) (length meas)))
        → Taken (judge_in p c (length cal) (length meas)) → P (judge_in p c (length cal) (length meas))
    unfolding judge_by
    judged k x e code f =
        by_code (λ (d : Deed). Taken d → P d) p c k x e code (length cal) (length meas)
        (unless (ltb (length p) (fewest x)) TooShort (λ _. unless (locked_by (needs_of x) (seen_in (u16_at p 2) (byte p 4) c)) Locked (λ _. f)))

-- a deed that is done leads to what W says
abbrev pub Leads : Way → List ℕ → Session → List ℕ → List ℕ → Deed → Type 0
Leads W p c cal meas d = W p c cal meas (done_by d p c cal meas)
