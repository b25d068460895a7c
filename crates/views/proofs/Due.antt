-- An allocation to which no check of the table applies is done, and answered FF alone. Assumes nothing.
use Rattle.std.proofs.Common.{◌≡◌, ℕ, zero, suc, ◌+◌, ◌<◌, ◌≤◌, Bool, true, false, ◌&&◌, ◌||◌, List, [], ◌∷◌, length, sym, refl, ◌∙◌, subst, ap₂, arith, le-ltb, ne_eqb}
use Rattle.std.proofs.Math.Option.{none}
use Rattle.std.proofs.lemmas.Bool.{lt-leb}
use Rattle.words.specs.declared.Resource.TheVariants.{Lists}
use Rattle.model.specs.Model.{byte, Session, odts_taken, entries_taken, runs_in}
use Rattle.model.specs.Answers.{Done}
use Rattle.views.specs.Commands.{two, Way}
use Rattle.views.specs.Words.{any, running, odts_in_all, entries_in_all}
use Rattle.views.specs.Faults.{table, first_fault}
use Rattle.views.proofs.Listed.{before_next}
use Rattle.views.proofs.FaultWords.{odts_total, entries_total, running_is}
use Rattle.views.proofs.Faults.{answers_first}
use Rattle.views.proofs.Obeys.{AsModel, obeys}

-- no check of ALLOC_DAQ applies
pub record ListsDue (p : List ℕ) (c : Session) : Type 0 where
  pub long : 4 ≤ length p
  pub unlocked : c.unlocked Lists ≡ true
  pub freed : c.freed ≡ true
  pub none : c.lists ≡ 0
  pub some : 1 ≤ two p 2
  pub room : two p 2 ≤ 8

-- of ALLOC_ODT
pub record OdtsDue (p : List ℕ) (c : Session) : Type 0 where
  pub long : 5 ≤ length p
  pub unlocked : c.unlocked Lists ≡ true
  pub no_entries : entries_taken c ≡ 0
  pub there : two p 2 < c.lists
  pub none : (c.list (two p 2)).odts ≡ 0
  pub still : (l : ℕ) → (c.list l).started ≡ false
  pub some : 1 ≤ byte p 4
  pub room : odts_taken c + byte p 4 ≤ 16

-- of ALLOC_ODT_ENTRY
pub record EntriesDue (p : List ℕ) (c : Session) : Type 0 where
  pub long : 6 ≤ length p
  pub unlocked : c.unlocked Lists ≡ true
  pub there : two p 2 < c.lists
  pub in_list : byte p 4 < (c.list (two p 2)).odts
  pub none : ((c.list (two p 2)).odt (byte p 4)).entries ≡ 0
  pub some : 1 ≤ byte p 5
  pub still : runs_in c (two p 2) ≡ false
  pub room : entries_taken c + byte p 5 ≤ 128

module _ (p : List ℕ) (c : Session) (nc nm : ℕ) where
  lists_none : byte p 0 ≡ 0xD5 → ListsDue p c → first_fault p c nc nm ≡ none
  unfolding first_fault table
  lists_none code d = simp (code, le-ltb (length p) 4 d.long, d.unlocked, d.freed, d.none, ne_eqb (two p 2) 0 (omega (arith, d.some)), le-ltb 8 (two p 2) d.room)

  -- without ODTs a list does not run
  nothing : (a b : Bool) → (a && (b && false)) ≡ false
  nothing true true = refl
  nothing true false = refl
  nothing false b = refl

  none_started : ((l : ℕ) → (c.list l).started ≡ false) → (n : ℕ) → any n (λ l. (c.list l).started) ≡ false
  none_started f zero = refl
  none_started f (suc n) = ap₂ ◌||◌ (none_started f n) (f n)

  odts_none : byte p 0 ≡ 0xD4 → OdtsDue p c → first_fault p c nc nm ≡ none
  unfolding first_fault table
  odts_none code d =
      let entries : entries_in_all c ≡ 0 = sym (entries_total c) ∙ d.no_entries in
      let room : odts_in_all c + byte p 4 ≤ 16 = subst (λ (n : ℕ). n + byte p 4 ≤ 16) (odts_total c) d.room in
      simp (
        code,
        le-ltb (length p) 5 d.long,
        d.unlocked,
        ne_eqb c.lists 0 (omega (arith, d.there)),
        le-ltb 0 (entries_in_all c) (omega (arith, entries)),
        le-ltb 0 (c.list (two p 2)).odts (omega (arith, d.none)),
        none_started d.still c.lists,
        lt-leb c.lists (two p 2) d.there,
        ne_eqb (byte p 4) 0 (omega (arith, d.some)),
        nothing c.opened (c.list (two p 2)).started,
        le-ltb 16 (odts_in_all c + byte p 4) room,
      )

  entries_none : byte p 0 ≡ 0xD3 → EntriesDue p c → first_fault p c nc nm ≡ none
  unfolding first_fault table
  entries_none code d =
      let some : odts_in_all c ≡ 0 → ⊥ = λ e. omega (arith, odts_total c, e, d.in_list, before_next c.list (two p 2) c.lists d.there) in
      let rests : running c (two p 2) ≡ false = sym (running_is c (two p 2)) ∙ d.still in
      let room : entries_in_all c + byte p 5 ≤ 128 = subst (λ (n : ℕ). n + byte p 5 ≤ 128) (entries_total c) d.room in
      simp (
        code,
        le-ltb (length p) 6 d.long,
        d.unlocked,
        ne_eqb (odts_in_all c) 0 some,
        d.none,
        lt-leb c.lists (two p 2) d.there,
        lt-leb (c.list (two p 2)).odts (byte p 4) d.in_list,
        ne_eqb (byte p 5) 0 (omega (arith, d.some)),
        rests,
        le-ltb 128 (entries_in_all c + byte p 5) room,
      )

-- ---- by any way that does as the model does
module _ (R : Way) (way : AsModel R) (p : List ℕ) (c : Session) (cal meas : List ℕ) (o : Done) (r : R p c cal meas o) where
  begins_ff : first_fault p c (length cal) (length meas) ≡ none → byte o.answer 0 ≡ 0xFF
  begins_ff e = subst (λ (x : Done). byte x.answer 0 ≡ 0xFF) (sym (way.same p c cal meas o r)) ((answers_first p c cal meas (way.listed p c cal meas o r)).done e)

  pub lists_done : byte p 0 ≡ 0xD5 → ListsDue p c → o.answer ≡ 0xFF ∷ []
  lists_done code d = ((obeys R way).alloc_daq p c cal meas o r code (begins_ff (lists_none p c (length cal) (length meas) code d))).answer

  pub odts_done : byte p 0 ≡ 0xD4 → OdtsDue p c → o.answer ≡ 0xFF ∷ []
  odts_done code d = ((obeys R way).alloc_odt p c cal meas o r code (begins_ff (odts_none p c (length cal) (length meas) code d))).answer

  pub entries_done : byte p 0 ≡ 0xD3 → EntriesDue p c → o.answer ≡ 0xFF ∷ []
  entries_done code d = ((obeys R way).alloc_odt_entry p c cal meas o r code (begins_ff (entries_none p c (length cal) (length meas) code d))).answer
