-- What a session has of the pool: nothing beyond its lists, where bytes show it; which lists were started. Assumes nothing.
use Rattle.std.proofs.Common.{◌≡◌, ℕ, zero, suc, ◌+◌, ◌<◌, ◌≤◌, Bool, true, false, cond, ltb, List, sym, refl, ap, ◌∙◌, subst, ap₂, arith, ltb-false, ltb-true}
use Rattle.line.proofs.Laws.{false_true, cond_ind}
use Rattle.model.specs.Model.{DaqList, no_list, Session, odts_before, runs, runs_in, some_started}
use Rattle.model.specs.View.{session_of}
use Rattle.model.proofs.Bounded.{either}
use Rattle.model.proofs.Shown.{no_list_lem}
use Rattle.views.proofs.Parts.{this_or_other}

-- a list that there is not reads as none
abbrev pub Listed : Session → Type 0
Listed c = (l : ℕ) → c.lists ≤ l → c.list l ≡ no_list

pub listed : (s : List ℕ) → Listed (session_of s)
unfolding session_of
listed s = no_list_lem s

-- so one that has ODTs is there
pub odts_listed : (c : Session) → Listed c → (l o : ℕ) → o < (c.list l).odts → l < c.lists
odts_listed c has l o h =
    either (ltb l c.lists) (λ b. ltb-true l c.lists b)
    (λ b. absurd (nothing (subst (λ (x : DaqList). o < x.odts) (has l (ltb-false l c.lists b)) h))) where
      nothing : o < 0 → ⊥
      nothing p = omega arith

-- ---- the ODTs before a list, by how many each has
pub before_same : (f g : ℕ → DaqList) → ((l : ℕ) → (f l).odts ≡ (g l).odts) → (n : ℕ) → odts_before f n ≡ odts_before g n
unfolding odts_before
before_same f g e zero = refl
before_same f g e (suc n) = ap₂ ◌+◌ (before_same f g e n) (e n)

-- those of a list lie behind those before it, and before those of the next ones
pub before_next : (f : ℕ → DaqList) (l n : ℕ) → l < n → odts_before f l + (f l).odts ≤ odts_before f n
unfolding odts_before
before_next f l zero h = absurd (omega arith)
before_next f l (suc n) h = this_or_other l n (λ e. rw e (omega arith)) (λ e. let p : odts_before f l + (f l).odts ≤ odts_before f n = before_next f l n (omega arith) in omega arith)

-- ---- of the first n lists none was started: one by one
pub neither : (a b : Bool) → cond a true b ≡ false → (a ≡ false) × (b ≡ false)
neither true b f = absurd (false_true (sym f))
neither false b f = (refl, f)

pub not_started : (c : Session) (n : ℕ) → some_started c n ≡ false → (l : ℕ) → l < n → (c.list l).started ≡ false
unfolding some_started
not_started c zero e l h = absurd (omega arith)
not_started c (suc n) e l h =
    let none = neither (some_started c n) (c.list n).started e in
    this_or_other l n (λ same. ap (λ (i : ℕ). (c.list i).started) same ∙ none.1) (λ other. not_started c n none.0 l (omega arith))

pub none_started : (c : Session) (n : ℕ) → ((l : ℕ) → l < n → (c.list l).started ≡ false) → some_started c n ≡ false
unfolding some_started
none_started c zero f = refl
none_started c (suc n) f = ap₂ (λ (a b : Bool). cond a true b) (none_started c n (λ l h. f l (omega arith))) (f n (omega arith))

-- ---- a list that was not started does not run, nor does one that there is not
pub unstarted_rests : (opened : Bool) (x : DaqList) → x.started ≡ false → runs opened x ≡ false
unfolding runs
unstarted_rests opened x e = ap (λ (b : Bool). cond opened (cond b (ltb 0 x.odts) false) false) e ∙ cond_ind (λ (b : Bool). b ≡ false) opened (λ _. refl) (λ _. refl)

-- where none of those that there are was started, none was
pub all_unstarted : (c : Session) → Listed c → some_started c c.lists ≡ false → (l : ℕ) → (c.list l).started ≡ false
all_unstarted c has e l = either (ltb l c.lists) (λ b. not_started c c.lists e l (ltb-true l c.lists b)) (λ b. ap (λ (x : DaqList). x.started) (has l (ltb-false l c.lists b)))

-- a list that runs is there
pub runs_listed : (c : Session) → Listed c → (l : ℕ) → runs_in c l ≡ true → l < c.lists
runs_listed c has l run =
    either (ltb l c.lists) (λ b. ltb-true l c.lists b)
    (λ b. absurd (false_true (sym (unstarted_rests c.opened (c.list l) (ap (λ (x : DaqList). x.started) (has l (ltb-false l c.lists b)))) ∙ run)))
