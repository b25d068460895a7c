-- The whole pool can be had: after FREE_DAQ, from any state in which lists are unlocked, every allocation of at most 8 lists, 16 ODTs and 128 entries in
-- all goes through, in any order of the lists and of the ODTs; whatever lists there were, whether they ran, and whatever commands come between that
-- neither allocate nor free nor start a list nor end or renew the session.
use Rattle.std.specs.Prelude.{ℕ, ◌≤◌, ◌<◌, ◌≡◌, ◌⊎◌, true, List, [], ◌∷◌, ◌++◌, map, length}
use Rattle.words.specs.declared.Resource.TheVariants.{Lists}
use Rattle.state.specs.State.{consistent}
use Rattle.model.specs.Model.{byte, Bytes, Session}
use Rattle.model.specs.View.{session_of, view_of}
use Rattle.views.specs.Words.{total}
use Rattle.views.specs.Commands.{two}
use Rattle.demands.specs.Slave.{AnySlave}
use Rattle.demands.specs.Runs.{Call, Byte, run, LentBytes}
use Rattle.demands.specs.Heard.{Commands}
use Rattle.demands.specs.Between.{changes_pool, Without}

-- ---- a plan: so many lists, so many ODTs in list l, so many entries in its ODT o
pub record Plan : Type 0 where
  pub lists : ℕ
  pub odts : ℕ → ℕ
  pub entries : ℕ → ℕ → ℕ

pub record InPool (w : Plan) : Type 0 where
  pub some : 1 ≤ w.lists
  pub lists : w.lists ≤ 8
  pub odts : total w.lists w.odts ≤ 16
  pub entries : total w.lists (λ l. total (w.odts l) (w.entries l)) ≤ 128

-- session c has just what the plan says
pub record Allocated (w : Plan) (c : Session) : Type 0 where
  pub lists : c.lists ≡ w.lists
  pub odts : (l : ℕ) → l < w.lists → (c.list l).odts ≡ w.odts l
  pub entries : (l o : ℕ) → l < w.lists → o < w.odts l → ((c.list l).odt o).entries ≡ w.entries l o

-- ---- the order in which the tool asks: in xs each of which P stands is once, and no other
abbrev pub In : {A : Type 0} → A → List A → Type 0
In a [] = ⊥
In a (x ∷ xs) = (a ≡ x) ⊎ In a xs

abbrev pub Distinct : {A : Type 0} → List A → Type 0
Distinct [] = Unit {0}
Distinct (x ∷ xs) = (In x xs → ⊥) × Distinct xs

pub record EachOnce {A : Type 0} (P : A → Type 0) (xs : List A) : Type 0 where
  pub only : (a : A) → In a xs → P a
  pub every : (a : A) → P a → In a xs
  pub once : Distinct xs

-- a list that is to have ODTs; an ODT that is to have entries, by its list and its number there
abbrev pub HasOdts : Plan → ℕ → Type 0
HasOdts w l = (l < w.lists) × (1 ≤ w.odts l)

pub record OdtAt : Type 0 where
  pub list : ℕ
  pub odt : ℕ

abbrev pub HasEntries : Plan → OdtAt → Type 0
HasEntries w x = (x.list < w.lists) × (x.odt < w.odts x.list) × (1 ≤ w.entries x.list x.odt)

-- ---- what is asked: that the lists be freed; n lists; n ODTs for a list; n entries for an ODT
pub data Request : Type 0 where
  Freed : Request
  SomeLists : (n : ℕ) → Request
  SomeOdts : (list n : ℕ) → Request
  SomeEntries : (x : OdtAt) (n : ℕ) → Request

-- packet p asks that: D6, D5, D4 and D3, each with its fewest bytes; byte 1, which is reserved, is any, and so are the bytes behind
abbrev pub Asks : List ℕ → Request → Type 0
Asks p Freed = byte p 0 ≡ 0xD6
Asks p (SomeLists n) = (byte p 0 ≡ 0xD5) × (two p 2 ≡ n) × (4 ≤ length p)
Asks p (SomeOdts l n) = (byte p 0 ≡ 0xD4) × (two p 2 ≡ l) × (byte p 4 ≡ n) × (5 ≤ length p)
Asks p (SomeEntries x n) = (byte p 0 ≡ 0xD3) × (two p 2 ≡ x.list) × (byte p 4 ≡ x.odt) × (byte p 5 ≡ n) × (6 ≤ length p)

-- one after the other: free; all lists; the ODTs of each of these lists; the entries of each of these ODTs
abbrev pub asked : Plan → List ℕ → List OdtAt → List Request
asked w ls xs = Freed ∷ SomeLists w.lists ∷ (map (λ l. SomeOdts l (w.odts l)) ls ++ map (λ x. SomeEntries x (w.entries x.list x.odt)) xs)

-- ---- from state s on each is asked by some packet, after any calls that leave what is allocated and start no list, and is answered FF; after the last
-- of them E stands
abbrev pub GoThrough : AnySlave → (Session → Type 0) → List ℕ → List Request → Type 0
GoThrough v E s [] = E (session_of s)
GoThrough v E s (r ∷ rs) =
    (before : List Call) (cal meas : List ℕ) (b : ℕ) (p : List ℕ) → Without changes_pool v s before → LentBytes before → LentBytes (Byte cal meas b ∷ [])
    → Commands (run v s before) b p → Asks p r
    → ((view_of (v.receive (run v s before) cal meas b).state).answer ≡ 0xFF ∷ []) × GoThrough v E (v.receive (run v s before) cal meas b).state rs

-- every plan that fits goes through, if lists are unlocked where it begins
abbrev pub WholePool : AnySlave → Type 0
WholePool v =
    (w : Plan) (ls : List ℕ) (xs : List OdtAt) (s : List ℕ) → InPool w → EachOnce (HasOdts w) ls → EachOnce (HasEntries w) xs
    → consistent s ≡ true → Bytes s → (session_of s).unlocked Lists ≡ true → GoThrough v (Allocated w) s (asked w ls xs)
