-- What frames carry: a frame's packet reads as it was, an answer as an answer, and a list's packet as that list's. Assumes nothing.
use Rattle.std.proofs.Common.{◌≡◌, ◌≢◌, ℕ, ◌+◌, ◌%◌, ◌<◌, Bool, true, false, cond, List, [], ◌∷◌, ◌++◌, length, get_or, drop, set, eqb, ltb, leb, refl, ap, ap₂, ◌∙◌, arith, ltb-true, ltb-false, lt-ltb, le-ltb, get_or-set_same, get_or-take, get_or-drop, take_at}
use Rattle.std.proofs.lemmas.Bool.{lt-leb}
use Rattle.line.specs.Message.{message, frame, sum}
use Rattle.line.proofs.Stuffed.{unstuff_stuff}
use Rattle.line.proofs.Laws.{cond_ind}
use Rattle.state.specs.Layout.{size, all_odts, answer_bytes_at}
use Rattle.state.specs.State.{answer_length, answer_kind, answer_of}
use Rattle.model.specs.Model.{Session, first_of, has_answer}
use Rattle.model.specs.Calls.{packet_from}
use Rattle.model.specs.View.{view_of}
use Rattle.model.proofs.Bounded.{either}
use Rattle.lists.proofs.Counting.{both_no}
use Rattle.views.proofs.Listed.{before_same, before_next}
use Rattle.demands.specs.Waiting.{packet_inside, packet_read, is_answer, is_of, carried}
use Rattle.demands.proofs.ReadBy.{waits_shown}
use Rattle.demands.proofs.Deeds.{SameNumbers}

-- a message's packet
inside_message : (c : ℕ) (p : List ℕ) → packet_inside (message c p) ≡ p
inside_message c p = take_at p ((sum (length p ∷ c ∷ p) % 256) ∷ []) (length p) refl

pub packet_read_lem : (c : ℕ) (p : List ℕ) → packet_read (frame c p) ≡ p
packet_read_lem c p = ap packet_inside (unstuff_stuff (message c p)) ∙ inside_message c p

pub carried_append : (test : List ℕ → Bool) (xs ys : List (List ℕ)) → carried test (xs ++ ys) ≡ carried test xs ++ carried test ys
carried_append test [] ys = refl
carried_append test (x ∷ xs) ys = go (test (packet_read x)) (carried_append test xs ys) where
  go : (t : Bool) → carried test (xs ++ ys) ≡ carried test xs ++ carried test ys
      → cond t (packet_read x ∷ carried test (xs ++ ys)) (carried test (xs ++ ys)) ≡ cond t (packet_read x ∷ carried test xs) (carried test xs) ++ carried test ys
  go true e = ap (λ zs. packet_read x ∷ zs) e
  go false e = e

-- tests that agree
pub carried_alike : (f g : List ℕ → Bool) → ((p : List ℕ) → f p ≡ g p) → (xs : List (List ℕ)) → carried f xs ≡ carried g xs
carried_alike f g e [] = refl
carried_alike f g e (x ∷ xs) = ap₂ (λ (t : Bool) (ps : List (List ℕ)). cond t (packet_read x ∷ ps) ps) (e (packet_read x)) (carried_alike f g e xs)

-- one frame, that passes a test or does not
pub carries : (test : List ℕ → Bool) (c : ℕ) (p : List ℕ) → test p ≡ true → carried test (frame c p ∷ []) ≡ p ∷ []
carries test c p h = rw (packet_read_lem c p, h)

pub carries_none : (test : List ℕ → Bool) (c : ℕ) (p : List ℕ) → test p ≡ false → carried test (frame c p ∷ []) ≡ []
carries_none test c p h = rw (packet_read_lem c p, h)

-- ---- a list's packet
low : (k : ℕ) → k < all_odts → leb 0xFE k ≡ false
low k h = lt-leb 0xFE k (omega arith)

module _ (c : Session) (j o : ℕ) (h : first_of c j + o < all_odts) where
  abbrev number : ℕ
  number = first_of c j + o

  pub packet_no_answer : is_answer (packet_from c j o) ≡ false
  unfolding packet_from
  packet_no_answer = low number h

  pub packet_own : o < (c.list j).odts → is_of c j (packet_from c j o) ≡ true
  unfolding packet_from
  packet_own its = rw (low number h, le-ltb number (first_of c j) (omega arith)) (lt-ltb number (first_of c j + (c.list j).odts) (omega arith))

  -- the ODTs of two lists are apart
  pub packet_other : (l : ℕ) → o < (c.list j).odts → l ≢ j → is_of c l (packet_from c j o) ≡ false
  unfolding packet_from
  packet_other l its n =
      rw (low number h)
      (either (ltb l j)
      (λ b. let before = before_next c.list l j (ltb-true l j b) in both_no (ltb number (first_of c l)) _ (le-ltb number (first_of c l + (c.list l).odts) (omega (arith, before))))
      (λ b. let behind = before_next c.list j l (omega (arith, n, ltb-false l j b)) in rw (lt-ltb number (first_of c l) (omega (arith, behind)))))

-- sessions that number alike
pub of_same : (c d : Session) → SameNumbers c d → (l : ℕ) (p : List ℕ) → is_of d l p ≡ is_of c l p
of_same c d w l p =
    ap₂ (λ (m n : ℕ). cond (is_answer p) false (cond (ltb (get_or p 0 0) m) false (ltb (get_or p 0 0) (m + n)))) (before_same d.list c.list w.odts l) (w.odts l)

-- ---- an answer
-- it begins FF or FE
kind_high : (s : List ℕ) → leb 0xFE (answer_kind s) ≡ true
unfolding answer_kind
kind_high s =
    let P : ℕ → Type 0 = λ (n : ℕ). leb 0xFE n ≡ true in
    cond_ind P (eqb (get_or s answer_bytes_at 0) 0xFE)
    (λ _. cond_ind P (eqb (answer_length s) 2) (λ _. refl) (λ _. cond_ind P (eqb (answer_length s) 8) (λ _. refl) (λ _. refl)))
    (λ _. refl)

pub answer_answers : (s : List ℕ) → length s ≡ size → has_answer (view_of s) ≡ true → is_answer (view_of s).answer ≡ true
unfolding view_of answer_of
answer_answers s h w =
    let t : List ℕ = set s answer_bytes_at (answer_kind s) in
    let n : 0 < answer_length s = ltb-true 0 (answer_length s) (waits_shown s h ∙ w) in
    let e = get_or-take (answer_length s) (drop answer_bytes_at t) 0 0 n ∙ get_or-drop answer_bytes_at t 0 0 ∙ get_or-set_same s answer_bytes_at (answer_kind s) 0 (omega arith) in
    rw e (kind_high s)

-- it is no list's
pub answer_of_none : (c : Session) (l : ℕ) (p : List ℕ) → is_answer p ≡ true → is_of c l p ≡ false
answer_of_none c l p e = rw e
