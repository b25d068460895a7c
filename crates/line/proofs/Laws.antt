-- Laws of stores, of stuffing and of sums. Assumes nothing.
use Rattle.std.proofs.Common.{◌≡◌, ℕ, suc, ◌+◌, ◌-◌, ◌/◌, ◌<◌, ◌≤◌, Bool, true, false, cond, eqb, List, [], ◌∷◌, ◌++◌, length, get_or, take, set, sym, refl, ap, ◌∙◌, append_assoc, append-nil, add-zero, add-suc, suc-add, zero-add, add-one, arith, length-append, take-suc, set-set, ne_eqb, eqb-true}
use Rattle.std.proofs.lemmas.Bool.{eqb-false}
use Rattle.std.proofs.lemmas.List.Edits.{sets}
use Rattle.line.specs.Stuffing.{SYNC, ESC, stuff_byte, stuff}
use Rattle.line.specs.Message.{head_in, byte_form, most, sum, frame}
use Rattle.line.specs.Writer.{at_front, Stored}

-- two truth values are not one
pub false_true : false ≡ true → ⊥
false_true e = let z : ◌≡◌ {A = ℕ} 0 1 = cc in omega arith

-- what holds of both of a choice, each under its test, holds of the choice
pub cond_ind : {A : Type 0} (P : A → Type 0) (t : Bool) {a b : A} → (t ≡ true → P a) → (t ≡ false → P b) → P (cond t a b)
cond_ind P true f g = f refl
cond_ind P false f g = g refl

-- ---- stores
pub sets_append : (xs ys l : List ℕ) (i : ℕ) → sets (sets l i xs) (i + length xs) ys ≡ sets l i (xs ++ ys)
sets_append [] ys l i = rw add-zero
sets_append (x ∷ xs) ys l i = rw (add-suc, ← suc-add) (sets_append xs ys (set l i x) (suc i))

-- one run of stores, and then another from where it ended
pub more : {l l' l'' xs ys : List ℕ} {at r r' : ℕ} → Stored l at xs l' r → Stored l' r ys l'' r' → Stored l at (xs ++ ys) l'' r'
more {l} {l'} {l''} {xs} {ys} {at} {r} {r'} p q = record {
  next = q.next ∙ rw (p.next, length-append) (omega arith);
  bytes = q.bytes ∙ rw (p.bytes, p.next) (sets_append xs ys l at);
}

sets_nil : (xs : List ℕ) (i : ℕ) → sets [] i xs ≡ []
sets_nil [] i = refl
sets_nil (x ∷ xs) i = sets_nil xs (suc i)

sets_cons : (xs l : List ℕ) (y i : ℕ) → sets (y ∷ l) (suc i) xs ≡ y ∷ sets l i xs
sets_cons [] l y i = refl
sets_cons (x ∷ xs) l y i = sets_cons xs (set l i x) y (suc i)

sets_front : (xs l : List ℕ) → sets l 0 xs ≡ at_front xs l
sets_front [] l = refl
sets_front (x ∷ xs) [] = sets_nil xs 1
sets_front (x ∷ xs) (y ∷ l) = sets_cons xs l x 0 ∙ ap (λ (r : List ℕ). x ∷ r) (sets_front xs l)

-- ---- the front of a list
pub front_next : (xs l : List ℕ) (a : ℕ) → at_front (xs ++ a ∷ []) l ≡ set (at_front xs l) (length xs) a
front_next [] [] a = refl
front_next [] (y ∷ l) a = refl
front_next (x ∷ xs) [] a = refl
front_next (x ∷ xs) (y ∷ l) a = ap (λ (r : List ℕ). x ∷ r) (front_next xs l a)

pub length_front : (xs l : List ℕ) → length (at_front xs l) ≡ length l
length_front [] l = refl
length_front (x ∷ xs) [] = refl
length_front (x ∷ xs) (y ∷ l) = ap suc (length_front xs l)

-- ---- stuffing
pub stuff_append : (a b : List ℕ) → stuff (a ++ b) ≡ stuff a ++ stuff b
stuff_append [] b = refl
stuff_append (x ∷ a) b = rw (stuff_append a b) (sym (append_assoc (stuff_byte x) (stuff a) (stuff b)))

pub stuff_one : (b : ℕ) → stuff (b ∷ []) ≡ stuff_byte b
stuff_one b = append-nil (stuff_byte b)

stuff_next : (l : List ℕ) (i : ℕ) → i < length l → stuff (take (i + 1) l) ≡ stuff (take i l) ++ stuff_byte (get_or l i 0)
stuff_next l i h = rw (add-one, take-suc l i 0 h, stuff_append (take i l) (get_or l i 0 ∷ []), stuff_one (get_or l i 0))

-- a byte takes one byte of the wire or two
pub byte_size : (b : ℕ) → (1 ≤ length (stuff_byte b)) × (length (stuff_byte b) ≤ 2)
byte_size b =
    cond_ind (λ (l : List ℕ). (1 ≤ length l) × (length l ≤ 2)) (eqb b SYNC) (λ _. (omega arith, omega arith))
    (λ _. cond_ind (λ (l : List ℕ). (1 ≤ length l) × (length l ≤ 2)) (eqb b ESC) (λ _. (omega arith, omega arith)) (λ _. (omega arith, omega arith)))

pub stuff_short : (bs : List ℕ) → length (stuff bs) ≤ length bs + length bs
stuff_short [] = omega arith
stuff_short (b ∷ bs) = rw (length-append (stuff_byte b) (stuff bs)) (omega (arith, byte_size b, stuff_short bs))

-- the first i bytes of l, stuffed, and one byte more
pub stored_next : {l l' l'' : List ℕ} {at r r' : ℕ} (bs : List ℕ) (i : ℕ) → i < length bs → Stored l at (stuff (take i bs)) l' r → Stored l' r (stuff_byte (get_or bs i 0)) l'' r' → Stored l at (stuff (take (i + 1) bs)) l'' r'
stored_next bs i h p q = rw (stuff_next bs i h) (more p q)

-- ---- sums
pub sum_append : (a b : List ℕ) → sum (a ++ b) ≡ sum a + sum b
sum_append [] b = omega arith
sum_append (x ∷ a) b = omega (arith, sum_append a b)

pub sum_next : (l : List ℕ) (i : ℕ) → i < length l → sum (take (i + 1) l) ≡ sum (take i l) + get_or l i 0
sum_next l i h = rw (add-one, take-suc l i 0 h) (omega (arith, sum_append (take i l) (get_or l i 0 ∷ [])))

-- ---- a frame, as the writer puts it together: LEN stands there as it is
frame_is : (p : List ℕ) (ctr s : ℕ) → length p ≤ most → s ≡ byte_form.checksum (head_in byte_form ctr p) → (((SYNC ∷ length p ∷ []) ++ stuff_byte ctr) ++ stuff p) ++ stuff_byte s ≡ frame ctr p
frame_is p ctr s few e =
    rw (← e) (simp (append_assoc, stuff_append p (s ∷ []), stuff_one, ne_eqb (length p) SYNC (λ z. omega arith), ne_eqb (length p) ESC (λ z. omega arith)))

pub written : (p out : List ℕ) (ctr s : ℕ) {l₁ l₂ l₃ : List ℕ} {a b c : ℕ} → length p ≤ most → s ≡ byte_form.checksum (head_in byte_form ctr p)
    → Stored (set (set out 0 SYNC) 1 (length p)) 2 (stuff_byte ctr) l₁ a → Stored l₁ a (stuff p) l₂ b → Stored l₂ b (stuff_byte s) l₃ c
    → (c ≡ length (frame ctr p)) × (l₃ ≡ at_front (frame ctr p) out)
written p out ctr s {l₁} {l₂} {l₃} {a} {b} {c} few e e₁ e₂ e₃ =
    let first : Stored out 0 (SYNC ∷ length p ∷ []) (set (set out 0 SYNC) 1 (length p)) 2 = record { next = refl; bytes = refl } in
    let whole : Stored out 0 (frame ctr p) l₃ c = rw (frame_is p ctr s few e) at (more (more (more first e₁) e₂) e₃) in
    (whole.next ∙ zero-add _, whole.bytes ∙ sets_front (frame ctr p) out)
