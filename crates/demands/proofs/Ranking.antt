-- Of L lists, whatever each has: the next packet of one list leaves by the counted slot 2 L, p packets of it by 2 L p. Assumes nothing.
use Rattle.std.proofs.Common.{ℕ, suc, ◌+◌, ◌*◌, ◌≤◌, Bool, true, false, List, [], ◌∷◌, length, refl, ap, arith}
use Rattle.demands.specs.Demand3.{Begins}
use Rattle.demands.specs.Ranking.{Proceeds, at_end, answer_first, own_packet, other_list}

abbrev bit : Bool → ℕ
bit true = 1
bit false = 0

bit_most : (b : Bool) → bit b ≤ 1
bit_most true = omega arith
bit_most false = omega arith

-- the first packet leaves
first_on : (L : ℕ) (p : List ℕ) (q : List (List ℕ)) (far n : ℕ) (last : Bool) (sent : List (List ℕ)) → Proceeds L (p ∷ q) far last n sent → 1 ≤ far
    → 2 * far ≤ n + bit last → Begins (p ∷ []) sent
first_on L p q far n last sent at_end h e = absurd (omega (arith, bit_most last))
first_on L p q far (suc n) false sent (answer_first g) h e = first_on L p q far n true sent g h (omega arith)
first_on L p q far (suc n) last (_ ∷ sent) (own_packet g) h e = (sent, refl)
first_on L p q far (suc n) last sent (other_list nearer a b g) h e = first_on L p q nearer n false sent g a (omega (arith, bit_most last))

pub leaves_next : (L : ℕ) (p : List ℕ) (q : List (List ℕ)) (far n : ℕ) (last : Bool) (sent : List (List ℕ)) → Proceeds L (p ∷ q) far last n sent → 1 ≤ far → far ≤ L
    → 2 * L ≤ n → Begins (p ∷ []) sent
leaves_next L p q far n last sent g h k e = first_on L p q far n last sent g h (omega arith)

-- after the first packet come the others, L lists on each
leaves_on : (L : ℕ) (p : List ℕ) (q : List (List ℕ)) (far n : ℕ) (last : Bool) (sent : List (List ℕ)) → Proceeds L (p ∷ q) far last n sent → 1 ≤ far → far ≤ L
    → 2 * (length q * L + far) ≤ n + bit last → Begins (p ∷ q) sent
leaves_on L p q far n last sent at_end h k e = absurd (omega (arith, bit_most last))
leaves_on L p q far (suc n) false sent (answer_first g) h k e = leaves_on L p q far n true sent g h k (omega arith)
leaves_on L p [] far (suc n) last (_ ∷ sent) (own_packet g) h k e = (sent, refl)
leaves_on L p (p' ∷ q) far (suc n) last (_ ∷ sent) (own_packet g) h k e =
    let r : Begins (p' ∷ q) sent = leaves_on L p' q L n false sent g (omega arith) (omega arith) (omega (arith, bit_most last)) in
    (r.0, ap (λ xs. p ∷ xs) r.1)
leaves_on L p q far (suc n) last sent (other_list nearer a b g) h k e = leaves_on L p q nearer n false sent g a (omega arith) (omega (arith, bit_most last))

pub leaves_whole : (L : ℕ) (q : List (List ℕ)) (far n : ℕ) (last : Bool) (sent : List (List ℕ)) → Proceeds L q far last n sent → 1 ≤ far → far ≤ L
    → 2 * (L * length q) ≤ n → Begins q sent
leaves_whole L [] far n last sent g h k e = (sent, refl)
leaves_whole L (p ∷ q) far n last sent g h k e = leaves_on L p q far n last sent g h k (enough (length q) e) where
  enough : (m : ℕ) → 2 * (L * suc m) ≤ n → 2 * (m * L + far) ≤ n + bit last
  enough m x = omega arith
