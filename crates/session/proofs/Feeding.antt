-- What the line leaves in the state: the reader's place, its message buffer, and the packet in it. Assumes nothing.
use Rattle.std.proofs.Common.{Err, ◌≡◌, refl, sym, ap, subst, ◌∙◌, List, ◌++◌, append-nil, ℕ, ◌-◌, ◌≤◌, arith, length, set, take, drop, length-drop, take_all, drop-drop, length-take-le, drop-set-lt}
use Rattle.std.proofs.Math.Seq.{drop-length, drop-append-add}
use Rattle.std.proofs.lemmas.List.{drop-append-le, take-append-le}
use Rattle.line.specs.Message.{longest}
use Rattle.line.specs.Unstuffing.{Fed, Does}
use Rattle.line.specs.Reader.{take_of}
use Rattle.line.specs.declared.Place.{Place}
use Rattle.line.specs.declared.Place.TheVariants.{Outside, Inside, Escaped}
use Rattle.line.specs.Values.{Outcome, good_message}
use Rattle.line.specs.declared.Fault.{Fault}
use Rattle.line.specs.declared.Fault.TheVariants.{BadLength, BadEscape, BadChecksum, CutOff, ShortBuffer}
use Rattle.line.specs.declared.Taken.{Taken}
use Rattle.line.proofs.After.{take_length}
use Rattle.line.proofs.Sound.{good_where}
use Rattle.state.specs.Layout.{place_at, count_at, message_at, packet_at, packet_most, size}
use Rattle.state.specs.Bytes.{block}
use Rattle.state.specs.State.{place_of, set_place, message_of, set_message}
use Rattle.session.specs.Receive.{Receives, only, dropped_as, meant, read_on, fed_of, received_by}
use Rattle.words.specs.Values.{Received}
use Rattle.state.proofs.Sets.{block_length}

-- the state s with the message buffer m, as a part that was lent comes back
abbrev pub returned : List ℕ → List ℕ → List ℕ
returned s m = take message_at s ++ (m ++ drop longest (drop message_at s))

-- the line, lent the place and the message buffer of s, answers `taken` and leaves m; t is the state with both stored
pub record Told (s : List ℕ) (b : ℕ) (taken : Taken) (m t : List ℕ) : Type 0 where
  pub outcome : (fed_of s b).taken.outcome ≡ taken.outcome
  pub message : (fed_of s b).message ≡ m
  pub state : t ≡ read_on s (fed_of s b)

fed : (s : List ℕ) (b : ℕ) (p : Place) → p ≡ place_of s → take_of p (block s message_at longest) b ≡ fed_of s b
unfolding message_of
fed s b p e = rw e

pub told : (s : List ℕ) (b : ℕ) (p : Place) (taken : Taken) (m t : List ℕ) → p ≡ place_of s → Does (take_of p (block s message_at longest) b) taken m → t ≡ set_place (returned s m) taken.place → Told s b taken m t
unfolding read_on set_message
told s b p taken m t e d st =
    let f = fed s b p e in
    let d' : Does (fed_of s b) taken m = rw f at d in
    record {
      outcome = ap (λ (x : Taken). x.outcome) (sym d'.result);
      message = sym d'.bytes;
      state = st ∙ rw (← d'.bytes, ← d'.result, drop-drop longest message_at s);
    }

-- a good message's packet
pub good : (s : List ℕ) (b : ℕ) (taken : Taken) (m t : List ℕ) (c at n : ℕ) → Told s b taken m t → taken.outcome ≡ good_message c at n → (at ≡ 2) × (1 ≤ n) × (n ≤ packet_most)
good s b taken m t c at n w e =
    let g = good_where (place_of s) (message_of s) b c at n (w.outcome ∙ e) in
    (g.0, g.1, g.2)

place_past : (s : List ℕ) (p : Place) → drop packet_at (set_place s p) ≡ drop packet_at s
unfolding set_place
place_past s Outside = drop-set-lt packet_at s place_at 0 (omega arith)
place_past s (Inside k) = drop-set-lt packet_at (set s place_at 1) count_at _ (omega arith) ∙ drop-set-lt packet_at s place_at 1 (omega arith)
place_past s (Escaped k) = drop-set-lt packet_at (set s place_at 2) count_at _ (omega arith) ∙ drop-set-lt packet_at s place_at 2 (omega arith)

message_past : (s m : List ℕ) → message_at ≤ length s → 2 ≤ length m → drop packet_at (returned s m) ≡ drop 2 m ++ drop longest (drop message_at s)
message_past s m h k =
    let front : length (take message_at s) ≡ message_at = length-take-le message_at s h in
    (rw front at (drop-append-add (take message_at s) (m ++ drop longest (drop message_at s)) 2)) ∙ drop-append-le 2 m (drop longest (drop message_at s)) k

-- it lies in the state where the buffer lies
pub packet_there : (s m : List ℕ) (p : Place) (n : ℕ) → length s ≡ size → length m ≡ longest → n ≤ packet_most → block m 2 n ≡ block (set_place (returned s m) p) packet_at n
packet_there s m p n h k few =
    let fits : n ≤ length (drop 2 m) = rw length-drop (omega arith) in
    sym (rw (place_past (returned s m) p, message_past s m (omega arith) (omega arith)) (take-append-le n (drop 2 m) (drop longest (drop message_at s)) fits))

pub message_length : (s : List ℕ) (b : ℕ) (p : Place) (taken : Taken) (m : List ℕ) → length s ≡ size → Does (take_of p (block s message_at longest) b) taken m → length m ≡ longest
message_length s b p taken m h d = ap length d.bytes ∙ take_length p (block s message_at longest) b ∙ block_length s message_at longest (omega arith)

-- an outcome that is known
pub by_outcome : (s cal meas : List ℕ) (f : Fed) {o : Outcome} {r : Received} {s' cal' : List ℕ} → f.taken.outcome ≡ o
    → Receives (meant o f.message (read_on s f) cal meas) r s' cal' → Receives (received_by f s cal meas) r s' cal'
by_outcome s cal meas f {r = r} {s' = s'} {cal' = cal'} e x = subst (λ (o : Outcome). Receives (meant o f.message (read_on s f) cal meas) r s' cal') (sym e) x

-- a message that the line dropped
fault_means : (f : Fault) (m s cal meas : List ℕ) → meant (Err f) m s cal meas ≡ only (dropped_as f) s cal
unfolding meant
fault_means BadLength m s cal meas = refl
fault_means BadEscape m s cal meas = refl
fault_means BadChecksum m s cal meas = refl
fault_means CutOff m s cal meas = refl
fault_means ShortBuffer m s cal meas = refl

pub by_fault : (s cal meas : List ℕ) (f : Fed) (fault : Fault) (r : Received) (t : List ℕ) → f.taken.outcome ≡ Err fault → r ≡ dropped_as fault → t ≡ read_on s f
    → Receives (received_by f s cal meas) r t cal
by_fault s cal meas f fault r t e told st =
    by_outcome s cal meas f e (rw (fault_means fault f.message (read_on s f) cal meas) (record { result = told; state = st; memory = refl }))

-- a whole slice that was lent, and what comes back
pub whole : (s : List ℕ) → take (length s - 0) (drop 0 s) ≡ s
whole s = take_all (length s - 0) s (omega arith)

pub whole_back : (s m : List ℕ) → take 0 s ++ (m ++ drop (length s - 0) (drop 0 s)) ≡ m
whole_back s m = let n : length s - 0 ≡ length s = omega arith in rw (n, drop-length s) (append-nil m)

pub by_whole : (s cal meas : List ℕ) {s₁ cal₁ meas₁ : List ℕ} (b : ℕ) {r : Received} {s₂ cal₂ s₃ cal₃ : List ℕ} → s₁ ≡ s → cal₁ ≡ cal → meas₁ ≡ meas
    → Receives (received_by (fed_of s₁ b) s₁ cal₁ meas₁) r s₂ cal₂ → s₃ ≡ s₂ → cal₃ ≡ cal₂ → Receives (received_by (fed_of s b) s cal meas) r s₃ cal₃
by_whole s cal meas b a c m x e f = record { result = rw (← a, ← c, ← m) x.result; state = e ∙ rw (← a, ← c, ← m) x.state; memory = f ∙ rw (← a, ← c, ← m) x.memory }
