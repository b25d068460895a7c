-- What a sent frame changes of the state. Assumes nothing.
use Rattle.std.proofs.Common.{ℕ, ◌+◌, ◌≤◌, T, List, set, arith, lit<, lit≤}
use Rattle.state.specs.Layout.{size, mark_at, ctr_at, round_at, last_at, place_at, answer_at, answer_bytes_at, session_at, sample_at}
use Rattle.state.specs.Pool.{first_odt}
use Rattle.state.specs.State.{answer_kind}
use Rattle.lists.specs.Slot.{ctr_next, answer_sent, round_after, packet_sent}
use Rattle.fields.proofs.Frames.{Only, only_then, only_set}
use Rattle.fields.proofs.Readers.{Same, clear, before, behind, apart, same_then}

-- ---- an answer: its own bytes, the CTR and the last frame's flag
answer_sent_same : (s : List ℕ) {a b : ℕ} → T (clear answer_at session_at a b) → T (clear ctr_at round_at a b) → T (clear last_at place_at a b) → Same a b s (answer_sent s)
unfolding answer_sent
answer_sent_same s p q r =
    let s₁ : List ℕ = set s answer_bytes_at (answer_kind s) in
    let s₂ : List ℕ = set s₁ answer_at 0 in
    let s₃ : List ℕ = set s₂ ctr_at (ctr_next s) in
    same_then (apart p (only_then (only_set s answer_bytes_at (answer_kind s) (lit≤ tt) (lit< tt)) (only_set s₁ answer_at 0 (lit≤ tt) (lit< tt))))
    (same_then (apart q (only_set s₂ ctr_at (ctr_next s) (lit≤ tt) (lit< tt))) (apart r (only_set s₃ last_at 1 (lit≤ tt) (lit< tt))))

-- the session; the reader and its message; the mark and the generator; with which list the round begins
pub answer_sent_session : (s : List ℕ) → Same session_at size s (answer_sent s)
answer_sent_session s = answer_sent_same s tt tt tt

pub answer_sent_reader : (s : List ℕ) → Same place_at answer_at s (answer_sent s)
answer_sent_reader s = answer_sent_same s tt tt tt

pub answer_sent_front : (s : List ℕ) → Same mark_at ctr_at s (answer_sent s)
answer_sent_front s = answer_sent_same s tt tt tt

pub answer_sent_round : (s : List ℕ) → Same round_at last_at s (answer_sent s)
answer_sent_round s = answer_sent_same s tt tt tt

-- ---- a packet
rounded : (s : List ℕ) (c l : ℕ) → Only ctr_at place_at s (set (set (set s ctr_at c) round_at l) last_at 0)
rounded s c l =
    only_then (only_set s ctr_at c (lit≤ tt) (lit< tt))
    (only_then (only_set (set s ctr_at c) round_at l (lit≤ tt) (lit< tt)) (only_set (set (set s ctr_at c) round_at l) last_at 0 (lit≤ tt) (lit< tt)))

-- what lies outside its store, behind the round
packet_sent_same : (s : List ℕ) (l o : ℕ) {a b : ℕ} → place_at ≤ a → Same a b s (set s (sample_at (first_odt s l + o)) 0) → Same a b s (packet_sent s l o)
unfolding packet_sent
packet_sent_same s l o h w = same_then w (behind h (rounded (set s (sample_at (first_odt s l + o)) 0) (ctr_next s) (round_after l)))

-- the reader, its message, the answer, and the session but for the stores
pub packet_sent_rest : (s : List ℕ) (l o : ℕ) → Same place_at (sample_at 0) s (packet_sent s l o)
packet_sent_rest s l o =
    let at : ℕ = sample_at (first_odt s l + o) in
    packet_sent_same s l o (lit≤ tt) (before {lo = at} {hi = at + 1} (omega arith) (only_set s at 0 (omega arith) (omega arith)))
