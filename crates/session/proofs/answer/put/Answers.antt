use Rattle.std.proofs.Common.{◌≡◌, ℕ, ◌+◌, ◌-◌, ◌≤◌, List, append_assoc, length, take, drop, set, sym, ap, ap₂, ◌∙◌, arith, length-set, drop-drop}
use Rattle.std.proofs.lemmas.List.Edits.{sets, sets-eq}
use borrow.Rule.Slice.PartMut.{put_mid}
use Rattle.state.specs.Layout.{answer_at, answer_bytes_at}
use Rattle.state.specs.State.{answered}
use Rattle.state.proofs.Sets.{block_length}
use Rattle.session.proofs.answer.put.Goals as goal

-- a part written over is its bytes stored one after the other
put_sets : (t bs : List ℕ) (i k : ℕ) → k ≡ length bs → i + k ≤ length t → put_mid i k t bs ≡ sets t i bs
put_sets t bs i k e h = rw (drop-drop, e) (sym (sets-eq bs t i (omega arith) ∙ append_assoc (take i t) bs (drop (i + length bs) t)))

pub returns : goal.returns
unfolding answered
returns g c =
    let t = set c.args.s.now answer_at g.row.N in
    let k : answer_bytes_at + g.row.N - answer_bytes_at ≡ g.row.N = omega arith in
    let there : answer_bytes_at + g.row.N ≤ length t = simp length-set (omega (arith, c.requires)) in
    let n : length c.args.bytes ≡ g.row.N = sym (ap length c.copy_from_slice.ensures.after) ∙ c.copy_from_slice.ensures.len ∙ ap (λ (j : ℕ). length (take j (drop answer_bytes_at t))) k ∙ block_length t answer_bytes_at g.row.N there in
    ap₂ (λ (j : ℕ) (bs : List ℕ). put_mid answer_bytes_at j t bs) k c.copy_from_slice.ensures.after
    ∙ put_sets t c.args.bytes answer_bytes_at g.row.N (sym n) there
    ∙ ap (λ (j : ℕ). sets (set c.args.s.now answer_at j) answer_bytes_at c.args.bytes) (sym n)
