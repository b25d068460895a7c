-- Laws of the writer: a good packet's frame stands at the front of the lent bytes, and the others stay. Assumes nothing.
use Rattle.std.proofs.Common.{◌≡◌, ℕ, ◌≤◌, eqb, ltb, List, length, take, drop, refl, ap, arith, le-ltb, ne_eqb, Ok}
use Rattle.line.specs.Form.{Form}
use Rattle.line.specs.Message.{room_in, Serial, frame_in}
use Rattle.line.specs.Writer.{Sent, at_front, write_in}
use Rattle.line.proofs.Laws.{cond_ind, length_front}
use Rattle.line.proofs.Fronts.{take_front, drop_front}
use Rattle.line.proofs.Stuffed.{frame_short_in}

-- the lent bytes keep their length, whatever the packet
pub write_length : (f : Form) (p : List ℕ) (ctr : ℕ) (out : List ℕ) → length (write_in f p ctr out).out ≡ length out
unfolding write_in
write_length f p ctr out =
    cond_ind kept (eqb (length p) 0) (λ _. refl)
    (λ _. cond_ind kept (ltb f.most (length p)) (λ _. refl)
    (λ _. cond_ind kept (ltb (length out) (room_in f)) (λ _. refl) (λ _. length_front (frame_in f ctr p) out)))
  where
    kept : Sent → Type 0
    kept s = length s.out ≡ length out

-- a packet of a right length, and room for the longest frame
module _ (f : Form) (s : Serial f) (p : List ℕ) (ctr : ℕ) (out : List ℕ) (some : 1 ≤ length p) (few : length p ≤ f.most) (fits : room_in f ≤ length out) where
  pub write_good : write_in f p ctr out ≡ record { written = Ok (length (frame_in f ctr p)); out = at_front (frame_in f ctr p) out }
  unfolding write_in
  write_good =
      let nz : length p ≡ 0 → ⊥ = λ (z : length p ≡ 0). omega arith in
      simp (ne_eqb _ _ nz, le-ltb _ _ few, le-ltb _ _ fits)

  pub write_answer : (write_in f p ctr out).written ≡ Ok (length (frame_in f ctr p))
  write_answer = ap (λ (s : Sent). s.written) write_good

  -- a frame has a byte, and fits where the longest does
  pub write_size : (1 ≤ length (frame_in f ctr p)) × (length (frame_in f ctr p) ≤ room_in f)
  write_size = (omega arith, frame_short_in f s ctr p few)

  pub write_front : take (length (frame_in f ctr p)) (write_in f p ctr out).out ≡ frame_in f ctr p
  write_front = rw write_good (take_front (frame_in f ctr p) out (omega (arith, write_size)))

  pub write_rest : drop (length (frame_in f ctr p)) (write_in f p ctr out).out ≡ drop (length (frame_in f ctr p)) out
  write_rest = rw write_good (drop_front (frame_in f ctr p) out (omega (arith, write_size)))
