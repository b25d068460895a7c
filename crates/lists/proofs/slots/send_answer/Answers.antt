use Rattle.std.proofs.Common.{◌≡◌, ℕ, ◌+◌, ◌-◌, List, get_or, take, drop, set, ap, ◌∙◌, arith}
use Rattle.line.specs.Writer.{write_of}
use Rattle.state.specs.Layout.{ctr_at, answer_bytes_at}
use Rattle.state.specs.State.{answer_of}
use Rattle.lists.specs.Slot.{slotted_as, sent_by, answer_sent}
use Rattle.lists.proofs.slots.send_answer.Goals as goal

pub returns : goal.returns
unfolding sent_by answer_sent answer_of
returns c = let e : take ((answer_bytes_at + c.answer_length-n.result) - answer_bytes_at) (drop answer_bytes_at (set c.args.s.now answer_bytes_at c.answer_kind.result)) ≡ answer_of c.args.s.now = let n : (answer_bytes_at + c.answer_length-n.result) - answer_bytes_at ≡ c.answer_length-n.result = omega arith in rw (n, c.answer_kind.ensures, c.answer_length-n.ensures.0) in
    record {
      result = c.slotted.ensures ∙ ap slotted_as c.write-written.ensures.result ∙ ap (λ (p : List ℕ). slotted_as (write_of p (get_or c.args.s.now ctr_at 0) c.args.out.now).written) e;
      state = rw (c.answer_kind.ensures, c.next_ctr.ensures);
      bytes = c.write-written.ensures.bytes ∙ ap (λ (p : List ℕ). (write_of p (get_or c.args.s.now ctr_at 0) c.args.out.now).out) e;
    }
