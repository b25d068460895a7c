use Rattle.std.proofs.Common.{◌≡◌, ℕ, suc, ◌+◌, ◌-◌, List, ◌∷◌, get_or, take, drop, set, sym, ap, ◌∙◌, arith, set-set}
use Rattle.model.specs.View.{odt_of}
use Rattle.line.specs.Writer.{write_of}
use Rattle.state.specs.Layout.{ctr_at, round_at, last_at}
use Rattle.state.specs.Pool.{first_odt}
use Rattle.state.proofs.Allocated.{lists_most, odt_most_lem}
use Rattle.lists.specs.Slot.{slotted_as, sent_by, packet_sent, packet_of, round_after}
use Rattle.model.proofs.Shown.{packet_by_lem}
use Rattle.lists.proofs.Sending.{numbered}
use Rattle.lists.proofs.slots.send_packet.Goals as goal

pub stored_length-n-requires : goal.stored_length-n-requires
stored_length-n-requires c = omega (arith, odt_most_lem c.args.s.now c.args.l, c.requires.2)

pub bounds-s-at : goal.bounds-s-at
bounds-s-at c = omega (arith, c.sample_at-at.ensures, odt_most_lem c.args.s.now c.args.l, c.requires.2)

pub slice_bounds-write-end : goal.slice_bounds-write-end
slice_bounds-write-end c = omega (arith, c.sample_at-at.ensures, c.stored_length-n.ensures.1, c.told-s, odt_most_lem c.args.s.now c.args.l, c.requires.2)

pub overflow_add-s : goal.overflow_add-s
overflow_add-s c = omega (arith, c.requires.0, lists_most c.args.s.now)

pub returns : goal.returns
unfolding sent_by packet_sent
returns c = let at = c.sample_at-at.result in
    let o : ℕ = c.args.k - first_odt c.args.s.now c.args.l in
    let k : first_odt c.args.s.now c.args.l + o ≡ c.args.k = omega (arith, c.requires.1) in
    let n : (at + 1 + c.stored_length-n.result) - at ≡ suc c.stored_length-n.result = omega arith in
    let e : take ((at + 1 + c.stored_length-n.result) - at) (drop at (set c.args.s.now at c.args.k)) ≡ packet_of c.args.s.now c.args.l o = rw n (numbered c.args.s.now at c.args.k c.stored_length-n.result (omega (arith, c.sample_at-at.ensures, c.told-s, odt_most_lem c.args.s.now c.args.l, c.requires.2)) ∙ rw (c.sample_at-at.ensures, c.stored_length-n.ensures.0) (sym (packet_by_lem c.args.s.now c.args.l o c.requires.0 (omega (arith, c.requires.1, c.requires.2)) ∙ ap (λ (i : ℕ). i ∷ (odt_of c.args.s.now i).store) k))) in
    record {
      result = c.slotted.ensures ∙ ap slotted_as c.write-written.ensures.result ∙ ap (λ (p : List ℕ). slotted_as (write_of p (get_or c.args.s.now ctr_at 0) c.args.out.now).written) e;
      state = ap (λ (t : List ℕ). set (set (set t ctr_at c.next_ctr.result) round_at (round_after c.args.l)) last_at 0) (set-set c.args.s.now at c.args.k 0) ∙ rw (c.next_ctr.ensures, c.sample_at-at.ensures, k);
      bytes = c.write-written.ensures.bytes ∙ ap (λ (p : List ℕ). (write_of p (get_or c.args.s.now ctr_at 0) c.args.out.now).out) e;
    }
