use Rattle.std.proofs.Common.{arith, ◌≡◌, sym, ap, ◌∙◌, List, ℕ, get_or, set}
use Rattle.state.specs.Layout.{place_at, count_at, message_at}
use Rattle.session.proofs.Reading.{quiet_so, placed_there, sync_again, len_comes, set_there, tag_stays}
use Rattle.session.proofs.quiet.first.Goals as goal

pub returns-then-byte-eq-SYNC : goal.returns-then-byte-eq-SYNC
returns-then-byte-eq-SYNC c = let e : get_or c.args.s.now place_at 0 ≡ 1 = omega (arith, c.requires.0, c.requires.1, c.requires.2, c.if-tag-eq2.false) in quiet_so c.args.s.now c.args.s.now 1 0 c.args.byte e c.requires.3 (sync_again c.args.s.now c.args.byte c.told-s c.if-byte-eq-SYNC.true) (sym (placed_there c.args.s.now c.args.s.now 1 0 c.args.byte e c.requires.3))

pub returns : goal.returns
returns c = let e : get_or c.args.s.now place_at 0 ≡ 1 = omega (arith, c.requires.0, c.requires.1, c.requires.2, c.if-tag-eq2.false) in quiet_so c.args.s.now _ 1 0 c.args.byte e c.requires.3 (len_comes c.args.s.now c.args.byte c.told-s (omega (arith, c.if-byte-eq0.false)) c.if-byte-gt-PACKET_MOST.false) (ap (λ (x : List ℕ). set x count_at 1) (sym (set_there (set c.args.s.now message_at c.args.byte) place_at 1 (tag_stays c.args.s.now 0 c.args.byte ∙ e))))
