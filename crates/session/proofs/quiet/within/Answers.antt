use Rattle.std.proofs.Common.{arith, ◌≡◌, refl, sym, ap, ◌∙◌, List, ℕ, ◌+◌, get_or, set, get_or-set_other}
use Rattle.state.specs.Layout.{place_at, count_at, message_at}
use Rattle.line.specs.Stuffing.{SYNC, ESC}
use Rattle.session.specs.Quiet.{len_of}
use Rattle.session.proofs.Reading.{quiet_so, escaped_goes, escape_comes, plain_goes, went_on, set_there, tag_stays}
use Rattle.session.proofs.quiet.within.Goals as goal

pub returns-then-tag-eq2 : goal.returns-then-tag-eq2
returns-then-tag-eq2 c = quiet_so c.args.s.now _ 2 c.args.k c.args.byte (c.requires.0 ∙ c.if-tag-eq2.true) c.requires.3 (escaped_goes c.args.s.now c.args.k c.args.byte c.told-s c.requires.4 c.requires.5 c.if-byte-gt1.false) refl

pub returns-then-byte : goal.returns-then-byte
returns-then-byte c = let e : get_or c.args.s.now place_at 0 ≡ 1 = omega (arith, c.requires.0, c.requires.1, c.requires.2, c.if-tag-eq2.false) in quiet_so c.args.s.now _ 1 c.args.k c.args.byte e c.requires.3 (escape_comes c.args.s.now c.args.k c.args.byte c.told-s (went_on c.args.k (len_of c.args.s.now) c.requires.4 c.requires.5) (omega (arith, c.if-byte.true, c.if-byte-eq-SYNC.false))) (sym (set_there (set c.args.s.now place_at 2) count_at c.args.k (get_or-set_other c.args.s.now place_at count_at 2 0 (λ (z : count_at ≡ place_at). omega arith) ∙ c.requires.3)))

pub returns : goal.returns
returns c = let e : get_or c.args.s.now place_at 0 ≡ 1 = omega (arith, c.requires.0, c.requires.1, c.requires.2, c.if-tag-eq2.false) in quiet_so c.args.s.now _ 1 c.args.k c.args.byte e c.requires.3 (plain_goes c.args.s.now c.args.k c.args.byte c.told-s c.requires.4 c.requires.5 (λ (z : c.args.byte ≡ SYNC). omega (arith, c.if-byte.false)) (λ (z : c.args.byte ≡ ESC). omega (arith, c.if-byte.false))) (ap (λ (x : List ℕ). set x count_at (c.args.k + 1)) (sym (set_there (set c.args.s.now (message_at + c.args.k) c.args.byte) place_at 1 (tag_stays c.args.s.now c.args.k c.args.byte ∙ e))))
