use Rattle.std.proofs.Common.{arith, ◌≡◌, refl, ◌≢◌}
use Rattle.session.proofs.Reading.{goes, leaves, outside_sync, outside_other, sync_again, cut_escaped, cut_inside, escape_comes}
use Rattle.session.proofs.slice.step.Goals as goal

pub returns-then-tag-eq0 : goal.returns-then-tag-eq0
returns-then-tag-eq0 c = rw c.if-tag-eq0.true (goes c.args.s.now c.args.s.now 0 c.args.k c.args.byte 1 0 (omega arith) (λ _. refl) (outside_sync c.args.s.now c.args.k c.args.byte c.told-s c.if-byte-eq-SYNC.true))

pub returns-then-tag-eq2 : goal.returns-then-tag-eq2
returns-then-tag-eq2 c = leaves c.args.s.now c.args.tag c.args.k c.args.byte (rw c.if-tag-eq2.true (cut_escaped c.args.s.now c.args.k c.args.byte c.told-s (c.requires.begun c.if-tag-eq0.false) c.if-byte-eq-SYNC.true))

pub returns-then-k-eq0 : goal.returns-then-k-eq0
returns-then-k-eq0 c = let e : c.args.tag ≡ 1 = omega (arith, c.if-tag-eq0.false, c.if-tag-eq2.false, c.requires.few) in rw (e, c.if-k-eq0.true) (goes c.args.s.now c.args.s.now 1 0 c.args.byte 1 0 (omega arith) (λ _. refl) (sync_again c.args.s.now c.args.byte c.told-s c.if-byte-eq-SYNC.true))

pub returns-then-byte-eq-SYNC : goal.returns-then-byte-eq-SYNC
returns-then-byte-eq-SYNC c = let e : c.args.tag ≡ 1 = omega (arith, c.if-tag-eq0.false, c.if-tag-eq2.false, c.requires.few) in leaves c.args.s.now c.args.tag c.args.k c.args.byte (rw e (cut_inside c.args.s.now c.args.k c.args.byte c.told-s (c.requires.begun c.if-tag-eq0.false) c.if-byte-eq-SYNC.true (omega (arith, c.if-k-eq0.false))))

pub returns-then-tag-eq0-2 : goal.returns-then-tag-eq0-2
returns-then-tag-eq0-2 c = rw c.if-tag-eq0-2.true (goes c.args.s.now c.args.s.now 0 c.args.k c.args.byte 0 c.args.k (omega arith) (λ (z : 0 ≢ 0). absurd (z refl)) (outside_other c.args.s.now c.args.k c.args.byte c.told-s c.if-byte-eq-SYNC.false))

pub returns-then-tag-eq2-2 : goal.returns-then-tag-eq2-2
returns-then-tag-eq2-2 c = rw c.if-tag-eq2-2.true c.escaped.ensures

pub returns-then-byte-eq-ESC : goal.returns-then-byte-eq-ESC
returns-then-byte-eq-ESC c = let e : c.args.tag ≡ 1 = omega (arith, c.if-tag-eq0-2.false, c.if-tag-eq2-2.false, c.requires.few) in rw e (goes c.args.s.now c.args.s.now 1 c.args.k c.args.byte 2 c.args.k (omega arith) (λ _. c.requires.begun c.if-tag-eq0-2.false) (escape_comes c.args.s.now c.args.k c.args.byte c.told-s (c.requires.begun c.if-tag-eq0-2.false) c.if-byte-eq-ESC.true))

pub returns-then-k-eq0-2 : goal.returns-then-k-eq0-2
returns-then-k-eq0-2 c = let e : c.args.tag ≡ 1 = omega (arith, c.if-tag-eq0-2.false, c.if-tag-eq2-2.false, c.requires.few) in rw (e, c.if-k-eq0-2.true) c.first.ensures

pub returns : goal.returns
returns c = let e : c.args.tag ≡ 1 = omega (arith, c.if-tag-eq0-2.false, c.if-tag-eq2-2.false, c.requires.few) in rw e c.inside.ensures
