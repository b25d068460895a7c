use Rattle.std.proofs.Common.{arith}
use Rattle.session.proofs.Reading.{not_zero, known}
use Rattle.session.specs.Quiet.{len_of}
use Rattle.session.proofs.slice.room.Goals as goal

pub overflow_add-more : goal.overflow_add-more
overflow_add-more c = omega (arith, (known c.args.k (len_of c.args.s.now) (omega (arith, c.if-k-eq0.false)) (c.requires.begun (not_zero c.args.tag (omega (arith, c.if-tag-ne1.false))))).few)

pub overflow_sub-more : goal.overflow_sub-more
overflow_sub-more c = omega (arith, (known c.args.k (len_of c.args.s.now) (omega (arith, c.if-k-eq0.false)) (c.requires.begun (not_zero c.args.tag (omega (arith, c.if-tag-ne1.false))))).short)

pub overflow_cast-more : goal.overflow_cast-more
overflow_cast-more c = omega (arith, (known c.args.k (len_of c.args.s.now) (omega (arith, c.if-k-eq0.false)) (c.requires.begun (not_zero c.args.tag (omega (arith, c.if-tag-ne1.false))))).few)

pub returns-then-left-more : goal.returns-then-left-more
returns-then-left-more c = (omega arith, λ _. record { inside = omega (arith, c.if-tag-ne1.false); begun = omega (arith, c.if-k-eq0.false); some = (known c.args.k (len_of c.args.s.now) (omega (arith, c.if-k-eq0.false)) (c.requires.begun (not_zero c.args.tag (omega (arith, c.if-tag-ne1.false))))).some; few = (known c.args.k (len_of c.args.s.now) (omega (arith, c.if-k-eq0.false)) (c.requires.begun (not_zero c.args.tag (omega (arith, c.if-tag-ne1.false))))).few; short = omega (arith, (known c.args.k (len_of c.args.s.now) (omega (arith, c.if-k-eq0.false)) (c.requires.begun (not_zero c.args.tag (omega (arith, c.if-tag-ne1.false))))).short, c.if-left-more.true) })

pub returns : goal.returns
returns c = (omega (arith, c.if-left-more.false), λ _. record { inside = omega (arith, c.if-tag-ne1.false); begun = omega (arith, c.if-k-eq0.false); some = (known c.args.k (len_of c.args.s.now) (omega (arith, c.if-k-eq0.false)) (c.requires.begun (not_zero c.args.tag (omega (arith, c.if-tag-ne1.false))))).some; few = (known c.args.k (len_of c.args.s.now) (omega (arith, c.if-k-eq0.false)) (c.requires.begun (not_zero c.args.tag (omega (arith, c.if-tag-ne1.false))))).few; short = omega (arith, (known c.args.k (len_of c.args.s.now) (omega (arith, c.if-k-eq0.false)) (c.requires.begun (not_zero c.args.tag (omega (arith, c.if-tag-ne1.false))))).short) })
