use Rattle.std.proofs.Common.{refl, sym, ◌∙◌, lt-ltb, le-ltb, length}
use Rattle.model.specs.Answers.{reply_in, writes}
use Rattle.model.specs.View.{session_of}
use Rattle.session.specs.Perform.{effect}
use Rattle.session.proofs.Heeding.{heeded_is}
use Rattle.look.proofs.Looked.{judged_there, looked_doable}
use Rattle.session.proofs.receive.heed.Goals as goal

pub returns-then-answer_length-gt0 : goal.returns-then-answer_length-gt0
returns-then-answer_length-gt0 c = rw (heeded_is _ _ _ _) (simp (← c.answer_length.ensures.0, lt-ltb _ _ c.if-answer_length-gt0.true) (record { result = refl; state = refl; memory = refl }))

pub perform-requires : goal.perform-requires
perform-requires c = (c.requires.1, rw c.judge-deed.ensures (looked_doable c.args.s.now c.args.n (length c.args.cal.now) (length c.args.meas.now)))

pub returns-then-flag : goal.returns-then-flag
returns-then-flag c = rw (heeded_is _ _ _ _) (simp (← c.answer_length.ensures.0, le-ltb _ _ c.if-answer_length-gt0.false, sym c.flag.ensures ∙ c.if-flag.true, ← (c.judge-deed.ensures ∙ judged_there c.args.s.now c.args.n (length c.args.cal.now) (length c.args.meas.now) c.told-s c.requires.0 c.requires.1)) (record { result = refl; state = c.perform.ensures.state; memory = c.perform.ensures.memory }))

pub returns-then-good_connect : goal.returns-then-good_connect
unfolding effect reply_in session_of writes
returns-then-good_connect c = rw (heeded_is _ _ _ _) (simp (← c.answer_length.ensures.0, le-ltb _ _ c.if-answer_length-gt0.false, sym c.flag.ensures ∙ c.if-flag.false, sym c.good_connect.ensures ∙ c.if-good_connect.true) (record { result = refl; state = c.connect.ensures; memory = refl }))

pub returns : goal.returns
returns c = rw (heeded_is _ _ _ _) (simp (← c.answer_length.ensures.0, le-ltb _ _ c.if-answer_length-gt0.false, sym c.flag.ensures ∙ c.if-flag.false, sym c.good_connect.ensures ∙ c.if-good_connect.false) (record { result = refl; state = refl; memory = refl }))
