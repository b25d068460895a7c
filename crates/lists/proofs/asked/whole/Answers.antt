use Rattle.lists.proofs.Named.{whole_front}
use Rattle.lists.proofs.asked.whole.Goals as goal

pub returns : goal.returns
returns c = whole_front c.args.s.now _ c.if-s-ne-STATE.false c.split_first_chunk.ensures.cases
