use Rattle.std.proofs.Common.{◌∙◌, sym, ap, arith, length}
use Rattle.std.proofs.lemmas.List.Edits.{sets}
use Rattle.state.proofs.Inside.{inside_le}
use Rattle.session.proofs.Data.{block_block}
use Rattle.state.specs.Bytes.{copied}
use Rattle.state.specs.Layout.{packet_at}
use Rattle.model.specs.Answers.{reply_in, writes}
use Rattle.model.specs.View.{session_of}
use Rattle.session.specs.Perform.{effect}
use Rattle.session.proofs.deeds.download.Goals as goal

pub copy-requires : goal.copy-requires
copy-requires c = ((inside_le c.args.address c.args.n (length c.args.cal.now) c.requires.2.1).0, omega (arith, c.told-s, c.requires.0, c.requires.1))

pub overflow_add-address : goal.overflow_add-address
overflow_add-address c = omega (arith, (inside_le c.args.address c.args.n (length c.args.cal.now) c.requires.2.1).1)

pub returns : goal.returns
unfolding effect reply_in session_of writes copied
returns c = (c.put.ensures ∙ rw c.set_mta.ensures, c.copy.ensures ∙ ap (sets c.args.cal.now c.args.address) (sym (block_block c.args.s.now packet_at c.args.len c.args.from c.args.n (omega (arith, c.requires.1)))))
