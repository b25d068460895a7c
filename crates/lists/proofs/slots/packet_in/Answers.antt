use Rattle.std.proofs.Common.{◌≡◌, sym, ap, ◌∙◌}
use Rattle.state.specs.Pool.{odt_count}
use Rattle.model.specs.Calls.{first_packet, packet_in}
use Rattle.model.specs.View.{session_of}
use Rattle.model.proofs.Shown.{open_at_lem, started_at, odts_at_lem}
use Rattle.lists.specs.Slot.{numbered_in}
use Rattle.lists.proofs.Round.{never_started, was_started}
use Rattle.lists.proofs.slots.packet_in.Goals as goal

pub returns-then-on : goal.returns-then-on
returns-then-on c = let e : packet_in (session_of c.args.s.now) c.args.l ≡ first_packet c.args.l ((session_of c.args.s.now).list c.args.l) 0 (odt_count c.args.s.now c.args.l) = was_started (session_of c.args.s.now) c.args.l (open_at_lem c.args.s.now ∙ c.requires.0) (started_at c.args.s.now c.args.l c.requires.1 ∙ simp (← c.running_at.ensures) (sym c.on.ensures ∙ c.if-on.true)) ∙ ap (first_packet c.args.l ((session_of c.args.s.now).list c.args.l) 0) (odts_at_lem c.args.s.now c.args.l c.requires.1) in c.first_stored.ensures ∙ ap (numbered_in c.args.s.now) (sym e)

pub returns : goal.returns
returns c = ap (numbered_in c.args.s.now) (sym (never_started (session_of c.args.s.now) c.args.l (started_at c.args.s.now c.args.l c.requires.1 ∙ simp (← c.running_at.ensures) (sym c.on.ensures ∙ c.if-on.false))))
