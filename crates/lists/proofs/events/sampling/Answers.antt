use Rattle.std.proofs.Common.{sym, ◌∙◌, arith}
use Rattle.state.proofs.Allocated.{lists_most}
use Rattle.lists.proofs.Sampled.{other_mode, at_rest, still_unsent_lem, is_sampled_lem}
use Rattle.lists.proofs.events.sampling.Goals as goal

pub mode-requires : goal.mode-requires
mode-requires c = omega (arith, c.requires.0, lists_most c.args.s.now)

pub returns-then-mode-event : goal.returns-then-mode-event
returns-then-mode-event c = sym (other_mode c.args.s.now c.args.l c.args.event c.requires.0 (rw (← c.mode.ensures.0) c.if-mode-event.true))

pub returns-then-not-runs_with : goal.returns-then-not-runs_with
returns-then-not-runs_with c = sym (at_rest c.args.s.now c.args.l c.args.event c.requires.0 (sym c.mode.ensures.0 ∙ c.if-mode-event.false) (sym c.runs_with.ensures ∙ c.if-not-runs_with.true))

pub returns-then-is_unsent : goal.returns-then-is_unsent
returns-then-is_unsent c = sym (still_unsent_lem c.args.s.now c.args.l c.args.event c.requires.0 (sym c.mode.ensures.0 ∙ c.if-mode-event.false) (sym c.runs_with.ensures ∙ c.if-not-runs_with.false) (sym c.is_unsent.ensures ∙ c.if-is_unsent.true))

pub returns : goal.returns
returns c = sym (is_sampled_lem c.args.s.now c.args.l c.args.event c.requires.0 (sym c.mode.ensures.0 ∙ c.if-mode-event.false) (sym c.runs_with.ensures ∙ c.if-not-runs_with.false) (sym c.is_unsent.ensures ∙ c.if-is_unsent.false))
