use Rattle.std.proofs.Common.{inl, inr, refl}
use Rattle.lists.specs.Event.{sampled_state}
use Rattle.lists.proofs.events.sample.Goals as goal

pub returns-in-Sampled : goal.returns-in-Sampled
unfolding sampled_state
returns-in-Sampled c = rw c.in-Sampled.is c.capture.ensures

pub returns-in-Idle : goal.returns-in-Idle
unfolding sampled_state
returns-in-Idle c = elim c.in-Idle.is [ inl e ↦ rw e (refl, c.entry_after.ensures.0, c.entry_after.ensures.1) | inr e ↦ rw e (refl, c.entry_after.ensures.0, c.entry_after.ensures.1) ]
