-- A run of ours in which every premise of an answer's bound is met, and one slot is not enough: the first sends a list's packet. Assumes nothing.
use Rattle.std.proofs.Common.{◌≡◌, ℕ, List, [], ◌∷◌, ◌++◌, length, get_or, replicate, refl, sym, ap, subst, subst₂, arith, lit≤, length-append}
use Rattle.line.specs.Message.{room, frame}
use Rattle.model.specs.View.{view_of}
use Rattle.demands.specs.Slave.{AnySlave, ours}
use Rattle.demands.specs.Runs.{Call, Byte, Event, SendingSlot, Elsewhere, run, frames, sends}
use Rattle.demands.specs.Waiting.{answers_in}
use Rattle.demands.specs.Demand3.{LeavesWithin, AnsweredBy}
use Rattle.shown.specs.Exchange.{slot, begun, last_byte, reached, synch, measuring}
use Rattle.shown.proofs.Computed.{computed}

-- ---- in a run that is one slot, that slot is the one
abbrev lent : List Call → List ℕ
lent [] = []
lent (Byte cal meas b ∷ cs) = []
lent (Event cal meas event clock ∷ cs) = []
lent (SendingSlot out ∷ cs) = out
lent (Elsewhere ∷ cs) = []

none_before_lem : (out out' : List ℕ) (before later : List Call) → SendingSlot out ∷ [] ≡ before ++ SendingSlot out' ∷ later → before ≡ []
none_before_lem out out' [] later e = refl
none_before_lem out out' (c ∷ cs) later e = absurd (omega (arith, ap length e, length-append cs (SendingSlot out' ∷ later)))

that_slot : (out out' : List ℕ) (before later : List Call) → before ≡ [] → SendingSlot out ∷ [] ≡ before ++ SendingSlot out' ∷ later → out' ≡ out
that_slot out out' before later n e = sym (ap lent (subst (λ cs. SendingSlot out ∷ [] ≡ cs ++ SendingSlot out' ∷ later) n e))

in_the_first : (n : ℕ) (v : AnySlave) (s a out : List ℕ) → LeavesWithin n v s a (SendingSlot out ∷ []) → sends v s (SendingSlot out) ≡ frame (view_of s).ctr a ∷ []
in_the_first n v s a out w =
    let e : w.before ≡ [] = none_before_lem out w.out w.before w.later w.split in
    subst₂ (λ cs o. sends v (run v s cs) (SendingSlot o) ≡ frame (view_of (run v s cs)).ctr a ∷ []) e (that_slot out w.out w.before w.later e w.split) w.sent

-- ---- the run: list 0 runs and the last frame was an answer; an event samples the list, and SYNCH comes
abbrev calls : List Call
calls = Event [] (5 ∷ []) 0 0 ∷ begun [] [] synch

abbrev started : List ℕ
started = reached ours (measuring (5 ∷ []) ++ slot ∷ [])

pub one_slot_is_not_enough : AnsweredBy 1 ours → ⊥
unfolding computed
one_slot_is_not_enough d =
    let e : ◌≡◌ {A = ℕ} 0 0xFE = ap (λ fs. get_or (get_or fs 0 []) 3 0) (in_the_first 1 ours (ours.receive (run ours started calls) [] [] (last_byte synch)).state (0xFE ∷ 0 ∷ []) (replicate room 0) ((d started calls [] [] (last_byte synch) (slot ∷ []) 0 synch refl (lit≤ tt) (lit≤ tt) refl refl refl).leaves (lit≤ tt)))
    in omega arith

-- the second sends it
pub two_are : answers_in (frames ours (ours.receive (run ours started calls) [] [] (last_byte synch)).state (slot ∷ slot ∷ [])) ≡ (0xFE ∷ 0 ∷ []) ∷ []
unfolding computed
two_are = refl
