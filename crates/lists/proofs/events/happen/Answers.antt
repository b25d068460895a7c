use Rattle.std.proofs.Common.{◌≡◌, ◌≤◌, ℕ, ◌+◌, List, sym, refl, ap, ◌∙◌, add-one, arith}
use Rattle.state.specs.Pool.{odts_in, entries_in, first_odt, odt_count, first_entry}
use Rattle.state.specs.Layout.{all_odts, all_entries}
use Rattle.state.proofs.Ranges.{start_zero}
use Rattle.state.proofs.Allocated.{lists_most, first_most_lem, odt_next}
use Rattle.lists.specs.Event.{tally, sampled_by, missed_by}
use Rattle.lists.proofs.Entries.{lists_alike, first_alike, odts_alike, start_alike}
use Rattle.lists.proofs.Tallied.{counts_next, tally_alike}
use Rattle.lists.proofs.events.happen.Goals as goal
use Rattle.lists.proofs.events.happen.Goals.{in-Idle, in-Sampled, in-Missed}

pub loop-l-init : goal.loop-l-init
unfolding tally
loop-l-init c = (record { state = refl; sampled = refl; missed = refl }, omega arith, omega arith, sym (start_zero all_odts (odts_in c.args.s.now)), sym (start_zero all_entries (entries_in c.args.s.now)), omega arith)

pub odts_in-odts-requires : goal.odts_in-odts-requires
odts_in-odts-requires c = ((omega (arith, lists_most c.args.s.now, c.list_count-count.ensures.0, c.loop-l-test.true)), rw (c.loop-l.invariant.0.state, first_alike (tally c.args.s.now c.args.event c.args.clock c.args.cal.now c.args.meas.now c.loop-l.l).state c.args.s.now (tally_alike c.args.s.now c.args.event c.args.clock c.args.cal.now c.args.meas.now c.loop-l.l) c.loop-l.l (omega (arith, lists_most c.args.s.now, c.list_count-count.ensures.0, c.loop-l-test.true))) c.loop-l.invariant.3, rw c.loop-l.invariant.3 (first_most_lem c.args.s.now c.loop-l.l))

pub sampling-c-requires : goal.sampling-c-requires
sampling-c-requires c = (rw (c.loop-l.invariant.0.state, lists_alike _ c.args.s.now (tally_alike c.args.s.now c.args.event c.args.clock c.args.cal.now c.args.meas.now c.loop-l.l)) (omega (arith, c.list_count-count.ensures.0, c.loop-l-test.true)), c.requires, rw (c.loop-l.invariant.0.state, first_alike (tally c.args.s.now c.args.event c.args.clock c.args.cal.now c.args.meas.now c.loop-l.l).state c.args.s.now (tally_alike c.args.s.now c.args.event c.args.clock c.args.cal.now c.args.meas.now c.loop-l.l) c.loop-l.l (omega (arith, lists_most c.args.s.now, c.list_count-count.ensures.0, c.loop-l-test.true))) c.loop-l.invariant.3, c.odts_in-odts.ensures.0, c.odts_in-odts.ensures.1)

pub sample-entry-requires : goal.sample-entry-requires
sample-entry-requires c = (rw (c.loop-l.invariant.0.state, lists_alike _ c.args.s.now (tally_alike c.args.s.now c.args.event c.args.clock c.args.cal.now c.args.meas.now c.loop-l.l)) (omega (arith, c.list_count-count.ensures.0, c.loop-l-test.true)), record { first = rw (c.loop-l.invariant.0.state, first_alike (tally c.args.s.now c.args.event c.args.clock c.args.cal.now c.args.meas.now c.loop-l.l).state c.args.s.now (tally_alike c.args.s.now c.args.event c.args.clock c.args.cal.now c.args.meas.now c.loop-l.l) c.loop-l.l (omega (arith, lists_most c.args.s.now, c.list_count-count.ensures.0, c.loop-l-test.true))) c.loop-l.invariant.3; count = c.odts_in-odts.ensures.0; entered = rw (c.loop-l.invariant.0.state, start_alike (tally c.args.s.now c.args.event c.args.clock c.args.cal.now c.args.meas.now c.loop-l.l).state c.args.s.now (tally_alike c.args.s.now c.args.event c.args.clock c.args.cal.now c.args.meas.now c.loop-l.l) c.loop-l.odt (rw c.loop-l.invariant.3 (first_most_lem c.args.s.now c.loop-l.l))) c.loop-l.invariant.4; inside = c.odts_in-odts.ensures.1; few = c.loop-l.invariant.5 })

pub loop-l-preserved : goal.loop-l-preserved
loop-l-preserved c = let n : c.odts_in-odts.result ≡ odt_count c.args.s.now c.loop-l.l = c.odts_in-odts.ensures.0 ∙ ap (λ (t : List ℕ). odt_count t c.loop-l.l) c.loop-l.invariant.0.state ∙ odts_alike (tally c.args.s.now c.args.event c.args.clock c.args.cal.now c.args.meas.now c.loop-l.l).state c.args.s.now (tally_alike c.args.s.now c.args.event c.args.clock c.args.cal.now c.args.meas.now c.loop-l.l) c.loop-l.l (omega (arith, lists_most c.args.s.now, c.list_count-count.ensures.0, c.loop-l-test.true)) in
    let k : c.loop-l.odt + c.odts_in-odts.result ≡ first_odt c.args.s.now (c.loop-l.l + 1) = rw (add-one c.loop-l.l) (omega (arith, n, c.loop-l.invariant.3, odt_next c.args.s.now c.loop-l.l)) in
    let counted : (c.match-c.sampled ≡ c.loop-l.sampled + sampled_by c.sampling-c.result) × (c.match-c.missed ≡ c.loop-l.missed + missed_by c.sampling-c.result) × (c.match-c.sampled ≤ c.loop-l.l + 1) × (c.match-c.missed ≤ c.loop-l.l + 1) =
    elim c.match-c.branch [
      | in-Idle w ↦ rw w.in-Idle.is (omega (arith, w.sampled-is), omega (arith, w.missed-is), omega (arith, w.sampled-is, c.loop-l.invariant.1), omega (arith, w.missed-is, c.loop-l.invariant.2))
      | in-Sampled w ↦ rw w.in-Sampled.is (omega (arith, w.sampled-is), omega (arith, w.missed-is), omega (arith, w.sampled-is, c.loop-l.invariant.1), omega (arith, w.missed-is, c.loop-l.invariant.2))
      | in-Missed w ↦ rw w.in-Missed.is (omega (arith, w.sampled-is), omega (arith, w.missed-is), omega (arith, w.sampled-is, c.loop-l.invariant.1), omega (arith, w.missed-is, c.loop-l.invariant.2))
    ] in
    (rw (add-one, counted.0, counted.1) (counts_next c.args.s.now c.args.event c.args.clock c.args.cal.now c.args.meas.now c.loop-l.l c.loop-l.invariant.0 c.sampling-c.ensures (rw (c.new-memories.ensures.0, c.new-memories.ensures.1) at c.sample-entry.ensures.0)), counted.2, counted.3, k, c.sample-entry.ensures.1 ∙ ap (λ (t : List ℕ). first_entry t (c.loop-l.odt + c.odts_in-odts.result)) c.loop-l.invariant.0.state ∙ start_alike (tally c.args.s.now c.args.event c.args.clock c.args.cal.now c.args.meas.now c.loop-l.l).state c.args.s.now (tally_alike c.args.s.now c.args.event c.args.clock c.args.cal.now c.args.meas.now c.loop-l.l) (c.loop-l.odt + c.odts_in-odts.result) c.odts_in-odts.ensures.1, c.sample-entry.ensures.2)
