-- A record that was found lies within the bytes, and so does where the next begins.
use Rattle.std.proofs.Common.{sym, ◌∙◌, arith}
use Rattle.replay.proofs.Records.{held_found}
use Rattle.replay.proofs.run.run_all.Goals as goal

pub run-requires : goal.run-requires
run-requires c = (held_found c.args.bytes.now c.loop-found.at c.in-Ok.found (sym c.record_at.ensures ∙ c.in-Ok.is)).0

pub next-at-requires : goal.next-at-requires
next-at-requires c =
    let held = held_found c.args.bytes.now c.loop-found.at c.in-Ok.found (sym c.record_at.ensures ∙ c.in-Ok.is) in
    omega (arith, held.2)

pub loop-found-smaller : goal.loop-found-smaller
loop-found-smaller c =
    let held = held_found c.args.bytes.now c.loop-found.at c.in-Ok.found (sym c.record_at.ensures ∙ c.in-Ok.is) in
    omega (arith, held.1, held.2, c.next-at.ensures)

pub loop-found-preserved : goal.loop-found-preserved
loop-found-preserved c =
    let held = held_found c.args.bytes.now c.loop-found.at c.in-Ok.found (sym c.record_at.ensures ∙ c.in-Ok.is) in
    (omega (arith, held.2, c.next-at.ensures), omega (arith, held.1, c.next-at.ensures))
