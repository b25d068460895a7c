use Rattle.std.proofs.Common.{◌≡◌, Option, Some, None, Ok, refl, sym, ap, ◌∙◌, arith}
use Rattle.line.specs.declared.Message.{Message}
use Rattle.line.specs.declared.Taken.{Taken}
use Rattle.line.specs.Values.{Outcome}
use Rattle.line.proofs.Sound.{good_where}
use Rattle.state.specs.Layout.{packet_at}
use Rattle.state.specs.Bytes.{block}
use Rattle.session.specs.Receive.{meant, fed_of}
use Rattle.session.proofs.Feeding.{told, good, packet_there, message_length, by_outcome, by_fault}
use Rattle.session.proofs.receive.read.Goals as goal

known : (o : Outcome) (f g : Option Message) → o ≡ Ok f → f ≡ g → o ≡ Ok g
known o f g e d = e ∙ ap (λ (x : Option Message). let r : Outcome = Ok x in r) d

pub overflow_cast-message : goal.overflow_cast-message
overflow_cast-message c =
    let e : c.take-taken.result.outcome ≡ Ok (Some c.in-Ok-Some.message) = known _ c.in-Ok-Some.field-0 (Some c.in-Ok-Some.message) c.in-Ok-Some.is (rw c.in-Ok-Some.is at c.in-Ok-Some.field-0-is) in
    omega (arith, good_where _ _ _ _ _ _ (ap (λ (t : Taken). t.outcome) (sym c.take-taken.ensures.result) ∙ e))

pub heed-requires : goal.heed-requires
heed-requires c =
    let e : c.take-taken.result.outcome ≡ Ok (Some c.in-Ok-Some.message) = known _ c.in-Ok-Some.field-0 (Some c.in-Ok-Some.message) c.in-Ok-Some.is (rw c.in-Ok-Some.is at c.in-Ok-Some.field-0-is) in
    let g = good_where _ _ _ _ _ _ (ap (λ (t : Taken). t.outcome) (sym c.take-taken.ensures.result) ∙ e) in
    (g.1, g.2)

pub returns-in-Ok-None : goal.returns-in-Ok-None
unfolding meant
returns-in-Ok-None c =
    let w = told c.args.s.now c.args.byte c.place-at.result c.take-taken.result c.take-taken.new.message c.set_place.new.s c.place-at.ensures c.take-taken.ensures c.set_place.ensures in
    let e : c.take-taken.result.outcome ≡ Ok None = known _ c.in-Ok-None.field-0 None c.in-Ok-None.is (rw c.in-Ok-None.is at c.in-Ok-None.field-0-is) in
    by_outcome c.args.s.now c.args.cal.now c.args.meas.now (fed_of c.args.s.now c.args.byte) (w.outcome ∙ e) (record { result = refl; state = w.state; memory = refl })

pub returns-in-Ok-Some : goal.returns-in-Ok-Some
unfolding meant
returns-in-Ok-Some c =
    let m = c.in-Ok-Some.message in
    let w = told c.args.s.now c.args.byte c.place-at.result c.take-taken.result c.take-taken.new.message c.set_place.new.s c.place-at.ensures c.take-taken.ensures c.set_place.ensures in
    let e : c.take-taken.result.outcome ≡ Ok (Some m) = known _ c.in-Ok-Some.field-0 (Some m) c.in-Ok-Some.is (rw c.in-Ok-Some.is at c.in-Ok-Some.field-0-is) in
    let g = good c.args.s.now c.args.byte c.take-taken.result c.take-taken.new.message c.set_place.new.s m.ctr m.at m.len w e in
    let p : block (fed_of c.args.s.now c.args.byte).message m.at m.len ≡ block c.set_place.new.s packet_at m.len = rw (w.message, g.0) (packet_there c.args.s.now c.take-taken.new.message c.take-taken.result.place m.len c.told-s (message_length c.args.s.now c.args.byte c.place-at.result c.take-taken.result c.take-taken.new.message c.told-s c.take-taken.ensures) g.2 ∙ rw c.set_place.ensures) in
    by_outcome c.args.s.now c.args.cal.now c.args.meas.now (fed_of c.args.s.now c.args.byte) (w.outcome ∙ e) (rw (p, ← w.state) c.heed.ensures)

pub returns-in-Err : goal.returns-in-Err
returns-in-Err c =
    let w = told c.args.s.now c.args.byte c.place-at.result c.take-taken.result c.take-taken.new.message c.set_place.new.s c.place-at.ensures c.take-taken.ensures c.set_place.ensures in
    by_fault c.args.s.now c.args.cal.now c.args.meas.now (fed_of c.args.s.now c.args.byte) c.in-Err.fault _ _ (w.outcome ∙ c.in-Err.is) c.dropped.ensures w.state
