use Rattle.std.proofs.Common.{rules, ℕ, ◌+◌, ◌<◌, refl, sym, ap, subst, ◌∙◌, List, arith, get_or}
use Rattle.state.specs.Layout.{place_at, count_at}
use Rattle.session.specs.Quiet.{placed, Stands, Fits, Leads}
use Rattle.session.proofs.Slicing.{pass_none, passed, passed_all, leads_one, leads_on, leads_to, leads_start, stands_so, run_leads}
use Rattle.session.proofs.slice.pass.Goals as goal

pub returns-then-n-eq0 : goal.returns-then-n-eq0
returns-then-n-eq0 c = pass_none c.args.bytes.now c.args.s.now c.if-n-eq0.true

pub loop-i-init : goal.loop-i-init
loop-i-init c = (omega arith, c.told-s, subst (λ (y : ℕ). Stands c.args.s.now y (get_or c.args.s.now count_at 0)) (sym c.reads-tag.ensures) (stands_so c.args.s.now (get_or c.args.s.now place_at 0) (get_or c.args.s.now count_at 0) c.told-s), subst (λ (y : ℕ). Leads c.args.bytes.now c.args.s.now 0 (placed c.args.s.now y (get_or c.args.s.now count_at 0)) 0) (sym c.reads-tag.ensures) (leads_start c.args.bytes.now c.args.s.now (get_or c.args.s.now place_at 0) (get_or c.args.s.now count_at 0) c.told-s (omega (arith, c.if-n-eq0.false)) refl refl), search rules)

pub run-went-requires : goal.run-went-requires
run-went-requires c = (omega (arith, c.room-most.ensures.0, c.skip-i.ensures.most), c.requires, λ (some : 0 < c.room-most.result). subst (λ (y : ℕ). Fits c.loop-i.s y c.loop-i.k c.room-most.result) (c.room-most.ensures.1 some).inside (c.room-most.ensures.1 some))

pub returns-then-i-n : goal.returns-then-i-n
returns-then-i-n c = passed_all c.args.bytes.now c.args.s.now _ (c.skip-i.result + c.run-went.result) c.if-i-n.true (leads_to c.args.bytes.now c.args.s.now (placed c.run-went.new.s c.loop-i.tag (c.loop-i.k + c.run-went.result)) _ (c.skip-i.result + c.run-went.result) (leads_on c.args.bytes.now c.args.s.now (placed c.loop-i.s c.loop-i.tag c.loop-i.k) (placed c.run-went.new.s c.loop-i.tag (c.loop-i.k + c.run-went.result)) 0 c.loop-i.i (c.skip-i.result + c.run-went.result) c.loop-i.invariant.3 (leads_on c.args.bytes.now (placed c.loop-i.s c.loop-i.tag c.loop-i.k) (placed c.loop-i.s c.loop-i.tag c.loop-i.k) (placed c.run-went.new.s c.loop-i.tag (c.loop-i.k + c.run-went.result)) c.loop-i.i c.skip-i.result (c.skip-i.result + c.run-went.result) (c.skip-i.ensures.leads c.loop-i.s c.loop-i.k c.loop-i.invariant.1) (run_leads c.args.bytes.now c.loop-i.s c.run-went.new.s c.loop-i.tag c.loop-i.k c.skip-i.result c.room-most.result c.run-went.result c.loop-i.invariant.2 c.room-most.ensures.1 c.run-went.ensures.0 c.run-went.ensures.1).0)) (sym c.settle.ensures))

pub step-requires : goal.step-requires
step-requires c = (run_leads c.args.bytes.now c.loop-i.s c.run-went.new.s c.loop-i.tag c.loop-i.k c.skip-i.result c.room-most.result c.run-went.result c.loop-i.invariant.2 c.room-most.ensures.1 c.run-went.ensures.0 c.run-went.ensures.1).1

pub returns-in_default : goal.returns-in_default
returns-in_default c = passed c.args.bytes.now c.args.s.now c.run-went.new.s c.loop-i.tag (c.loop-i.k + c.run-went.result) (c.skip-i.result + c.run-went.result) _ (omega (arith, c.if-i-n.false, c.run-went.ensures.0, c.room-most.ensures.0, c.skip-i.ensures.most)) (leads_on c.args.bytes.now c.args.s.now (placed c.loop-i.s c.loop-i.tag c.loop-i.k) (placed c.run-went.new.s c.loop-i.tag (c.loop-i.k + c.run-went.result)) 0 c.loop-i.i (c.skip-i.result + c.run-went.result) c.loop-i.invariant.3 (leads_on c.args.bytes.now (placed c.loop-i.s c.loop-i.tag c.loop-i.k) (placed c.loop-i.s c.loop-i.tag c.loop-i.k) (placed c.run-went.new.s c.loop-i.tag (c.loop-i.k + c.run-went.result)) c.loop-i.i c.skip-i.result (c.skip-i.result + c.run-went.result) (c.skip-i.ensures.leads c.loop-i.s c.loop-i.k c.loop-i.invariant.1) (run_leads c.args.bytes.now c.loop-i.s c.run-went.new.s c.loop-i.tag c.loop-i.k c.skip-i.result c.room-most.result c.run-went.result c.loop-i.invariant.2 c.room-most.ensures.1 c.run-went.ensures.0 c.run-went.ensures.1).0)) (sym (ap (λ (x : List ℕ). placed x c.loop-i.tag (c.loop-i.k + c.run-went.result)) c.in_default.ensures.0) ∙ sym c.settle-in_default.ensures) c.in_default.ensures.1

pub loop-i-preserved : goal.loop-i-preserved
loop-i-preserved c = ((omega (arith, c.if-i-n.false, c.run-went.ensures.0, c.room-most.ensures.0, c.skip-i.ensures.most)), c.step.array_long, c.in-Some.ensures.1, leads_on c.args.bytes.now c.args.s.now (placed c.run-went.new.s c.loop-i.tag (c.loop-i.k + c.run-went.result)) _ 0 (c.skip-i.result + c.run-went.result) _ (leads_on c.args.bytes.now c.args.s.now (placed c.loop-i.s c.loop-i.tag c.loop-i.k) (placed c.run-went.new.s c.loop-i.tag (c.loop-i.k + c.run-went.result)) 0 c.loop-i.i (c.skip-i.result + c.run-went.result) c.loop-i.invariant.3 (leads_on c.args.bytes.now (placed c.loop-i.s c.loop-i.tag c.loop-i.k) (placed c.loop-i.s c.loop-i.tag c.loop-i.k) (placed c.run-went.new.s c.loop-i.tag (c.loop-i.k + c.run-went.result)) c.loop-i.i c.skip-i.result (c.skip-i.result + c.run-went.result) (c.skip-i.ensures.leads c.loop-i.s c.loop-i.k c.loop-i.invariant.1) (run_leads c.args.bytes.now c.loop-i.s c.run-went.new.s c.loop-i.tag c.loop-i.k c.skip-i.result c.room-most.result c.run-went.result c.loop-i.invariant.2 c.room-most.ensures.1 c.run-went.ensures.0 c.run-went.ensures.1).0)) (leads_one c.args.bytes.now (placed c.run-went.new.s c.loop-i.tag (c.loop-i.k + c.run-went.result)) _ (c.skip-i.result + c.run-went.result) (omega (arith, c.if-i-n.false, c.run-went.ensures.0, c.room-most.ensures.0, c.skip-i.ensures.most)) c.in-Some.ensures.0), search rules)

pub returns : goal.returns
returns c = passed_all c.args.bytes.now c.args.s.now _ c.loop-i.i (omega (arith, c.loop-i-test.false, c.loop-i.invariant.0)) (leads_to c.args.bytes.now c.args.s.now _ _ c.loop-i.i c.loop-i.invariant.3 (sym c.settle-2.ensures))
