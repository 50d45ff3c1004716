use Rattle.std.proofs.Common.{ap, sym, ◌∙◌, arith, refl}
use Rattle.agc_store.specs.Memory.{Memory, erasable_bank}
use Rattle.agc_machine.specs.State.{State}
use Rattle.agc_machine.specs.declared.answer.Stepped.{Stepped}
use Rattle.agc_trace.proofs.Passed.{entries_stay, fewer_stay, passes, seen_stay, service_stays}
use Rattle.agc_trace.proofs.passing.pass_unrequested.Goals as goal

pub loop-machine-init : goal.loop-machine-init
loop-machine-init g c = record { entries = refl; service = refl; seen = refl; fewer = omega arith }

pub loop-machine-smaller : goal.loop-machine-smaller
loop-machine-smaller g c =
    let passed = passes c.args.selection.now c.loop-machine.machine _ _ c.upcoming-happening.ensures.reported (c.erasable_bank-bank.ensures.bank ∙ ap (λ (m : Memory). erasable_bank m.erasable) c.store.ensures) (sym c.is_passed.ensures ∙ c.if-not-is_passed.false) in
    fewer_stay c.args.selection.now c.loop-machine.machine _ passed (ap (λ (r : State × Stepped). r.0) c.step.ensures.boundary)

pub loop-machine-preserved : goal.loop-machine-preserved
loop-machine-preserved g c =
    let passed = passes c.args.selection.now c.loop-machine.machine _ _ c.upcoming-happening.ensures.reported (c.erasable_bank-bank.ensures.bank ∙ ap (λ (m : Memory). erasable_bank m.erasable) c.store.ensures) (sym c.is_passed.ensures ∙ c.if-not-is_passed.false) in
    record {
      entries = entries_stay c.args.selection.now c.loop-machine.machine _ passed (ap (λ (r : State × Stepped). r.0) c.step.ensures.boundary) ∙ c.loop-machine.invariant.entries;
      service = service_stays c.args.selection.now c.loop-machine.machine _ passed (ap (λ (r : State × Stepped). r.0) c.step.ensures.boundary) _ _ _ _ c.upcoming-happening.ensures.reported
          c.cycle-cycle.ensures.cycle (omega (arith, c.cycle.ensures.cycle, c.loop-machine-test.true)) c.service_past-service.ensures
          ∙ c.loop-machine.invariant.service;
      seen = seen_stay c.args.selection.now c.loop-machine.machine _ passed (ap (λ (r : State × Stepped). r.0) c.step.ensures.boundary) ∙ c.loop-machine.invariant.seen;
      fewer = omega (arith, c.loop-machine.invariant.fewer, fewer_stay c.args.selection.now c.loop-machine.machine _ passed (ap (λ (r : State × Stepped). r.0) c.step.ensures.boundary));
    }
