use Rattle.std.proofs.Common.{refl, ap, ◌∙◌, ◌<◌, ◌≤◌, arith}
use Rattle.agc_machine.proofs.Before.{before_keeps, fewer_after_way, next_at_way_write}
use Rattle.agc_machine.proofs.Chain.{fewer_after_write}
use Rattle.agc_session.specs.Session.{SessionState}
use Rattle.agc_session.proofs.Reached.{at_cycle, at_stop, no_way, then_way, way_on}
use Rattle.agc_session.proofs.session.Session.go_to.Goals as goal

pub loop-self-init : goal.loop-self-init
loop-self-init c = (no_way _ _, refl, refl, refl, refl)

pub loop-self-smaller-in-Quiet : goal.loop-self-smaller-in-Quiet
loop-self-smaller-in-Quiet c = fewer_after_way _ _ _ c.in-Quiet.ensures.gone.now

pub loop-self-smaller : goal.loop-self-smaller
loop-self-smaller c = fewer_after_write _ _ _ (next_at_way_write _ _ _ _ c.in-Wrote.ensures.gone.now)

pub loop-self-preserved-in-Quiet : goal.loop-self-preserved-in-Quiet
loop-self-preserved-in-Quiet c =
    let so_far = c.loop-self.invariant in
    let short : c.loop-self.self.now.cycle < c.args.cycle = omega (arith, c.cycle.ensures.cycle, c.loop-self-test.true, ap (λ (s : SessionState). s.now.cycle) c.self.view_is) in
    (then_way _ _ _ _ so_far.0 (way_on _ _ _ _ short c.in-Quiet.ensures.gone.now), c.in-Quiet.ensures.gone.base ∙ so_far.1, c.in-Quiet.ensures.gone.retained ∙ so_far.2, c.in-Quiet.ensures.gone.script ∙ so_far.3, c.in-Quiet.ensures.gone.injected ∙ so_far.4)

pub loop-self-preserved : goal.loop-self-preserved
loop-self-preserved c =
    let so_far = c.loop-self.invariant in
    let short : c.loop-self.self.now.cycle < c.args.cycle = omega (arith, c.cycle.ensures.cycle, c.loop-self-test.true, ap (λ (s : SessionState). s.now.cycle) c.self.view_is) in
    (then_way _ _ _ _ so_far.0 (way_on _ _ _ _ short c.in-Wrote.ensures.gone.now), c.in-Wrote.ensures.gone.base ∙ so_far.1, c.in-Wrote.ensures.gone.retained ∙ so_far.2, c.in-Wrote.ensures.gone.script ∙ so_far.3, c.in-Wrote.ensures.gone.injected ∙ so_far.4)

pub returns-in-Stopped-clause-reached : goal.returns-in-Stopped-clause-reached
returns-in-Stopped-clause-reached c =
    let so_far = c.loop-self.invariant in
    let short : c.loop-self.self.now.cycle < c.args.cycle = omega (arith, c.cycle.ensures.cycle, c.loop-self-test.true, ap (λ (s : SessionState). s.now.cycle) c.self.view_is) in
    at_stop _ _ _ c.in-Stopped.field-0 (then_way _ _ _ _ so_far.0 (way_on _ _ _ _ short c.in-Stopped.ensures.gone.now)) (before_keeps _ _ _ c.in-Stopped.ensures.gone.now)

pub returns-clause-reached : goal.returns-clause-reached
returns-clause-reached c =
    let long : c.args.cycle ≤ c.loop-self.self.now.cycle = omega (arith, c.cycle.ensures.cycle, c.loop-self-test.false, ap (λ (s : SessionState). s.now.cycle) c.self.view_is) in
    at_cycle _ _ _ c.loop-self.invariant.0 long
