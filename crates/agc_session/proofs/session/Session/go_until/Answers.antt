use Rattle.std.specs.Prelude.{◌<◌}
use Rattle.std.proofs.Common.{subst, sym}
use Rattle.agc_machine.specs.State.{State}
use Rattle.agc_session.specs.Search.{span}
use Rattle.agc_session.proofs.Boundaries.{span_falls}
use Rattle.agc_session.proofs.Counting.{never}
use Rattle.agc_session.proofs.RunTo.{gone_now, run_hits, run_misses, runs_from, runs_on}
use Rattle.agc_session.proofs.session.Session.go_until.Goals as goal

pub loop-condition-init : goal.loop-condition-init
loop-condition-init c = runs_from c.args.condition c.args.cycle c.args.self.now

pub returns-then-step_to : goal.returns-then-step_to
returns-then-step_to c =
    let short = c.is_short_of.ensures.short c.loop-condition-test.true in
    let gone = c.step_to.ensures.gone in
    run_hits c.args.condition c.args.cycle c.args.self.now c.loop-condition.self c.step_to.new.self gone.0 c.loop-condition.invariant short.0 short.1 gone.1
    (c.step_to.ensures.ends.0 c.if-step_to.true)

pub loop-condition-smaller : goal.loop-condition-smaller
loop-condition-smaller c =
    let short = c.is_short_of.ensures.short c.loop-condition-test.true in
    let gone = c.step_to.ensures.gone in
    subst (λ (t : State). span t < span c.loop-condition.self.now) (sym (gone_now c.loop-condition.self c.step_to.new.self gone.0 gone.1)) (span_falls c.loop-condition.self.now short.1)

pub loop-condition-preserved : goal.loop-condition-preserved
loop-condition-preserved c =
    let short = c.is_short_of.ensures.short c.loop-condition-test.true in
    let gone = c.step_to.ensures.gone in
    runs_on c.args.condition c.args.cycle c.args.self.now c.loop-condition.self c.step_to.new.self gone.0 c.loop-condition.invariant short.0 gone.1
    (λ ends. never c.step_to.result c.if-step_to.false (c.step_to.ensures.ends.1 ends))

pub returns : goal.returns
returns c =
    run_misses c.args.condition c.args.cycle c.args.self.now c.loop-condition.self c.loop-condition.invariant (c.is_short_of.ensures.ended c.loop-condition-test.false)
