use Rattle.std.specs.Prelude.{◌<◌, ◌≤◌}
use Rattle.std.proofs.Common.{ap, arith}
use Rattle.agc_machine.proofs.Before.{fewer_after_way}
use Rattle.agc_session.specs.Session.{SessionState}
use Rattle.agc_session.proofs.Gone.{from_there, goes_further, gone_to_cycle, gone_to_stop, gone_to_write}
use Rattle.agc_session.proofs.session.Session.go_on.Goals as goal

pub returns-then-cycle-clause-gone : goal.returns-then-cycle-clause-gone
returns-then-cycle-clause-gone c =
    let long : c.args.cycle ≤ c.go_stretch-in-loop-self.new.self.now.cycle = omega (arith, c.cycle.ensures.cycle, c.if-cycle.true, ap (λ (s : SessionState). s.now.cycle) c.self.view_is) in
    gone_to_cycle c.args.cycle _ c.args.self.now c.loop-self.self _ c.loop-self.invariant (from_there _ c.loop-self.self _ _ _ c.copy_if_due.ensures c.in-Quiet.ensures.gone) (omega (arith, c.min.ensures)) long

pub loop-self-smaller : goal.loop-self-smaller
loop-self-smaller c = fewer_after_way _ c.loop-self.self.now _ (from_there _ c.loop-self.self _ _ _ c.copy_if_due.ensures c.in-Quiet.ensures.gone).now

pub loop-self-preserved : goal.loop-self-preserved
loop-self-preserved c =
    let short : c.go_stretch-in-loop-self.new.self.now.cycle < c.args.cycle = omega (arith, c.cycle.ensures.cycle, c.if-cycle.false, ap (λ (s : SessionState). s.now.cycle) c.self.view_is) in
    goes_further c.args.cycle _ c.args.self.now c.loop-self.self _ c.loop-self.invariant (from_there _ c.loop-self.self _ _ _ c.copy_if_due.ensures c.in-Quiet.ensures.gone) (omega (arith, c.min.ensures)) short

pub returns-in-Wrote-clause-gone : goal.returns-in-Wrote-clause-gone
returns-in-Wrote-clause-gone c =
    gone_to_write c.args.cycle _ c.args.self.now c.loop-self.self _ c.in-Wrote.write c.loop-self.invariant (from_there _ c.loop-self.self _ _ _ c.copy_if_due.ensures c.in-Wrote.ensures.gone) (omega (arith, c.min.ensures))

pub returns-in-Stopped-clause-gone : goal.returns-in-Stopped-clause-gone
returns-in-Stopped-clause-gone c =
    gone_to_stop c.args.cycle _ c.args.self.now c.loop-self.self _ c.in-Stopped.why c.loop-self.invariant (from_there _ c.loop-self.self _ _ _ c.copy_if_due.ensures c.in-Stopped.ensures.gone) (omega (arith, c.min.ensures))
