use Rattle.std.proofs.Common.{sym, ◌∙◌, arith}
use Rattle.agc_quantities.specs.Due.{is_due}
use Rattle.agc_quantities.proofs.Walk.{fewer_after_boundary, first_after, found_at_stop, none_at_stop}
use Rattle.agc_quantities.proofs.sampler.go_to_due.Goals as goal

pub returns-then-cycle-plan : goal.returns-then-cycle-plan
returns-then-cycle-plan g c =
    found_at_stop (is_due c.args.plan.now c.args.last.now) _ _ _ _ _ _ c.loop-machine.invariant (sym c.is_due.ensures ∙ c.if-is_due.false)
    c.in-Stopped.ensures.boundary c.is_due-then-cycle-plan.ensures (omega (arith, c.cycle-in-Stopped.ensures.cycle, c.if-cycle-plan.true))

pub returns-else-cycle-plan : goal.returns-else-cycle-plan
returns-else-cycle-plan g c =
    none_at_stop (is_due c.args.plan.now c.args.last.now) _ _ _ _ _ _ c.loop-machine.invariant (sym c.is_due.ensures ∙ c.if-is_due.false)
    c.in-Stopped.ensures.boundary c.if-cycle-plan.false

pub loop-machine-smaller : goal.loop-machine-smaller
loop-machine-smaller g c = fewer_after_boundary _ _ c.step.result c.step.ensures.boundary c.in-Quiet.is

pub loop-machine-preserved : goal.loop-machine-preserved
loop-machine-preserved g c =
    first_after (is_due c.args.plan.now c.args.last.now) _ _ _ _ c.loop-machine.invariant (sym c.is_due.ensures ∙ c.if-is_due.false) c.step.ensures.boundary
