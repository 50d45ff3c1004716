use Rattle.std.proofs.Common.{◌∙◌, refl, arith}
use Rattle.agc_machine.proofs.Before.{before_at_cycle, before_after_quiet, before_at_write, before_at_stop}
use Rattle.agc_machine.proofs.Chain.{fewer_after_quiet}
use Rattle.agc_machine.proofs.engine.Engine.go_step_by_step.Goals as goal

pub returns-then-end-self-clause-next : goal.returns-then-end-self-clause-next
returns-then-end-self-clause-next c = before_at_cycle _ _ _ c.in-Quiet.ensures.step (omega arith) ∙ c.loop-self.invariant.1

pub loop-self-smaller : goal.loop-self-smaller
loop-self-smaller c = fewer_after_quiet _ _ c.in-Quiet.ensures.step

pub loop-self-preserved : goal.loop-self-preserved
loop-self-preserved c =
    let same = c.in-Quiet.ensures.quiet_until refl in
    (c.in-Quiet.ensures.sound, before_after_quiet _ _ _ c.in-Quiet.ensures.step (omega arith) ∙ c.loop-self.invariant.1, omega arith, omega arith)

pub returns-in-Wrote-clause-next : goal.returns-in-Wrote-clause-next
returns-in-Wrote-clause-next c = before_at_write _ _ _ _ c.in-Wrote.ensures.step ∙ c.loop-self.invariant.1

pub returns-in-Stopped-clause-next : goal.returns-in-Stopped-clause-next
returns-in-Stopped-clause-next c = before_at_stop _ _ _ _ c.in-Stopped.ensures.step ∙ c.loop-self.invariant.1

pub returns-in-Bare-clause-next : goal.returns-in-Bare-clause-next
returns-in-Bare-clause-next c =
    c.go_bare.ensures.next ∙ before_after_quiet _ _ _ c.in-Quiet.ensures.step (omega arith) ∙ c.loop-self.invariant.1

pub returns-in-Watched-clause-next : goal.returns-in-Watched-clause-next
returns-in-Watched-clause-next c =
    c.go_watched.ensures.next ∙ before_after_quiet _ _ _ c.in-Quiet.ensures.step (omega arith) ∙ c.loop-self.invariant.1
