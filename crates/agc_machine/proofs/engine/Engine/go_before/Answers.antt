use Rattle.std.proofs.Common.{◌∙◌, arith}
use Rattle.agc_machine.proofs.Chain.{fewer_after_quiet}
use Rattle.agc_machine.proofs.Before.{before_at_way, before_after_way, before_same_way, before_at_way_write, before_at_way_stop, fewer_after_way, before_at_cycle, before_after_quiet, before_at_write, before_at_stop}
use Rattle.agc_machine.proofs.engine.Engine.go_before.Goals as goal

pub returns-then-cycle-self-clause-next : goal.returns-then-cycle-self-clause-next
returns-then-cycle-self-clause-next c = before_at_way _ _ _ _ (omega arith) c.in-Quiet.ensures.next (omega arith) ∙ c.loop-self.invariant.1

pub loop-self-smaller-else-cycle-self : goal.loop-self-smaller-else-cycle-self
loop-self-smaller-else-cycle-self c = fewer_after_way _ _ _ c.in-Quiet.ensures.next

pub loop-self-preserved-else-cycle-self : goal.loop-self-preserved-else-cycle-self
loop-self-preserved-else-cycle-self c =
    (c.in-Quiet.ensures.sound, before_after_way _ _ _ _ (omega arith) c.in-Quiet.ensures.next (omega arith) ∙ c.loop-self.invariant.1)

pub returns-in-Wrote-clause-next : goal.returns-in-Wrote-clause-next
returns-in-Wrote-clause-next c = before_at_way_write _ _ _ _ _ (omega arith) c.in-Wrote.ensures.next ∙ c.loop-self.invariant.1

pub returns-in-Stopped-clause-next : goal.returns-in-Stopped-clause-next
returns-in-Stopped-clause-next c = before_at_way_stop _ _ _ _ _ (omega arith) c.in-Stopped.ensures.next ∙ c.loop-self.invariant.1

pub returns-then-cycle-self-2-clause-next : goal.returns-then-cycle-self-2-clause-next
returns-then-cycle-self-2-clause-next c = before_at_cycle _ _ _ c.in-Quiet-step_slowly.ensures.step (omega arith) ∙ c.loop-self.invariant.1

pub loop-self-smaller : goal.loop-self-smaller
loop-self-smaller c =
    let fewer = fewer_after_quiet _ _ c.in-Quiet-step_slowly.ensures.step in omega (arith, fewer, c.skip_idle_turns.ensures.left)

pub loop-self-preserved : goal.loop-self-preserved
loop-self-preserved c = (
  c.skip_idle_turns.ensures.sound,
  before_same_way _ _ _ _ (omega arith) c.skip_idle_turns.ensures.next
      ∙ before_after_quiet _ _ _ c.in-Quiet-step_slowly.ensures.step (omega arith) ∙ c.loop-self.invariant.1,
)

pub returns-in-Wrote-step_slowly-clause-next : goal.returns-in-Wrote-step_slowly-clause-next
returns-in-Wrote-step_slowly-clause-next c = before_at_write _ _ _ _ c.in-Wrote-step_slowly.ensures.step ∙ c.loop-self.invariant.1

pub returns-in-Stopped-step_slowly-clause-next : goal.returns-in-Stopped-step_slowly-clause-next
returns-in-Stopped-step_slowly-clause-next c = before_at_stop _ _ _ _ c.in-Stopped-step_slowly.ensures.step ∙ c.loop-self.invariant.1
