use Rattle.std.proofs.Common.{◌∙◌, arith}
use Rattle.agc_machine.proofs.Before.{fewer_after_way, next_after_way, next_of_same_way, next_at_way_stop, next_at_way_write}
use Rattle.agc_machine.proofs.Chain.{fewer_after_quiet, next_after_quiet, next_at_write, next_at_stop}
use Rattle.agc_machine.proofs.engine.Engine.next_write.Goals as goal

pub loop-self-smaller-in-Quiet : goal.loop-self-smaller-in-Quiet
loop-self-smaller-in-Quiet c = fewer_after_way _ _ _ c.in-Quiet.ensures.next

pub loop-self-preserved-in-Quiet : goal.loop-self-preserved-in-Quiet
loop-self-preserved-in-Quiet c = (c.in-Quiet.ensures.sound, next_after_way _ _ _ c.in-Quiet.ensures.next ∙ c.loop-self.invariant.1)

pub returns-in-Wrote-clause-next : goal.returns-in-Wrote-clause-next
returns-in-Wrote-clause-next c = next_at_way_write _ _ _ _ c.in-Wrote.ensures.next ∙ c.loop-self.invariant.1

pub returns-in-Stopped-clause-next : goal.returns-in-Stopped-clause-next
returns-in-Stopped-clause-next c = next_at_way_stop _ _ _ _ c.in-Stopped.ensures.next ∙ c.loop-self.invariant.1

pub loop-self-smaller : goal.loop-self-smaller
loop-self-smaller c =
    let fewer = fewer_after_quiet _ _ c.in-Quiet-step_slowly.ensures.step in omega (arith, fewer, c.skip_idle_turns.ensures.left)

pub loop-self-preserved : goal.loop-self-preserved
loop-self-preserved c =
    (c.skip_idle_turns.ensures.sound, next_of_same_way _ _ _ c.skip_idle_turns.ensures.next ∙ next_after_quiet _ _ c.in-Quiet-step_slowly.ensures.step ∙ c.loop-self.invariant.1)

pub returns-in-Wrote-step_slowly-clause-next : goal.returns-in-Wrote-step_slowly-clause-next
returns-in-Wrote-step_slowly-clause-next c = next_at_write _ _ _ c.in-Wrote-step_slowly.ensures.step ∙ c.loop-self.invariant.1

pub returns-in-Stopped-step_slowly-clause-next : goal.returns-in-Stopped-step_slowly-clause-next
returns-in-Stopped-step_slowly-clause-next c = next_at_stop _ _ _ c.in-Stopped-step_slowly.ensures.step ∙ c.loop-self.invariant.1
