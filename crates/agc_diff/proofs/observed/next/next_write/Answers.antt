use Rattle.std.proofs.Common.{◌∙◌}
use Rattle.agc_machine.proofs.Before.{fewer_after_way, next_after_way, next_at_way_stop, next_at_way_write}
use Rattle.agc_diff.proofs.observed.next.next_write.Goals as goal

pub returns-in-Wrote : goal.returns-in-Wrote
returns-in-Wrote g c = record { next = next_at_way_write _ _ _ _ c.in-Wrote.ensures.next ∙ c.loop-write.invariant; channel = c.in-Wrote.ensures.channel }

pub returns-in-Stopped : goal.returns-in-Stopped
returns-in-Stopped g c = record { next = next_at_way_stop _ _ _ _ c.in-Stopped.ensures.next ∙ c.loop-write.invariant; channel = tt }

pub loop-write-smaller : goal.loop-write-smaller
loop-write-smaller g c = fewer_after_way _ _ _ c.in-Quiet.ensures.next

pub loop-write-preserved : goal.loop-write-preserved
loop-write-preserved g c = next_after_way _ _ _ c.in-Quiet.ensures.next ∙ c.loop-write.invariant
