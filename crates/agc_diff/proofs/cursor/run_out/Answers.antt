use Rattle.std.proofs.Common.{refl}
use Rattle.agc_machine.proofs.Chain.{fewer_after_write}
use Rattle.agc_diff.proofs.Followed.{run_ends, run_more, run_none}
use Rattle.agc_diff.proofs.cursor.run_out.Goals as goal

pub loop-write-init : goal.loop-write-init
loop-write-init g c = run_none _ _

pub loop-write-smaller : goal.loop-write-smaller
loop-write-smaller g c = fewer_after_write _ _ _ c.in-Wrote.ensures.next

pub loop-write-preserved : goal.loop-write-preserved
loop-write-preserved g c = run_more _ _ _ _ _ _ _ c.in-Wrote.ensures.next c.take.ensures.all c.loop-write.invariant

pub returns-in-Stopped : goal.returns-in-Stopped
returns-in-Stopped g c = run_ends _ _ _ _ _ _ _ c.in-Stopped.ensures.next refl c.cycle.ensures.cycle refl c.loop-write.invariant
