use Rattle.std.proofs.Common.{◌∙◌}
use Rattle.agc_machine.proofs.Before.{fewer_after_way, next_after_way, next_at_way_stop, next_at_way_write}
use Rattle.agc_pipe.proofs.sending.next_reported.Goals as goal

pub loop-machine-smaller : goal.loop-machine-smaller
loop-machine-smaller g c = fewer_after_way c.loop-machine.mark c.loop-machine.machine c.next_write_before.new.self c.in-Quiet.ensures.next

pub loop-machine-preserved : goal.loop-machine-preserved
loop-machine-preserved g c =
    next_after_way c.loop-machine.mark c.loop-machine.machine c.next_write_before.new.self c.in-Quiet.ensures.next ∙ c.loop-machine.invariant

pub returns-in-Wrote-clause-next : goal.returns-in-Wrote-clause-next
returns-in-Wrote-clause-next g c =
    next_at_way_write c.loop-machine.mark c.loop-machine.machine c.next_write_before.new.self c.in-Wrote.write c.in-Wrote.ensures.next ∙ c.loop-machine.invariant

pub returns-in-Stopped-clause-next : goal.returns-in-Stopped-clause-next
returns-in-Stopped-clause-next g c =
    next_at_way_stop c.loop-machine.mark c.loop-machine.machine c.next_write_before.new.self c.in-Stopped.stop c.in-Stopped.ensures.next ∙ c.loop-machine.invariant
