use Rattle.agc_machine.proofs.InTime.{counted_with}
use Rattle.agc_machine.proofs.engine.Engine.next_timer_cycle.Goals as goal

pub returns-clause-due : goal.returns-clause-due
returns-clause-due c = c.timers_quiet_until.ensures.due (c.timers_quiet_until.ensures.known (counted_with _ _ c.requires.in_time c.requires.cycle))
