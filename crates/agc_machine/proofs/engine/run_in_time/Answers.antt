use Rattle.agc_machine.proofs.InTime.{order_in_time}
use Rattle.agc_machine.proofs.engine.run_in_time.Goals as goal

pub returns-clause-in_time : goal.returns-clause-in_time
returns-clause-in_time c = order_in_time _ _ _ _ c.requires.in_time c.run.ensures.effect
