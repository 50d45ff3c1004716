use Rattle.agc_machine.proofs.Chain.{stopped_stays, next_of_stopped}
use Rattle.agc_machine.proofs.laws.a_stop_is_final.Goals as goal

pub returns-clause-boundary : goal.returns-clause-boundary
returns-clause-boundary c = stopped_stays

pub returns-clause-next : goal.returns-clause-next
returns-clause-next c = next_of_stopped
