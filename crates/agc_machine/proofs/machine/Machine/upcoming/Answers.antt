use Rattle.agc_machine.proofs.Cases.{reported_comes}
use Rattle.agc_machine.proofs.machine.Machine.upcoming.Goals as goal

pub returns-clause-comes : goal.returns-clause-comes
returns-clause-comes c = reported_comes _ _ _ c.self.view_is c.upcoming.ensures.reported
