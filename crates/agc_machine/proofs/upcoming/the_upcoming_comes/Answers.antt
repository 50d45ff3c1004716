use Rattle.agc_machine.proofs.Cases.{upcoming_applies, upcoming_comes}
use Rattle.agc_machine.proofs.upcoming.the_upcoming_comes.Goals as goal

pub returns-clause-cases : goal.returns-clause-cases
returns-clause-cases c = upcoming_applies

pub returns-clause-boundary : goal.returns-clause-boundary
returns-clause-boundary c = upcoming_comes
