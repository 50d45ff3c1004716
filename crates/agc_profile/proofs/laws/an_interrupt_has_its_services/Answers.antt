use Rattle.agc_profile.proofs.Interrupts.{served_is, taken_is}
use Rattle.agc_profile.proofs.laws.an_interrupt_has_its_services.Goals as goal

pub returns-clause-taken : goal.returns-clause-taken
returns-clause-taken c = taken_is

pub returns-clause-cycles : goal.returns-clause-cycles
returns-clause-cycles c = served_is
