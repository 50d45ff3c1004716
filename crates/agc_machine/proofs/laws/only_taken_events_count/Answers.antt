use Rattle.agc_machine.proofs.Taking.{takes_same}
use Rattle.agc_machine.proofs.laws.only_taken_events_count.Goals as goal

pub returns : goal.returns
returns c = takes_same
