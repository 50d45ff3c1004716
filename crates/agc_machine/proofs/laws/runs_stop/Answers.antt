use Rattle.agc_machine.proofs.Chain.{stops_in_time}
use Rattle.agc_machine.proofs.laws.runs_stop.Goals as goal

pub returns : goal.returns
returns c = stops_in_time
