use Rattle.agc_machine.proofs.Fresh.{same_run}
use Rattle.agc_machine.proofs.laws.reruns_are_exact.Goals as goal

pub returns : goal.returns
returns c = same_run
