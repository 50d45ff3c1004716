use Rattle.agc_machine.proofs.Chain.{run_rises}
use Rattle.agc_machine.proofs.laws.writes_rise.Goals as goal

pub returns : goal.returns
returns c = run_rises
