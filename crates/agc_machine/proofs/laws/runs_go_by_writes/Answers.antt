use Rattle.agc_machine.proofs.Chain.{run_by_next}
use Rattle.agc_machine.proofs.laws.runs_go_by_writes.Goals as goal

pub returns : goal.returns
returns c = run_by_next
