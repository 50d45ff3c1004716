use Rattle.agc_machine.proofs.Replay.{chain_is_run}
use Rattle.agc_machine.proofs.laws.chains_are_runs.Goals as goal

pub returns : goal.returns
returns c = chain_is_run
