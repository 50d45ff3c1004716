use Rattle.agc_machine.proofs.Taken.{run_is_chain, chain_stops}
use Rattle.agc_machine.proofs.laws.a_run_is_its_chain.Goals as goal

pub returns-clause-chain : goal.returns-clause-chain
returns-clause-chain c = run_is_chain

pub returns-clause-stopped : goal.returns-clause-stopped
returns-clause-stopped c = chain_stops
