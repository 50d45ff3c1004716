use Rattle.agc_machine.proofs.Chain.{next_comes}
use Rattle.agc_machine.proofs.laws.the_next_comes.Goals as goal

pub returns : goal.returns
returns c = next_comes
