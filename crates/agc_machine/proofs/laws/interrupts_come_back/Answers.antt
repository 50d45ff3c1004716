use Rattle.agc_machine.proofs.Return.{comes_back}
use Rattle.agc_machine.proofs.laws.interrupts_come_back.Goals as goal

pub returns : goal.returns
returns c = comes_back
