use Rattle.agc_machine.proofs.Taken.{tape_is_taken}
use Rattle.agc_machine.proofs.laws.tapes_are_taken.Goals as goal

pub returns : goal.returns
returns c = tape_is_taken
