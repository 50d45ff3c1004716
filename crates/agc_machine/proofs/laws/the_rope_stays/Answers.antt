use Rattle.agc_machine.proofs.Kept.{boundary_keeps}
use Rattle.agc_machine.proofs.laws.the_rope_stays.Goals as goal

pub returns : goal.returns
returns c = boundary_keeps
