use Rattle.agc_machine.proofs.Chain.{boundary_falls}
use Rattle.agc_machine.proofs.laws.boundaries_fall.Goals as goal

pub returns : goal.returns
returns c = boundary_falls
