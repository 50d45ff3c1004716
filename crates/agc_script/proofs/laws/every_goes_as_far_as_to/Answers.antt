use Rattle.agc_script.proofs.Values.{nth_of_every}
use Rattle.agc_script.proofs.laws.every_goes_as_far_as_to.Goals as goal

pub returns : goal.returns
returns c = nth_of_every
