use Rattle.agc_profile.proofs.Lengths.{whole_length}
use Rattle.agc_profile.proofs.laws.the_cycles_add_up.Goals as goal

pub returns : goal.returns
returns c = whole_length
