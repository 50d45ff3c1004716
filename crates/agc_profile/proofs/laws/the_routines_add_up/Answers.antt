use Rattle.agc_profile.proofs.RoutineLaws.{routines_add_up}
use Rattle.agc_profile.proofs.laws.the_routines_add_up.Goals as goal

pub returns : goal.returns
returns c = routines_add_up
