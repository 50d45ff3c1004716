use Rattle.agc_profile.proofs.RoutineLaws.{from_name}
use Rattle.agc_profile.proofs.laws.a_routine_is_from_name_to_name.Goals as goal

pub returns : goal.returns
returns c = from_name
