use Rattle.agc_profile.proofs.Places.{cells_have, fixed_has}
use Rattle.agc_profile.proofs.laws.a_place_has_its_boundaries.Goals as goal

pub returns-clause-fixed : goal.returns-clause-fixed
returns-clause-fixed c = fixed_has

pub returns-clause-erasable : goal.returns-clause-erasable
returns-clause-erasable c = cells_have
