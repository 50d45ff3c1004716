use Rattle.agc_profile.proofs.Readers.{cells_read, fixed_read}
use Rattle.agc_profile.proofs.laws.a_place_has_its_readers.Goals as goal

pub returns-clause-fixed : goal.returns-clause-fixed
returns-clause-fixed c = fixed_read

pub returns-clause-erasable : goal.returns-clause-erasable
returns-clause-erasable c = cells_read
