use Rattle.agc_vocabulary.proofs.Nearest.{nearest_by, raised_is}
use Rattle.agc_vocabulary.proofs.laws.a_fraction_is_the_nearest_number.Goals as goal

pub returns-clause-nearest : goal.returns-clause-nearest
returns-clause-nearest c = nearest_by

pub returns-clause-product : goal.returns-clause-product
returns-clause-product c = raised_is
