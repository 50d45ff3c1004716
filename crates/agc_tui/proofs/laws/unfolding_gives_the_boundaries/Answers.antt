use Rattle.agc_tui.proofs.Folds.{given_back, one_more}
use Rattle.agc_tui.proofs.laws.unfolding_gives_the_boundaries.Goals as goal

pub returns-clause-folded : goal.returns-clause-folded
returns-clause-folded c = given_back

pub returns-clause-added : goal.returns-clause-added
returns-clause-added c = one_more
