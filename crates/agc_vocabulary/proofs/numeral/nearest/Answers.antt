use Rattle.agc_vocabulary.proofs.Nearest.{nearest_is}
use Rattle.agc_vocabulary.proofs.numeral.nearest.Goals as goal

pub returns-clause-nearest : goal.returns-clause-nearest
returns-clause-nearest c = λ k inside.
    rw (c.capped.ensures.capped) (nearest_is c.args.limit c.args.ratio.over c.args.ratio.under k c.requires.positive inside)
