use Rattle.agc_interpretive.specs.Operation.{synonyms, synonym_at}
use Rattle.agc_interpretive.proofs.operation.synonym_at.Goals as goal

pub returns-clause-name : goal.returns-clause-name
unfolding synonym_at synonyms
returns-clause-name c = c.pair_in.ensures.first

pub returns-clause-own : goal.returns-clause-own
unfolding synonym_at synonyms
returns-clause-own c = c.pair_in.ensures.second
