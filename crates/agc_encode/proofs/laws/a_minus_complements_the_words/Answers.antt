use Rattle.agc_encode.proofs.Complements.{complements_pair, complements_word}
use Rattle.agc_encode.proofs.laws.a_minus_complements_the_words.Goals as goal

pub returns-clause-word : goal.returns-clause-word
returns-clause-word c = complements_word

pub returns-clause-pair : goal.returns-clause-pair
returns-clause-pair c = complements_pair
