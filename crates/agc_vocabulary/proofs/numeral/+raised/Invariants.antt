use Rattle.agc_vocabulary.proofs.numeral.+raised.Given as goal

abbrev pub decreases-raised : goal.decreases-raised
decreases-raised l = l.times
