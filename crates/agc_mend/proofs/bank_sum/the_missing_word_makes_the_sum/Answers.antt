use Rattle.agc_mend.proofs.Sums.{missing}
use Rattle.agc_mend.proofs.bank_sum.the_missing_word_makes_the_sum.Goals as goal

pub returns : goal.returns
returns c = missing
