use Rattle.agc_mend.proofs.CheckWords.{both_fit}
use Rattle.agc_mend.proofs.check_words.check_words_make_sums_right.Goals as goal

pub returns : goal.returns
returns c = both_fit
