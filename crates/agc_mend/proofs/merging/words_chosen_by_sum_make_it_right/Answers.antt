use Rattle.agc_mend.proofs.Merged.{shown_fit}
use Rattle.agc_mend.proofs.merging.words_chosen_by_sum_make_it_right.Goals as goal

pub returns : goal.returns
returns c = shown_fit
