use Rattle.agc_listing.proofs.SameWord.{same_by}
use Rattle.agc_listing.proofs.cell.is_same_word.Goals as goal

pub returns : goal.returns
returns c = same_by _ _ _ c.is_equal.ensures.0 c.is_equal.ensures.1
