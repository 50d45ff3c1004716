use Rattle.agc_encode.proofs.Complements.{adds_offset}
use Rattle.agc_encode.proofs.laws.an_offset_is_added_to_the_word.Goals as goal

pub returns : goal.returns
returns c = adds_offset
