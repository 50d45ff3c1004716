-- Each edit is a cut and a join of the pattern.
use Rattle.agc_word.proofs.Edits.{edited-cyr, edited-sr, edited-cyl, edited-edop}
use Rattle.agc_word.proofs.narrow.Narrow.edit.Goals as goal

pub returns-in-Cyr : goal.returns-in-Cyr
returns-in-Cyr c = let bits = c.bits-bits in cc (edited-cyr bits.result bits.ensures.range)

pub returns-in-Sr : goal.returns-in-Sr
returns-in-Sr c = let bits = c.bits-bits in cc (edited-sr bits.result bits.ensures.range)

pub returns-in-Cyl : goal.returns-in-Cyl
returns-in-Cyl c = let bits = c.bits-bits in cc (edited-cyl bits.result bits.ensures.range)

pub returns-in-Edop : goal.returns-in-Edop
returns-in-Edop c = let bits = c.bits-bits in cc (edited-edop bits.result bits.ensures.range)
