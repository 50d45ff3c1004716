use Rattle.agc_script.proofs.Faults.{words_other}
use Rattle.agc_script.proofs.line.read_line.Goals as goal

pub returns-else-has_high_byte-clause-kind : goal.returns-else-has_high_byte-clause-kind
returns-else-has_high_byte-clause-kind c = rw c.read_words.ensures.meaning (words_other _ _ _)
