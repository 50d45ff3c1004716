use Rattle.std.proofs.Common.{rules}
use Rattle.agc_word.proofs.LogicLemmas.{and_of-number_from_pattern}
use Rattle.agc_word.proofs.logic.and.Goals as goal

pub returns : goal.returns
returns c = cc (and_of-number_from_pattern c.bits.result c.bits-2.result (search rules) (search rules))
