use Rattle.std.proofs.Common.{rules}
use Rattle.agc_word.proofs.LogicLemmas.{or_of-number_from_pattern}
use Rattle.agc_word.proofs.logic.or.Goals as goal

pub returns : goal.returns
returns c = cc (or_of-number_from_pattern c.bits.result c.bits-2.result (search rules) (search rules))
