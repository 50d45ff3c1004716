use Rattle.std.proofs.Common.{length, arith}
use Rattle.agc_word.proofs.Numerals.{below_longer}
use Rattle.agc_word.proofs.numeral.read_number.Goals as goal

pub returns-clause-range : goal.returns-clause-range
returns-clause-range c = below_longer c.args.base (length c.args.text.now) c.args.most c.read_digits.result (omega arith) (omega arith) c.read_digits.ensures.range
