use Rattle.std.proofs.Common.{arith}
use Rattle.agc_mend.proofs.Converted.{is_converted}
use Rattle.agc_mend.proofs.reading.convert.Goals as goal

pub returns-clause-rope : goal.returns-clause-rope
returns-clause-rope c = rw c.in_ok-new.ensures (is_converted c.args.before c.args.after c.args.words.now (λ i. omega (arith, c.type_inv.words i)))
