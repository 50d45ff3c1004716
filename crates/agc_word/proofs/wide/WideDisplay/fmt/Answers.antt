-- The hole writes the octal digits of the pattern, with zeros in front.
use Rattle.std.proofs.Common.{arith}
use Rattle.agc_word.proofs.Octal.{octal_text}
use Rattle.agc_word.proofs.wide.WideDisplay.fmt.Goals as goal

pub returns-clause-writes : goal.returns-clause-writes
returns-clause-writes g c = λ plain ok.
    let bits = c.bits-bits in
    let text = octal_text 6 bits.result (omega arith) (omega arith) (omega arith) in
    let written = rw (c.laid_out.ensures, c.in_radix.ensures, text, bits.ensures.pattern) at c.write.ensures.writes in
    written plain ok
