use Rattle.std.proofs.Common.{arith}
use Rattle.agc_word.proofs.Octal.{octal_text}
use Rattle.agc_listing.proofs.shown.push_octal.Goals as goal

pub returns : goal.returns
returns c =
    let digits = octal_text 3 c.args.byte (omega arith) (omega arith) (omega arith) in
    let by_std = c.write.ensures.bytes in
    let laid_out = rw (c.in_radix.ensures, c.laid_out.ensures) at by_std in
    let line = rw digits at laid_out in
    line
