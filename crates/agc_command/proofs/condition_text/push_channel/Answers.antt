use Rattle.std.proofs.Common.{arith}
use Rattle.agc_word.proofs.Octal.{octal_text}
use Rattle.agc_command.proofs.condition_text.push_channel.Goals as goal

pub returns : goal.returns
returns c =
    let digits = octal_text 3 c.args.channel (omega arith) (omega arith) (omega (arith, c.requires)) in
    let by_std = c.write.ensures.bytes in
    let laid_out = rw (c.in_radix.ensures, c.laid_out.ensures) at by_std in
    let line = rw digits at laid_out in
    line
