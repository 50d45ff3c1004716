use Rattle.std.proofs.Common.{arith, append_assoc}
use Rattle.agc_word.proofs.Octal.{octal_text}
use Rattle.agc_repl.proofs.answer.push_write_line.Goals as goal

pub returns : goal.returns
returns c =
    let channel = octal_text 3 c.args.write.now.channel (omega arith) (omega arith) (omega arith) in
    let by_std = c.writeln.ensures.bytes in
    let laid_out = rw (c.in_radix.ensures, c.laid_out.ensures) at by_std in
    let line = rw channel at laid_out in
    simp append_assoc line
