use Rattle.std.proofs.Common.{arith, append_assoc}
use Rattle.agc_word.proofs.Octal.{octal_text}
use Rattle.agc_trace.specs.Line.{registers_text}
use Rattle.agc_trace.proofs.line.push_registers.Goals as goal

pub returns : goal.returns
unfolding registers_text
returns c =
    let z = octal_text 4 c.bits-z.result (omega arith) (omega arith) (omega (arith, c.bits-z.ensures.range)) in
    let eb = octal_text 1 c.args.registers.erasable_bank (omega arith) (omega arith) (omega (arith, c.requires.erasable)) in
    let fb = octal_text 2 c.args.registers.fixed_bank (omega arith) (omega arith) (omega (arith, c.requires.fixed)) in
    let by_std = c.write.ensures.bytes in
    let laid_out = rw (c.in_radix.ensures, c.laid_out.ensures, c.in_radix-2.ensures, c.laid_out-2.ensures, c.in_radix-3.ensures, c.laid_out-3.ensures) at by_std in
    let written = rw (z, eb, fb) at laid_out in
    let named = rw c.bits-z.ensures.address at written in
    simp append_assoc named
