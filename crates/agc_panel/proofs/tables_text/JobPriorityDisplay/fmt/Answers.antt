use Rattle.std.proofs.Common.{arith}
use Rattle.agc_word.proofs.Octal.{octal_text}
use Rattle.agc_panel.proofs.tables_text.JobPriorityDisplay.fmt.Goals as goal

pub returns-clause-writes : goal.returns-clause-writes
returns-clause-writes g c =
    let digits = octal_text 2 c.number-priority.result (omega arith) (omega arith) (omega arith) in
    let laid_out = rw (c.laid_out.ensures, c.in_radix.ensures) at c.write.ensures.writes in
    let written = rw digits at laid_out in
    rw (← c.number-priority.ensures.number) written
