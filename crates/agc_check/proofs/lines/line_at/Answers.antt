use Rattle.std.proofs.Common.{arith, sym}
use Rattle.agc_check.proofs.Numbered.{line_of_part, some_part}
use Rattle.agc_check.proofs.lines.line_at.Goals as goal

pub returns-in-Some : goal.returns-in-Some
returns-in-Some c =
    let is = rw c.in-Some.is at c.part_at.ensures in
    rw c.without_return.ensures (line_of_part c.args.file.now c.in-Some.line.now _ (omega (arith, c.requires)) (sym is))

pub returns-in-None : goal.returns-in-None
returns-in-None c =
    let is = rw c.in-None.is at c.part_at.ensures in
    absurd (some_part c.args.file.now _ (omega (arith, c.requires)) (sym is))
