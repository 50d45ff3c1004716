use Rattle.std.proofs.Common.{arith}
use Rattle.std.proofs.lemmas.Str.Pattern.{split_once_first}
use Rattle.agc_timeline.proofs.Lines.{first_is_line, line_of_whole, no_line}
use Rattle.agc_timeline.proofs.changed_lines.first_line.Goals as goal

pub returns-in-Some-clause-line : goal.returns-in-Some-clause-line
returns-in-Some-clause-line c =
    let cut = rw c.in-Some.is at (split_once_first 10 c.args.text.now c.split_once.result c.split_once.ensures.cases (omega arith)) in
    rw (cut.1, cut.2) (first_is_line c.args.text.now cut.0)

pub returns-in-None-clause-line : goal.returns-in-None-clause-line
returns-in-None-clause-line c =
    let cut = rw c.in-None.is at (split_once_first 10 c.args.text.now c.split_once.result c.split_once.ensures.cases (omega arith)) in
    grind (arith, line_of_whole, no_line)
