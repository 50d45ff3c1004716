use Rattle.std.proofs.Common.{◌<◌, length, arith}
use Rattle.std.proofs.lemmas.Bool.Decides.{nat_tests}
use Rattle.std.proofs.lemmas.List.{take_rest}
use Rattle.agc_word.proofs.Cuts.{first_line, no_line}
use Rattle.agc_word.proofs.text.next_line.Goals as goal

pub returns-then-is_empty-clause-lines : goal.returns-then-is_empty-clause-lines
returns-then-is_empty-clause-lines c = no_line c.args.file.now (grind (arith, nat_tests))

pub returns-clause-lines : goal.returns-clause-lines
returns-clause-lines c =
    let some : 0 < length c.args.file.now = grind (arith, nat_tests) in
    let end = rw c.first_line_feed.ensures.place at c.unwrap_or-end.ensures in
    rw (take_rest, c.without_return.ensures, c.min-rest.ensures) (first_line c.args.file.now c.unwrap_or-end.result some end)
