use Rattle.std.proofs.Common.{arith}
use Rattle.agc_timeline.proofs.Applied.{printed_is_applied, printed_is_the_tables, text_is_printed}
use Rattle.agc_timeline.proofs.change_laws.the_printed_lines_give_the_tables.Goals as goal

pub returns-clause-text : goal.returns-clause-text
returns-clause-text c = text_is_printed

pub returns-clause-changes : goal.returns-clause-changes
returns-clause-changes c = λ span spec s l. printed_is_applied span spec s (omega (arith, l))

pub returns-clause-tables : goal.returns-clause-tables
returns-clause-tables c = λ span spec s n cycle l from past to. printed_is_the_tables span spec s n cycle (omega (arith, l)) from past to
