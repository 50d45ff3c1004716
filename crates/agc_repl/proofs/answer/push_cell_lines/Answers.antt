use Rattle.std.proofs.Common.{arith}
use Rattle.agc_repl.specs.Answer.{cell_line}
use Rattle.agc_repl.proofs.Cells.{lines_with}
use Rattle.agc_repl.proofs.answer.push_cell_lines.Goals as goal

pub loop-cell-preserved : goal.loop-cell-preserved
loop-cell-preserved c =
    lines_with (cell_line c.args.style c.args.store.now) c.args.first c.loop-cell.cell _ _ _ (omega arith) c.loop-cell.invariant c.in_ok-push_cell_line.ensures
