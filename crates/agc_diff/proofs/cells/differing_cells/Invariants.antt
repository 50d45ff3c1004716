use Rattle.agc_diff.proofs.Memories.{ReportedBelow}
use Rattle.agc_diff.proofs.cells.differing_cells.Given as goal

-- the cells so far
abbrev pub invariant-loop-place : goal.invariant-loop-place
invariant-loop-place l = ReportedBelow l.place l.cells.items l.left l.right
