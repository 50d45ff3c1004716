use Rattle.agc_machine.specs.Run.{boundaries_left}
use Rattle.agc_diff.proofs.Followed.{HasRun}
use Rattle.agc_diff.proofs.cursor.run_out.Given as goal

-- the writes so far, and the panel with them
abbrev pub invariant-loop-write : goal.invariant-loop-write
invariant-loop-write g l = HasRun l.initial.panel l.initial.machine l.panel l.machine

abbrev pub decreases-loop-write : goal.decreases-loop-write
decreases-loop-write g l = boundaries_left l.machine
