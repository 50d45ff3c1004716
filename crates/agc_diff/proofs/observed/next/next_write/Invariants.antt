use Rattle.std.proofs.Common.{◌≡◌}
use Rattle.agc_machine.specs.Run.{boundaries_left, next_of}
use Rattle.agc_diff.proofs.observed.next.next_write.Given as goal

-- the write that is sought is still the next one
abbrev pub invariant-loop-write : goal.invariant-loop-write
invariant-loop-write g l = next_of l.machine ≡ next_of l.initial.machine

abbrev pub decreases-loop-write : goal.decreases-loop-write
decreases-loop-write g l = boundaries_left l.machine
