use Rattle.std.proofs.Common.{◌≡◌}
use Rattle.agc_machine.specs.Run.{boundaries_left}
use Rattle.agc_diff.specs.ObservedCursor.{shown_left}
use Rattle.agc_diff.proofs.observed.cursor.Cursor.next_shown.Given as goal

-- nothing has shown yet
abbrev pub invariant-loop-write : goal.invariant-loop-write
invariant-loop-write g l = shown_left l.what l.self.panel l.machine ≡ shown_left l.what l.initial.self.panel l.initial.machine

abbrev pub decreases-loop-write : goal.decreases-loop-write
decreases-loop-write g l = boundaries_left l.machine
