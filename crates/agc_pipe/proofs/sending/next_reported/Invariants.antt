use Rattle.std.proofs.Common.{◌≡◌}
use Rattle.agc_machine.specs.Run.{boundaries_left, next_of}
use Rattle.agc_pipe.proofs.sending.next_reported.Given as goal

abbrev pub invariant-loop-machine : goal.invariant-loop-machine
invariant-loop-machine g l = next_of l.machine ≡ next_of l.initial.machine

abbrev pub decreases-loop-machine : goal.decreases-loop-machine
decreases-loop-machine g l = boundaries_left l.machine
