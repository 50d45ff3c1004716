use Rattle.agc_machine.specs.Run.{boundaries_left}
use Rattle.agc_quantities.specs.Due.{is_due}
use Rattle.agc_quantities.specs.Walk.{IsFirst}
use Rattle.agc_quantities.proofs.sampler.go_to_due.Given as goal

-- no state so far was due
abbrev pub invariant-loop-machine : goal.invariant-loop-machine
invariant-loop-machine g l = IsFirst (is_due l.plan l.last) l.fn.machine l.machine

abbrev pub decreases-loop-machine : goal.decreases-loop-machine
decreases-loop-machine g l = boundaries_left l.machine
