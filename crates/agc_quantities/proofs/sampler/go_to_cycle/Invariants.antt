use Rattle.agc_machine.specs.Run.{boundaries_left}
use Rattle.agc_quantities.specs.Walk.{IsFirst, has_reached}
use Rattle.agc_quantities.proofs.sampler.go_to_cycle.Given as goal

-- no state so far had reached the cycle
abbrev pub invariant-loop-machine : goal.invariant-loop-machine
invariant-loop-machine g l = IsFirst (has_reached l.cycle) l.initial.machine l.machine

abbrev pub decreases-loop-machine : goal.decreases-loop-machine
decreases-loop-machine g l = boundaries_left l.machine
