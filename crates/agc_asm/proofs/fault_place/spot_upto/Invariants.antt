use Rattle.agc_asm.specs.FaultPlace.{IsWordOf}
use Rattle.agc_asm.proofs.fault_place.spot_upto.Given as goal

abbrev pub invariant-loop : goal.invariant-loop
invariant-loop l = IsWordOf l.fn.line l.spot
