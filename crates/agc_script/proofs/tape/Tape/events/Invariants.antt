use Rattle.std.specs.Prelude.{◌≡◌, map, take}
use Rattle.agc_script.specs.Merge.{key_event}
use Rattle.agc_script.proofs.tape.Tape.events.Given as goal

abbrev pub invariant-loop-cycle : goal.invariant-loop-cycle
invariant-loop-cycle l = l.events.items ≡ map key_event (take l.cycle-index l.entries)
