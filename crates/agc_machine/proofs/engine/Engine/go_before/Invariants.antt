use Rattle.std.proofs.Common.{◌≡◌}
use Rattle.agc_machine.specs.Engine.{state_of, IsSound}
use Rattle.agc_machine.specs.Run.{boundaries_left, next_before}
use Rattle.agc_machine.proofs.engine.Engine.go_before.Given as goal

-- the machine is sound, and where its way ends is where the one that is sought ends
abbrev pub invariant-loop-self : goal.invariant-loop-self
invariant-loop-self l = IsSound l.self × (next_before l.fn.cycle (state_of l.self) ≡ next_before l.fn.cycle (state_of l.initial.self))

abbrev pub decreases-loop-self : goal.decreases-loop-self
decreases-loop-self l = boundaries_left (state_of l.self)
