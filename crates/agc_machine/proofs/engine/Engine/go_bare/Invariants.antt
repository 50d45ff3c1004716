use Rattle.std.proofs.Common.{◌≡◌, ◌<◌, ◌≤◌}
use Rattle.agc_machine.specs.Engine.{engine_at, state_of, IsSound}
use Rattle.agc_machine.specs.Run.{boundaries_left, next_before}
use Rattle.agc_machine.specs.declared.quiet.Pace.TheVariants as pace
use Rattle.agc_machine.proofs.engine.Engine.go_bare.Given as goal

-- at the cycle that the loop counts the machine is sound and calm, and where its way ends is where
-- the one that is sought ends
abbrev pub invariant-loop-next : goal.invariant-loop-next
invariant-loop-next l =
    IsSound (engine_at l.cycle l.self) × (next_before l.fn.end (state_of (engine_at l.cycle l.self)) ≡ next_before l.fn.end (state_of l.initial.self))
    × (l.cycle < l.self.quiet_until) × (l.fn.end ≤ l.self.quiet_until) × (l.self.pace ≡ pace.Bare)

abbrev pub decreases-loop-next : goal.decreases-loop-next
decreases-loop-next l = boundaries_left (state_of (engine_at l.cycle l.self))
