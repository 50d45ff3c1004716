use Rattle.std.proofs.Common.{◌≡◌, ◌<◌, ◌≤◌, None}
use Rattle.agc_machine.specs.Engine.{engine_at, state_of, IsSound}
use Rattle.agc_machine.specs.Run.{boundaries_left, next_before}
use Rattle.agc_machine.proofs.engine.Engine.go_held_off.Given as goal

-- at the cycle that the loop counts the machine is sound and calm, and where its way ends is where
-- the one that is sought ends
abbrev pub invariant-loop-self : goal.invariant-loop-self
invariant-loop-self l =
    IsSound (engine_at l.cycle l.self) × (next_before l.fn.end (state_of (engine_at l.cycle l.self)) ≡ next_before l.fn.end (state_of l.initial.self))
    × (l.cycle < l.self.quiet_until) × (l.fn.end ≤ l.self.quiet_until) × (l.self.until ≡ None)

abbrev pub decreases-loop-self : goal.decreases-loop-self
decreases-loop-self l = boundaries_left (state_of (engine_at l.cycle l.self))
