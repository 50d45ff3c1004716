use Rattle.std.proofs.Common.{◌≡◌, ◌<◌, ◌≤◌}
use Rattle.agc_machine.specs.Engine.{state_of, IsSound}
use Rattle.agc_machine.specs.Idle.{Leads}
use Rattle.agc_machine.specs.declared.quiet.Pace.TheVariants as pace
use Rattle.agc_machine.proofs.engine.Engine.run_turn.Given as goal

-- still orders have led here, and the end is ahead
abbrev pub invariant-loop-order : goal.invariant-loop-order
invariant-loop-order l =
    IsSound l.self × Leads l.fn.end (state_of l.initial.self) (state_of l.self) × (l.self.cycle < l.fn.end) × (l.fn.end ≤ l.self.quiet_until)
    × (l.self.pace ≡ pace.Bare)
