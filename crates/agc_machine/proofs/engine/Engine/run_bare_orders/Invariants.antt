use Rattle.std.proofs.Common.{◌≡◌, ◌<◌, ◌≤◌}
use Rattle.agc_machine.specs.Engine.{engine_at, state_of, IsSound}
use Rattle.agc_machine.specs.Run.{boundaries_left}
use Rattle.agc_machine.specs.declared.quiet.Pace.TheVariants as pace
use Rattle.agc_machine.proofs.Orders.{IsRunningOrders}
use Rattle.agc_machine.proofs.engine.Engine.run_bare_orders.Given as goal

-- at the cycle that the loop counts the machine is sound and calm, and the orders so far led there
abbrev pub invariant-loop-next : goal.invariant-loop-next
invariant-loop-next l = record {
  sound : IsSound (engine_at l.cycle l.self);
  way : IsRunningOrders l.fn.watch l.fn.end (state_of l.initial.self) (state_of (engine_at l.cycle l.self));
  quiet : l.cycle < l.self.quiet_until;
  end : l.fn.end ≤ l.self.quiet_until;
  pace : l.self.pace ≡ pace.Bare;
}

abbrev pub decreases-loop-next : goal.decreases-loop-next
decreases-loop-next l = boundaries_left (state_of (engine_at l.cycle l.self))
