use Rattle.agc_tui.specs.Operator.{Keeps}
use Rattle.agc_tui.proofs.operator.Operator.take_events.Given as goal

abbrev pub invariant-loop-event : goal.invariant-loop-event
invariant-loop-event l = Keeps l.initial.self.session l.self.session
