use Rattle.std.proofs.Common.{refl}
use Rattle.agc_tui.proofs.Operators.{keeps_same, keeps_then}
use Rattle.agc_tui.proofs.operator.Operator.take_events.Goals as goal

pub loop-event-init : goal.loop-event-init
loop-event-init c = keeps_same _ _ refl

pub loop-event-preserved : goal.loop-event-preserved
loop-event-preserved c = keeps_then _ _ _ c.loop-event.invariant c.take_boundary.ensures
