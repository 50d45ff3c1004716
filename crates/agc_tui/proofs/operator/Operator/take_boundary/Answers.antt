use Rattle.std.proofs.Common.{refl}
use Rattle.agc_tui.proofs.Operators.{keeps_gone, keeps_same}
use Rattle.agc_tui.proofs.operator.Operator.take_boundary.Goals as goal

pub returns-then-has_stopped : goal.returns-then-has_stopped
returns-then-has_stopped c = keeps_same _ _ refl

pub returns : goal.returns
returns c = keeps_gone _ _ _ _ c.step.ensures.gone
