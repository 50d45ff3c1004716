use Rattle.std.proofs.Common.{refl}
use Rattle.agc_tui.proofs.Operators.{keeps_same}
use Rattle.agc_tui.proofs.operator.Operator.press.Goals as goal

pub returns-then-is_err : goal.returns-then-is_err
returns-then-is_err c = keeps_same _ _ refl
