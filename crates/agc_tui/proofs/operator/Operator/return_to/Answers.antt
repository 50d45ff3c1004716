use Rattle.std.proofs.Common.{refl}
use Rattle.agc_tui.proofs.operator.Operator.return_to.Goals as goal

pub returns-then-is_new-clause-cut : goal.returns-then-is_new-clause-cut
returns-then-is_new-clause-cut c e = c.rewind-operator.ensures.cut c.if-is_new.true

pub returns-then-is_new-clause-rerun : goal.returns-then-is_new-clause-rerun
returns-then-is_new-clause-rerun c e = record { rerun = _; begun = refl; to = refl; with_events = refl }
