use Rattle.agc_tui.proofs.operator.Operator.back_to_last.Goals as goal

pub returns-then-is_new-clause-back : goal.returns-then-is_new-clause-back
returns-then-is_new-clause-back g c = c.back_to_events-operator.ensures.back c.if-is_new.true
