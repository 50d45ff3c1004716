use Rattle.agc_tui.proofs.Operators.{keeps_run, keeps_then}
use Rattle.agc_tui.proofs.operator.Operator.seek.Goals as goal

pub returns-clause-sought : goal.returns-clause-sought
returns-clause-sought c = record {
  pressed = c.press_due.new.self.session;
  keeps = c.press_due.ensures.kept;
  end = c.next_pause-end.result;
  run = c.run_until.ensures;
  idle = λ i. (c.press_due.ensures.same i, c.next_pause-end.ensures (c.press_due.ensures.idle i));
}

pub returns-clause-kept : goal.returns-clause-kept
returns-clause-kept c =
    let run = c.run_until.ensures in
    keeps_then _ _ _ c.press_due.ensures.kept (keeps_run _ _ run.base run.retained run.script run.injected)
