use Rattle.agc_tui.proofs.Operators.{same_session}
use Rattle.agc_tui.proofs.operator.Operator.rewind.Goals as goal

pub returns-in-Ok-clause-cut : goal.returns-in-Ok-clause-cut
returns-in-Ok-clause-cut c e =
    let at = c.in-Ok.ensures in
    record {
      base = at.base;
      retained = at.retained;
      script = at.script;
      again = at.again;
      injected = at.injected;
      writes = c.in-Ok.rewound.writes;
      run = at.way.on_run;
    }

pub returns-in-Err-clause-memory : goal.returns-in-Err-clause-memory
returns-in-Err-clause-memory c e = same_session c.args.self _ c.in-Err.ensures.err
