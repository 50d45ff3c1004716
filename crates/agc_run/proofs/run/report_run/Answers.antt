use Rattle.agc_machine.specs.Run.{run_of}
use Rattle.agc_run.proofs.Channels.{run_in_range}
use Rattle.agc_run.proofs.run.report_run.Goals as goal

pub report_shown-requires-clause-channels : goal.report_shown-requires-clause-channels
report_shown-requires-clause-channels g c = rw c.in-Ok.ensures.shown.log (run_in_range c.args.machine)

pub returns-in-Ok-clause-report : goal.returns-in-Ok-clause-report
returns-in-Ok-clause-report g c = c.report_shown.ensures (run_of c.args.machine) c.in-Ok.ensures.shown
