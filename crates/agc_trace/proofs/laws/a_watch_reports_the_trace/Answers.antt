use Rattle.agc_trace.proofs.Watches.{watch_reports_trace}
use Rattle.agc_trace.proofs.laws.a_watch_reports_the_trace.Goals as goal

pub returns : goal.returns
returns c = watch_reports_trace
