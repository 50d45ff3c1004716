use Rattle.agc_trace.proofs.Stops.{trace_ends}
use Rattle.agc_trace.proofs.laws.a_trace_ends_with_the_stop.Goals as goal

pub returns : goal.returns
returns c = trace_ends
