use Rattle.agc_trace.proofs.Forward.{trace_goes_forward}
use Rattle.agc_trace.proofs.laws.a_trace_never_goes_back.Goals as goal

pub returns : goal.returns
returns c = trace_goes_forward
