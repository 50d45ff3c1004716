use Rattle.agc_profile.proofs.Reported.{reported_is_trace}
use Rattle.agc_profile.proofs.laws.the_boundaries_are_the_trace.Goals as goal

pub returns : goal.returns
returns c = reported_is_trace
