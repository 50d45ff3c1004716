use Rattle.agc_trace.proofs.Forward.{entry_is_reported}
use Rattle.agc_trace.proofs.laws.an_entry_reports_its_boundary.Goals as goal

pub returns : goal.returns
returns c = entry_is_reported
