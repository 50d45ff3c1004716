use Rattle.agc_trace.proofs.BareLines.{bare_line}
use Rattle.agc_trace.proofs.laws.a_form_without_names_changes_no_line.Goals as goal

pub returns : goal.returns
returns c = bare_line
