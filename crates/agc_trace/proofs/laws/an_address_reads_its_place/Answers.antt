use Rattle.agc_trace.proofs.BareLines.{reads_place}
use Rattle.agc_trace.proofs.laws.an_address_reads_its_place.Goals as goal

pub returns : goal.returns
returns c = reads_place
