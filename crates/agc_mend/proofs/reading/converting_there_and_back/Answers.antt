use Rattle.agc_mend.proofs.Converted.{there_and_back}
use Rattle.agc_mend.proofs.reading.converting_there_and_back.Goals as goal

pub returns : goal.returns
returns c = there_and_back
