use Rattle.agc_symbols.proofs.NamesRead.{names_read}
use Rattle.agc_symbols.proofs.laws.written_names_are_read.Goals as goal

pub returns : goal.returns
returns c = names_read
