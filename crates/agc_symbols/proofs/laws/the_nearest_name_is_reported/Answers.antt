use Rattle.agc_symbols.proofs.Nearests.{nearest_is}
use Rattle.agc_symbols.proofs.laws.the_nearest_name_is_reported.Goals as goal

pub returns : goal.returns
returns c = nearest_is
