use Rattle.std.proofs.Common.{rules}
use Rattle.agc_panel.proofs.ShownLemmas.{states_of_same}
use Rattle.agc_panel.proofs.alike.are_same_lamps.Goals as goal

pub returns : goal.returns
returns c = states_of_same c.args.one c.args.other _ (search rules) (search rules) c.eq.ensures
