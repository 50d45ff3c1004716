use Rattle.agc_diff.proofs.Alike.{alike_in_print}
use Rattle.agc_diff.proofs.observed.observation.shows_panel.Goals as goal

pub returns-in-Panel : goal.returns-in-Panel
returns-in-Panel c = alike_in_print c.shows_same.result _ _ _ c.in-Panel.is c.shows_same.ensures
