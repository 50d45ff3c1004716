-- The names of the stops, as all texts print them.
use Rattle.std.specs.Prelude.{ℕ, List, codes}
use Rattle.agc_machine.specs.declared.answer.Stop.{Stop}
use Rattle.agc_machine.specs.declared.answer.Stop.TheVariants as stop

unfoldable pub stop_name : Stop → List ℕ
stop_name stop.Limit = codes "Limit"
stop_name stop.DivisionUndefined = codes "DivisionUndefined"
stop_name stop.Edrupt = codes "Edrupt"
stop_name stop.Reached = codes "Reached"
