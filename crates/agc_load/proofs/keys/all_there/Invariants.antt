use Rattle.std.proofs.Common.{◌≡◌, take}
use Rattle.std.specs.Prelude.{Some}
use Rattle.agc_load.specs.Keys.{all_there}
use Rattle.agc_load.proofs.keys.all_there.Given as goal

abbrev pub invariant-loop-key : goal.invariant-loop-key
invariant-loop-key l = all_there (take l.key-index l.found) ≡ Some l.keys.items
