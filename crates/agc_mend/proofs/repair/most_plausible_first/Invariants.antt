use Rattle.std.specs.Prelude.{◌≡◌}
use Rattle.agc_mend.specs.Repair.{most_plausible_first}
use Rattle.agc_mend.proofs.repair.most_plausible_first.Given as goal

abbrev pub invariant-loop-below : goal.invariant-loop-below
invariant-loop-below l = l.sorted.items ≡ most_plausible_first l.below l.repairs
