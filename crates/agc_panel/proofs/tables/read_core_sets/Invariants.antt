use Rattle.std.proofs.Common.{◌≡◌, ◌<◌, ℕ, get_or, length}
use Rattle.agc_panel.specs.declared.core_set.CoreSet.TheVariants.{Free}
use Rattle.agc_panel.specs.Tables.{nth_core_set}
use Rattle.agc_panel.specs.WatchSpec.{most_sets}
use Rattle.agc_panel.proofs.tables.read_core_sets.Given as goal

abbrev pub invariant-loop-k : goal.invariant-loop-k
invariant-loop-k l = record {
  long : length l.core_sets ≡ most_sets;
  done : (k : ℕ) → k < l.k → get_or l.core_sets k Free ≡ nth_core_set l.store l.start k;
}
