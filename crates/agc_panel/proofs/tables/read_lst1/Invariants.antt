use Rattle.std.proofs.Common.{◌≡◌, ◌<◌, ℕ, get_or, length}
use Rattle.agc_store.specs.Memory.{nothing}
use Rattle.agc_panel.specs.Tables.{nth_time}
use Rattle.agc_panel.specs.WatchSpec.{lst1_cells}
use Rattle.agc_panel.proofs.tables.read_lst1.Given as goal

abbrev pub invariant-loop-k : goal.invariant-loop-k
invariant-loop-k l = record {
  long : length l.times ≡ lst1_cells;
  done : (k : ℕ) → k < l.k → get_or l.times k nothing ≡ nth_time l.store l.start k;
}
