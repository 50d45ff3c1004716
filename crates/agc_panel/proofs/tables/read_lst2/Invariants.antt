use Rattle.std.proofs.Common.{◌≡◌, ◌<◌, ℕ, get_or, length}
use Rattle.agc_store.specs.Memory.{nothing}
use Rattle.agc_panel.specs.Tables.{nth_task}
use Rattle.agc_panel.specs.WatchSpec.{lst2_tasks}
use Rattle.agc_panel.specs.declared.tables.Task.{Task}
use Rattle.agc_panel.proofs.tables.read_lst2.Given as goal

abbrev pub no_task : Task
no_task = record { address = nothing; bbcon = nothing }

abbrev pub invariant-loop-k : goal.invariant-loop-k
invariant-loop-k l = record {
  long : length l.tasks ≡ lst2_tasks;
  done : (k : ℕ) → k < l.k → get_or l.tasks k no_task ≡ nth_task l.store l.start k;
}
