use Rattle.std.proofs.Common.{arith}
use Rattle.agc_panel.proofs.Entries.{filled_up}
use Rattle.agc_panel.specs.Tables.{nth_task}
use Rattle.agc_panel.proofs.tables.read_lst2.Invariants.{no_task}
use Rattle.agc_panel.proofs.tables.read_lst2.Goals as goal

pub returns : goal.returns
returns c = filled_up no_task 9 (nth_task c.args.store.now c.args.start) c.loop-k.tasks c.loop-k.invariant.long (λ k h. c.loop-k.invariant.done k (omega arith))
