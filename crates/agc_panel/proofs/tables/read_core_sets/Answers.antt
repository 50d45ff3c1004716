use Rattle.std.proofs.Common.{arith}
use Rattle.agc_panel.proofs.Entries.{filled}
use Rattle.agc_panel.specs.Tables.{nth_core_set}
use Rattle.agc_panel.specs.declared.core_set.CoreSet.TheVariants.{Free}
use Rattle.agc_panel.proofs.tables.read_core_sets.Goals as goal

pub returns : goal.returns
returns c = filled Free c.args.sets (nth_core_set c.args.store.now c.args.start) c.loop-k.core_sets (omega arith) (λ k h. c.loop-k.invariant.done k (omega arith))
