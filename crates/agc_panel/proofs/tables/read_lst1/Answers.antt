use Rattle.std.proofs.Common.{arith}
use Rattle.agc_store.specs.Memory.{nothing}
use Rattle.agc_panel.proofs.Entries.{filled_up}
use Rattle.agc_panel.specs.Tables.{nth_time}
use Rattle.agc_panel.proofs.tables.read_lst1.Goals as goal

pub returns : goal.returns
returns c = filled_up nothing 8 (nth_time c.args.store.now c.args.start) c.loop-k.times c.loop-k.invariant.long (λ k h. c.loop-k.invariant.done k (omega arith))
