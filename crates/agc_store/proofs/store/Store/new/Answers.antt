use Rattle.std.proofs.Common.{refl}
use Rattle.agc_store.proofs.Kept.{start_registers, start_places}
use Rattle.agc_store.proofs.store.Store.new.Goals as goal

pub invariant_of-result : goal.invariant_of-result
invariant_of-result c = rw c.cleared.ensures (start_registers 2048 refl, start_places 2048)
