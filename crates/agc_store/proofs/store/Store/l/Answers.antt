use Rattle.std.proofs.Common.{◌∙◌}
use Rattle.agc_store.specs.Registers.{register}
use Rattle.agc_store.proofs.Kept.{narrow_of-l}
use Rattle.agc_store.proofs.store.Store.l.Goals as goal

pub returns : goal.returns
unfolding register
returns c = rw (← c.self.view_is) (c.narrow.ensures ∙ narrow_of-l _ _ c.self.invariant.0)
