use Rattle.agc_store.proofs.Woven.{fixed_at_read}
use Rattle.agc_store.proofs.rope.Rope.word.Goals as goal

pub returns-clause-word : goal.returns-clause-word
returns-clause-word c = rw (← c.self.view_is) (fixed_at_read _ _ _ c.self.invariant c.requires c.index-word.ensures)
