use Rattle.agc_ring.proofs.Ends.{all_outside}
use Rattle.agc_ring.proofs.receiver.Receiver.next_items.Goals as goal

pub returns-clause-outside : goal.returns-clause-outside
returns-clause-outside c = all_outside _ _ c.pop_partial_slice.ensures.allowed
