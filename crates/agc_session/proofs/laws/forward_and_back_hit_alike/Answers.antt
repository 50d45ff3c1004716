use Rattle.agc_session.proofs.Alike.{at_last, at_next}
use Rattle.agc_session.proofs.laws.forward_and_back_hit_alike.Goals as goal

pub returns-clause-next : goal.returns-clause-next
returns-clause-next c = at_next

pub returns-clause-last : goal.returns-clause-last
returns-clause-last c = at_last
