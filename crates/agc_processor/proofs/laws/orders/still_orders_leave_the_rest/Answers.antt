use Rattle.agc_processor.proofs.Contexts.{same_processor, still_keeps}
use Rattle.agc_processor.proofs.laws.orders.still_orders_leave_the_rest.Goals as goal

pub returns-clause-keeps : goal.returns-clause-keeps
returns-clause-keeps c = still_keeps

pub returns-clause-whole : goal.returns-clause-whole
returns-clause-whole c = same_processor
