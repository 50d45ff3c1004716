use Rattle.agc_processor.proofs.Extends.{order_leaves}
use Rattle.agc_processor.proofs.laws.orders.extend_lasts_one_order.Goals as goal

pub returns : goal.returns
returns c = order_leaves
