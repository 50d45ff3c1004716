use Rattle.agc_processor.proofs.Fixed.{order_fixed}
use Rattle.agc_processor.proofs.laws.orders.orders_keep_the_fixed_words.Goals as goal

pub returns : goal.returns
returns c = order_fixed
