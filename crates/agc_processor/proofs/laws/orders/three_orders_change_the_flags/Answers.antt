use Rattle.agc_processor.proofs.Still.{basic_inhibited, basic_serving, extracode_flags}
use Rattle.agc_processor.proofs.laws.orders.three_orders_change_the_flags.Goals as goal

pub returns-clause-inhibited : goal.returns-clause-inhibited
returns-clause-inhibited c = basic_inhibited

pub returns-clause-serving : goal.returns-clause-serving
returns-clause-serving c = basic_serving

pub returns-clause-extracode : goal.returns-clause-extracode
returns-clause-extracode c = extracode_flags
