use Rattle.agc_processor.proofs.Rows.{basic_changes, extracode_changes}
use Rattle.agc_processor.proofs.laws.orders.orders_change_their_row.Goals as goal

pub returns-clause-basic : goal.returns-clause-basic
returns-clause-basic c = basic_changes

pub returns-clause-extracode : goal.returns-clause-extracode
returns-clause-extracode c = extracode_changes
