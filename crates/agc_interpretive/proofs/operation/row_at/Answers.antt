use Rattle.agc_interpretive.specs.Operation.{operations, row_at}
use Rattle.agc_interpretive.proofs.operation.row_at.Goals as goal

pub returns-clause-name : goal.returns-clause-name
unfolding row_at operations
returns-clause-name c = c.row_in.ensures.name

pub returns-clause-code : goal.returns-clause-code
unfolding row_at operations
returns-clause-code c = c.row_in.ensures.code

pub returns-clause-form : goal.returns-clause-form
unfolding row_at operations
returns-clause-form c = c.row_in.ensures.form
