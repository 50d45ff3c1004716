use Rattle.std.proofs.Common.{refl}
use Rattle.agc_interpretive.specs.Jump.{indjump, miscjump, name_in, shortt, unajump, entry_in}
use Rattle.agc_interpretive.specs.Operation.{operations}
use Rattle.agc_interpretive.proofs.pair.operations_are_decoded.Goals as goal

pub returns : goal.returns
unfolding name_in entry_in indjump miscjump shortt unajump operations
returns c = refl
