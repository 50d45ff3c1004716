use Rattle.agc_interpretive.specs.Jump.{entry_in, miscjump}
use Rattle.agc_interpretive.proofs.pair.miscjump.Goals as goal

pub returns : goal.returns
unfolding entry_in miscjump
returns c = c.text_in.ensures
