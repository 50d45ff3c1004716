use Rattle.agc_interpretive.specs.Jump.{entry_in, indjump}
use Rattle.agc_interpretive.proofs.pair.indjump.Goals as goal

pub returns : goal.returns
unfolding entry_in indjump
returns c = c.text_in.ensures
