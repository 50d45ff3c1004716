use Rattle.agc_interpretive.specs.Jump.{entry_in, shortt}
use Rattle.agc_interpretive.proofs.pair.shortt.Goals as goal

pub returns : goal.returns
unfolding entry_in shortt
returns c = c.text_in.ensures
