use Rattle.agc_interpretive.specs.Jump.{entry_in, unajump}
use Rattle.agc_interpretive.proofs.pair.unajump.Goals as goal

pub returns : goal.returns
unfolding entry_in unajump
returns c = c.text_in.ensures
