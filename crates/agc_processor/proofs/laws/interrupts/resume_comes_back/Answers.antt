use Rattle.agc_processor.proofs.Returns.{comes_back}
use Rattle.agc_processor.proofs.laws.interrupts.resume_comes_back.Goals as goal

pub returns : goal.returns
returns c = comes_back
