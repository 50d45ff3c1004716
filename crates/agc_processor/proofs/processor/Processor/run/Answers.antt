use Rattle.agc_processor.proofs.Keeps.{basic_keeps_at, extracode_keeps_at}
use Rattle.agc_processor.proofs.processor.Processor.run.Goals as goal

pub returns-then-self-clause-keeps : goal.returns-then-self-clause-keeps
returns-then-self-clause-keeps c = extracode_keeps_at _ _ _ _ c.run_extracode.ensures.effect

pub returns-else-self-clause-keeps : goal.returns-else-self-clause-keeps
returns-else-self-clause-keeps c = basic_keeps_at _ _ _ c.run_basic.ensures.effect
