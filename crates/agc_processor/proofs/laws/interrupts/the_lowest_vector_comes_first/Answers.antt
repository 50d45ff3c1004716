use Rattle.agc_processor.proofs.First.{pending_first, pending_open, pending_none}
use Rattle.agc_processor.proofs.laws.interrupts.the_lowest_vector_comes_first.Goals as goal

pub returns-clause-first : goal.returns-clause-first
returns-clause-first c = pending_first

pub returns-clause-held : goal.returns-clause-held
returns-clause-held c = pending_open

pub returns-clause-none : goal.returns-clause-none
returns-clause-none c = pending_none
