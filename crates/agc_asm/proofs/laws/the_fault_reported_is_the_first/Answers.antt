use Rattle.agc_asm.proofs.FirstFaults.{first_reported, listing_first, source_first}
use Rattle.agc_asm.proofs.laws.the_fault_reported_is_the_first.Goals as goal

pub returns-clause-source : goal.returns-clause-source
returns-clause-source c = source_first

pub returns-clause-only : goal.returns-clause-only
returns-clause-only c = first_reported

pub returns-clause-listing : goal.returns-clause-listing
returns-clause-listing c = listing_first
