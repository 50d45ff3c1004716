use Rattle.agc_machine.proofs.Before.{before_shows}
use Rattle.agc_machine.proofs.machine.Machine.next_write_before.Goals as goal

pub returns-clause-channel : goal.returns-clause-channel
returns-clause-channel c = before_shows _ _ _ c.next_write_before.ensures.next
