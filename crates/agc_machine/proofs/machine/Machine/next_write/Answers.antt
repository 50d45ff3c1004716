use Rattle.agc_machine.proofs.Replay.{next_shows}
use Rattle.agc_machine.proofs.machine.Machine.next_write.Goals as goal

pub returns-clause-channel : goal.returns-clause-channel
returns-clause-channel c = next_shows _ _ c.next_write.ensures.next
