use Rattle.agc_machine.proofs.Replay.{boundary_shows}
use Rattle.agc_machine.proofs.machine.Machine.step.Goals as goal

pub returns-clause-channel : goal.returns-clause-channel
returns-clause-channel c = boundary_shows c.pressed_live.result _ _ c.step.ensures.step
