use Rattle.std.proofs.Common.{refl}
use Rattle.agc_machine.proofs.Fresh.{sound_resumed}
use Rattle.agc_machine.proofs.machine.Machine.resume_with.Goals as goal

pub invariant_of-result : goal.invariant_of-result
invariant_of-result c = sound_resumed c.self.inside.engine _ c.self.invariant c.requires refl refl
