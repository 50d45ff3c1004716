use Rattle.std.proofs.Common.{◌≡◌, false, subst, sym}
use Rattle.agc_machine.proofs.Fresh.{sound_until}
use Rattle.agc_machine.specs.State.{State}
use Rattle.agc_machine.proofs.machine.Machine.until.Goals as goal

pub invariant_of-self : goal.invariant_of-self
invariant_of-self c =
    sound_until _ _ c.self.invariant (subst (λ (s : State). s.begun ≡ false) (sym c.self.view_is) c.requires)
