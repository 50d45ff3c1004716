use Rattle.std.proofs.Common.{ap, arith}
use Rattle.agc_machine.specs.State.{State}
use Rattle.agc_machine.specs.declared.answer.Stepped.{Stepped}
use Rattle.agc_profile.proofs.Room.{goes_on}
use Rattle.agc_profile.proofs.step.next_passage.Goals as goal

pub overflow_sub-result : goal.overflow_sub-result
overflow_sub-result c =
    omega (
      arith,
      c.cycle-cycle.ensures.cycle,
      c.cycle.ensures.cycle,
      goes_on _ _ (ap (λ (r : State × Stepped). r.0) c.step.ensures.boundary),
    )

pub returns-clause-cycles : goal.returns-clause-cycles
returns-clause-cycles c =
    omega (
      arith,
      c.cycle-cycle.ensures.cycle,
      c.cycle.ensures.cycle,
      goes_on _ _ (ap (λ (r : State × Stepped). r.0) c.step.ensures.boundary),
    )
