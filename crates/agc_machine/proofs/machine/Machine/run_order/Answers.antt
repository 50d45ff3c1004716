use Rattle.std.proofs.Common.{◌≡◌, IfSome, None, Option, Some}
use Rattle.agc_machine.specs.Boundary.{boundary}
use Rattle.agc_machine.specs.Laws.{HasChannel}
use Rattle.agc_machine.specs.State.{State}
use Rattle.agc_machine.specs.declared.answer.Stepped.{Stepped}
use Rattle.agc_machine.specs.declared.upcoming.InHand.{InHand}
use Rattle.agc_machine.proofs.Replay.{boundary_shows}
use Rattle.agc_machine.proofs.machine.Machine.run_order.Goals as goal

shows : (ran : Option (InHand × Stepped)) (s t : State) → IfSome ran (λ x. (t, x.1) ≡ boundary None s) → IfSome ran (λ x. HasChannel x.1)
shows (Some x) s t e = boundary_shows None _ _ e
shows None s t e = e

pub returns-clause-channel : goal.returns-clause-channel
returns-clause-channel c = shows c.run_order_if_bare.result _ _ c.run_order_if_bare.ensures.ran
