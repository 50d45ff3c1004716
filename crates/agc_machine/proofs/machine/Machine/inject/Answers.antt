use Rattle.std.proofs.Common.{ap, sym, ◌∙◌}
use Rattle.agc_machine.specs.State.{State}
use Rattle.agc_machine.specs.declared.answer.Stepped.{Stepped}
use Rattle.agc_machine.specs.declared.answer.Stepped.TheVariants as stepped
use Rattle.agc_machine.proofs.Replay.{live_happens}
use Rattle.agc_machine.proofs.machine.Machine.inject.Goals as goal

pub returns : goal.returns
returns c =
    let happens = live_happens c.args.self.now c.args.what c.requires.wants in
    let now = rw c.self.view_is at c.step.ensures.step in
    ap (λ (after : State × Stepped). (after.0, stepped.Quiet)) (now ∙ happens) ∙ sym happens
