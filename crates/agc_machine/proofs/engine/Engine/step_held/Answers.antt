use Rattle.std.proofs.Common.{◌<◌, ◌∙◌, sym, arith}
use Rattle.agc_machine.specs.Engine.{state_of}
use Rattle.agc_machine.proofs.Stillness.{interrupt_step}
use Rattle.agc_machine.proofs.engine.Engine.step_held.Goals as goal

pub returns-in-Some-clause-step : goal.returns-in-Some-clause-step
returns-in-Some-clause-step c =
    let some : 0 < c.args.self.now.quiet_until = omega arith in
    c.take_interrupt.ensures.step
    ∙ sym (interrupt_step c.args.self.now.quiet_until (state_of c.args.self.now) c.in-Some.rupt (c.requires.sound.quiet some) c.requires.quiet (sym c.in-Some.ensures))
