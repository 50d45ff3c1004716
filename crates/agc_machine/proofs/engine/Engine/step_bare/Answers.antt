use Rattle.std.proofs.Common.{◌<◌, ◌∙◌, sym, arith}
use Rattle.agc_machine.specs.Engine.{state_of}
use Rattle.agc_machine.proofs.Stillness.{bare_step}
use Rattle.agc_machine.proofs.engine.Engine.step_bare.Goals as goal

pub returns-clause-step : goal.returns-clause-step
returns-clause-step c =
    let some : 0 < c.args.self.now.quiet_until = omega arith in
    c.run_order.ensures.step ∙ sym (bare_step c.args.self.now.quiet_until (state_of c.args.self.now) (c.requires.sound.quiet some) c.requires.quiet (rw c.requires.pace at c.requires.sound.pace some))
