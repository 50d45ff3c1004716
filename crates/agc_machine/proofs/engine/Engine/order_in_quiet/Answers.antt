use Rattle.std.proofs.Common.{◌<◌, ◌∙◌, sym, arith}
use Rattle.agc_machine.specs.Engine.{engine_at, state_of}
use Rattle.agc_machine.proofs.Stillness.{order_step}
use Rattle.agc_machine.proofs.engine.Engine.order_in_quiet.Goals as goal

pub returns-clause-step : goal.returns-clause-step
returns-clause-step c =
    let some : 0 < c.args.self.now.quiet_until = omega arith in
    c.order_at.ensures.step ∙ sym (order_step c.args.self.now.quiet_until (state_of (engine_at c.args.cycle c.args.self.now)) (c.requires.sound.quiet some) c.requires.quiet c.requires.uninterrupted c.requires.unreached)
