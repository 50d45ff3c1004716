use Rattle.std.proofs.Common.{◌<◌, ◌∙◌, sym, arith}
use Rattle.agc_machine.specs.Engine.{state_of}
use Rattle.agc_machine.proofs.Stillness.{order_step, reached_step}
use Rattle.agc_machine.proofs.engine.Engine.step_watched.Goals as goal

pub returns-then-is_reached-clause-step : goal.returns-then-is_reached-clause-step
returns-then-is_reached-clause-step c =
    let some : 0 < c.args.self.now.quiet_until = omega arith in
    c.stop.ensures.step ∙ sym (reached_step c.args.self.now.quiet_until (state_of c.args.self.now) (c.requires.sound.quiet some) c.requires.quiet c.requires.uninterrupted (sym c.if-is_reached.ensures))

pub returns-clause-step : goal.returns-clause-step
returns-clause-step c =
    let some : 0 < c.args.self.now.quiet_until = omega arith in
    c.run_order.ensures.step ∙ sym (order_step c.args.self.now.quiet_until (state_of c.args.self.now) (c.requires.sound.quiet some) c.requires.quiet c.requires.uninterrupted (sym c.if-is_reached.ensures))
