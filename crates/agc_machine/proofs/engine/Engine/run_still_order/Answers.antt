use Rattle.std.proofs.Common.{◌<◌, arith}
use Rattle.agc_machine.specs.Engine.{state_of}
use Rattle.agc_machine.proofs.Turns.{never_stops, never_writes, order_is_short, order_leads, order_rises}
use Rattle.agc_machine.proofs.engine.Engine.run_still_order.Goals as goal

pub unreachable-requires : goal.unreachable-requires
unreachable-requires c =
    let some : 0 < c.args.self.now.quiet_until = omega arith in
    let step = rw c.in-Wrote.is at c.step_bare.ensures.step in
    never_writes c.args.self.now.quiet_until (state_of c.args.self.now) _ _ (c.requires.sound.quiet some)
    (rw c.requires.pace at c.requires.sound.pace some) c.requires.still (omega arith) step

pub unreachable-requires-in-Stopped : goal.unreachable-requires-in-Stopped
unreachable-requires-in-Stopped c =
    let some : 0 < c.args.self.now.quiet_until = omega arith in
    let step = rw c.in-Stopped.is at c.step_bare.ensures.step in
    never_stops c.args.self.now.quiet_until (state_of c.args.self.now) _ _ (c.requires.sound.quiet some)
    (rw c.requires.pace at c.requires.sound.pace some) c.requires.still (omega arith) step

pub returns-clause-leads : goal.returns-clause-leads
returns-clause-leads c =
    let some : 0 < c.args.self.now.quiet_until = omega arith in
    λ s h. order_leads c.args.end c.args.self.now.quiet_until s (state_of c.args.self.now) (state_of c.step_bare.new.self) h c.requires.end (c.requires.sound.quiet some)
    (rw c.requires.pace at c.requires.sound.pace some) c.requires.still (omega arith) c.in-Quiet.ensures.step

pub returns-clause-rises : goal.returns-clause-rises
returns-clause-rises c =
    let some : 0 < c.args.self.now.quiet_until = omega arith in
    order_rises c.args.end c.args.self.now.quiet_until (state_of c.args.self.now) (state_of c.step_bare.new.self) c.requires.end (c.requires.sound.quiet some)
    (rw c.requires.pace at c.requires.sound.pace some) c.requires.still (omega arith) c.in-Quiet.ensures.step

pub returns-clause-before : goal.returns-clause-before
returns-clause-before c =
    let some : 0 < c.args.self.now.quiet_until = omega arith in
    let short = order_is_short c.args.end c.args.self.now.quiet_until (state_of c.args.self.now) (state_of c.step_bare.new.self) c.requires.end (c.requires.sound.quiet some)
    (rw c.requires.pace at c.requires.sound.pace some) c.requires.still (omega arith) c.in-Quiet.ensures.step in
    omega (arith, short, c.requires.room)
