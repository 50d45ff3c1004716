use Rattle.std.proofs.Common.{◌<◌, ◌∙◌, refl, sym, arith}
use Rattle.agc_machine.specs.Engine.{engine_at, state_of}
use Rattle.agc_machine.proofs.Chain.{fewer_after_quiet}
use Rattle.agc_machine.proofs.Orders.{at_order, run_ends, run_goes_on, run_starts}
use Rattle.agc_machine.proofs.Stillness.{none_pending}
use Rattle.agc_machine.proofs.engine.Engine.run_bare_orders.Goals as goal

pub loop-next-init : goal.loop-next-init
loop-next-init c = record {
  sound = c.requires.sound;
  way = run_starts c.args.watch.now c.args.end (state_of c.args.self.now);
  quiet = c.requires.quiet;
  end = c.requires.end;
  pace = c.requires.pace;
}

pub order_in_quiet-requires-clause-uninterrupted : goal.order_in_quiet-requires-clause-uninterrupted
order_in_quiet-requires-clause-uninterrupted c =
    let some : 0 < c.loop-next.self.quiet_until = omega (arith, c.loop-next.invariant.quiet) in
    none_pending c.loop-next.self.processor (rw c.loop-next.invariant.pace at c.loop-next.invariant.sound.pace some).0

pub returns-then-end-next-clause-ran : goal.returns-then-end-next-clause-ran
returns-then-end-next-clause-ran c =
    let some : 0 < c.loop-next.self.quiet_until = omega (arith, c.loop-next.invariant.quiet) in
    let t = state_of (engine_at c.loop-next.cycle c.loop-next.self) in
    let order = at_order c.loop-next.self.quiet_until t (c.loop-next.invariant.sound.quiet some) c.loop-next.invariant.quiet
    (rw c.loop-next.invariant.pace at c.loop-next.invariant.sound.pace some) in
    run_ends c.args.watch.now c.args.end (state_of c.args.self.now) t _ _ c.loop-next.invariant.way order c.in-Goes.ensures.step refl

pub loop-next-smaller : goal.loop-next-smaller
loop-next-smaller c = fewer_after_quiet _ _ c.in-Goes.ensures.step

pub loop-next-preserved : goal.loop-next-preserved
loop-next-preserved c =
    let same = c.in-Goes.ensures.quiet_until _ refl in
    let some : 0 < c.loop-next.self.quiet_until = omega (arith, c.loop-next.invariant.quiet) in
    let t = state_of (engine_at c.loop-next.cycle c.loop-next.self) in
    let order = at_order c.loop-next.self.quiet_until t (c.loop-next.invariant.sound.quiet some) c.loop-next.invariant.quiet
    (rw c.loop-next.invariant.pace at c.loop-next.invariant.sound.pace some) in
    record {
      sound = c.in-Goes.ensures.sound;
      way = run_goes_on c.args.watch.now c.args.end (state_of c.args.self.now) t _ c.loop-next.invariant.way order c.in-Goes.ensures.step (omega arith)
          (sym c.if-is_triggered.ensures);
      quiet = omega (arith, same, c.loop-next.invariant.end);
      end = omega (arith, same, c.loop-next.invariant.end);
      pace = c.in-Goes.ensures.pace ∙ c.loop-next.invariant.pace;
    }

pub returns-in-Ends-clause-ran : goal.returns-in-Ends-clause-ran
returns-in-Ends-clause-ran c =
    let some : 0 < c.loop-next.self.quiet_until = omega (arith, c.loop-next.invariant.quiet) in
    let t = state_of (engine_at c.loop-next.cycle c.loop-next.self) in
    let order = at_order c.loop-next.self.quiet_until t (c.loop-next.invariant.sound.quiet some) c.loop-next.invariant.quiet
    (rw c.loop-next.invariant.pace at c.loop-next.invariant.sound.pace some) in
    run_ends c.args.watch.now c.args.end (state_of c.args.self.now) t _ _ c.loop-next.invariant.way order c.in-Ends.ensures.step refl
