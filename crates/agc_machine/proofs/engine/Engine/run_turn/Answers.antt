use Rattle.std.proofs.Common.{sym, ◌∙◌, arith}
use Rattle.agc_machine.specs.Engine.{state_of}
use Rattle.agc_machine.proofs.Turns.{fewer_left, sound_later, way_at}
use Rattle.agc_machine.proofs.engine.Engine.run_turn.Goals as goal

pub returns-then-end-self-clause-left : goal.returns-then-end-self-clause-left
returns-then-end-self-clause-left c =
    fewer_left c.args.end c.loop-order.self.cycle (state_of c.args.self.now) (state_of c.loop-order.self) c.loop-order.invariant.1 (omega arith)

pub overflow_sub-self : goal.overflow_sub-self
overflow_sub-self c = omega (arith, c.loop-order.invariant.1.rises, c.run_still_order.ensures.rises)

pub after_turns-self-requires-clause-some : goal.after_turns-self-requires-clause-some
after_turns-self-requires-clause-some c = omega (arith, c.loop-order.invariant.1.rises, c.run_still_order.ensures.rises)

pub returns-then-is_same-clause-next : goal.returns-then-is_same-clause-next
returns-then-is_same-clause-next c =
    let leads = c.run_still_order.ensures.leads (state_of c.args.self.now) c.loop-order.invariant.1 in
    let same = c.is_same.ensures c.if-is_same.true in
    let back = sym c.context.ensures ∙ same ∙ c.context-start.ensures in
    way_at c.args.end _ c.after_turns-self.result (state_of c.args.self.now) (state_of c.run_still_order.new.self) leads back
    (omega (arith, c.loop-order.invariant.1.rises, c.run_still_order.ensures.rises)) c.after_turns-self.ensures.turns c.after_turns-self.ensures.before

pub returns-then-is_same-clause-sound : goal.returns-then-is_same-clause-sound
returns-then-is_same-clause-sound c =
    sound_later c.run_still_order.new.self c.after_turns-self.result c.run_still_order.ensures.sound c.after_turns-self.ensures.later
    (omega (arith, c.after_turns-self.ensures.before, c.loop-order.invariant.3, c.run_still_order.ensures.quiet_until))

pub returns-then-is_same-clause-left : goal.returns-then-is_same-clause-left
returns-then-is_same-clause-left c =
    let leads = c.run_still_order.ensures.leads (state_of c.args.self.now) c.loop-order.invariant.1 in
    fewer_left c.args.end c.after_turns-self.result (state_of c.args.self.now) (state_of c.run_still_order.new.self) leads c.after_turns-self.ensures.later

pub loop-order-preserved : goal.loop-order-preserved
loop-order-preserved c = (
  c.run_still_order.ensures.sound,
  c.run_still_order.ensures.leads (state_of c.args.self.now) c.loop-order.invariant.1,
  c.run_still_order.ensures.before,
  omega (arith, c.loop-order.invariant.3, c.run_still_order.ensures.quiet_until),
  c.run_still_order.ensures.pace ∙ c.loop-order.invariant.4,
)

pub returns-clause-left : goal.returns-clause-left
returns-clause-left c =
    fewer_left c.args.end c.loop-order.self.cycle (state_of c.args.self.now) (state_of c.loop-order.self) c.loop-order.invariant.1 (omega arith)
