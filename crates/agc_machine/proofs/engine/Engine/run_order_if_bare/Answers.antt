use Rattle.std.proofs.Common.{◌<◌, ◌≡◌, ◌∙◌, ap, arith, rules, subst, sym}
use Rattle.agc_machine.specs.Engine.{state_of}
use Rattle.agc_machine.specs.Quiet.{Serves}
use Rattle.agc_machine.specs.declared.quiet.Pace.{Pace}
use Rattle.agc_machine.specs.declared.quiet.Pace.TheVariants as pace
use Rattle.agc_machine.specs.declared.upcoming.InHand.{InHand}
use Rattle.agc_machine.specs.declared.upcoming.Upcoming.TheVariants as upcoming
use Rattle.agc_machine.proofs.Stillness.{bare_upcoming}
use Rattle.agc_machine.proofs.engine.Engine.run_order_if_bare.Goals as goal

pub returns-then-eq-clause-comes : goal.returns-then-eq-clause-comes
returns-then-eq-clause-comes c =
    let m = c.args.self.now in
    let some : 0 < m.quiet_until = omega arith in
    let bare : m.pace ≡ pace.Bare = search rules in
    let serves = subst (λ (p : Pace). Serves p (state_of m)) bare (c.requires.sound.pace some) in
    bare_upcoming m.quiet_until (state_of m) (c.requires.sound.quiet some) c.if-self.true serves
    ∙ sym (ap (λ (o : InHand). upcoming.Order o) c.in_hand-order.ensures.order)
