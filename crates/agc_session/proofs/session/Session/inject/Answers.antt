use Rattle.std.proofs.Common.{◌+◌, ◌<◌, length, refl, arith}
use Rattle.agc_session.proofs.Gone.{given_before, takes_event}
use Rattle.agc_session.proofs.session.Session.inject.Goals as goal

pub keep-requires-clause-later : goal.keep-requires-clause-later
keep-requires-clause-later c = rw c.cycle-cycle.ensures.cycle (given_before _ c.self.invariant.session)

pub invariant_of-self-2 : goal.invariant_of-self-2
invariant_of-self-2 c =
    let few : length c.self.inside.script + length c.self.inside.injected < 65536 = omega (arith, c.self.invariant.session.room, c.len.ensures.count, c.len-2.ensures.count, c.if-len-eq-MOST_EVENTS.false) in
    rw (c.in_ok-keep.ensures.ok, c.cycle-cycle.ensures.cycle) (takes_event _ c.args.what c.inject.new.self _ _ c.self.invariant (c.if-not-wants_key.ensures.wants.0 refl) c.inject.ensures few)
